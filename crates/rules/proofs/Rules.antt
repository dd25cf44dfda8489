-- The step rules and the calls by their reasons (what was looked at to come to an outcome) and their effects (which words they store). Of any
-- tables that have room for the seat. They may use the laws and the view; a theorem on steps goes by clauses on these reasons.
pub mod Effects
pub mod RuleEffects
pub mod Reasons
pub mod Accepting
pub mod RefusedExactly
