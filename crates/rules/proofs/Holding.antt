-- From the invariant to demand 2: why holders are apart, why the list is in order, why no standing claim is dropped; and what of covered frames hangs on it. Stated in Apart and Covered; may use
-- all rooms before.
pub mod Exclusion
pub mod ListOrder
pub mod NothingDropped
pub mod Standing
pub mod CoveredOnce
pub mod ReservedClaims
pub mod SheetsApart
