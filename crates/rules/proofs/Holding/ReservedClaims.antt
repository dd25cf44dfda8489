-- What is known of a reserved claim: what reserve leaves, and a withdrawn seat that has fetched, of any tables; and, in reached ones, that it is not
-- on the list.
use Prim.Native.Nat.{ℕ, ◌+◌, ◌*◌, ◌≤◌, ◌<◌}
use mathlib.Core.Path.{◌≡◌, refl, sym, ◌∙◌}
use mathlib.Core.Bool.{true, false}
use mathlib.Core.Logic.{◌≢◌}
use native.Mathlib.Omega.{arith}
use lib.ListN.{length}
use borrow.Author.Tests.{eqb-false}
use Rattle.rules.specs.Notation.{◌is◌}
use Rattle.rules.specs.Tables.{Tables, before_nodes, node_width, node_count, seat_count, start_at, end_at, kind_at, next_at, mark_at, phase_at, own_at, prev_at, cur_at, phase, own}
use Rattle.rules.specs.Comparison.{Claim}
use Rattle.rules.specs.Shape.{sound}
use Rattle.rules.specs.Reach.{listed, lowest_free, free}
use Rattle.rules.specs.Fetch.{Fetched, write_claim, reserve_for, take_node, taken_out}
use Rattle.rules.specs.Answers.{Answer, node, on, Done}
use Rattle.rules.specs.Steps.{refetched}
use Rattle.rules.specs.Calls.{reserved, reserve, step}
use Rattle.rules.specs.Apart.{claim_of_seat}
use Rattle.rules.specs.Reserved.{HasReserved}
use Rattle.rules.proofs.Ground.Logic.{branch, not_of}
use Rattle.rules.proofs.Ground.Deciding.{if_same}
use Rattle.rules.proofs.Ground.Counting.{lowest_has}
use Rattle.rules.proofs.Laws.Words.{link_node, same_node_count}
use Rattle.rules.proofs.Laws.Shape.{is_sound}
use Rattle.rules.proofs.Laws.NodesAlone.{taken_out_profile, taken_out_seats}
use Rattle.rules.proofs.Invariant.View.{reserved as in_reserve}
use Rattle.rules.proofs.Invariant.Phases.{linked_busy, not_both}
use Rattle.rules.proofs.Rules.Effects.{Room}
use Rattle.rules.proofs.Rules.RuleEffects.{reserve_stored}
use Rattle.rules.proofs.Rules.Reasons.{Fetching, found, found_then, none, in_1, in_2, in_3, in_4, in_6, in_7, at_rest}
use Rattle.rules.proofs.Rules.Accepting.{Reserving, reserve_refused, reserve_accepted, reserving, Stepped, step_refused, step_accepted, stepped}
use Rattle.rules.proofs.Rules.RefusedExactly.{not_refused, on_not_refused}
use Rattle.rules.proofs.Frames.SeatFrames.{sound_room}
use Rattle.rules.proofs.Frames.NodeFrames.{taking_out}
use Rattle.rules.proofs.Keeping.Good.{Good}
use Rattle.rules.proofs.Keeping.Hops.{on_list}
use Rattle.rules.proofs.Keeping.FetchKeeps.{claim_written}

-- ---- the node that is taken
taken_has : (t : Tables) (s a : ℕ) (c : Claim) → Room t s → a ≢ 0 → before_nodes t.sheet + node_width * a ≤ length t.nodes → HasReserved (take_node t s a c) s a c
unfolding take_node reserve_for write_claim
taken_has t s a c r z long =
    let w = reserve_stored (write_claim t a c) s r a in
    let n = claim_written t a c z long in
    record {
      in_phase_7 = w.at_s phase_at (omega arith);
      owns = w.at_s own_at (omega arith);
      no_prev = w.at_s prev_at (omega arith);
      no_cur = w.at_s cur_at (omega arith);
      is_claim = rw (n.at_a start_at (omega arith), n.at_a end_at (omega arith), n.at_a kind_at (omega arith));
      unmarked = n.at_a mark_at (omega arith);
      no_next = link_node t.sheet (write_claim t a c).nodes a z ∙ n.at_a next_at (omega arith);
    }

-- the lowest free node is one of the table's, with all of its words there
lowest_there : (t : Tables) (s a : ℕ) → lowest_free t s ≡ a → a ≢ 0 → length t.nodes ≡ before_nodes t.sheet + node_width * node_count t → before_nodes t.sheet + node_width * a ≤ length t.nodes
unfolding lowest_free
lowest_there t s a e z l = let w = lowest_has (node_count t) (free t s) a e z in let h = w.1 in omega arith

fetched_has : {t : Tables} {s : ℕ} {c : Claim} {f : Fetched} → sound t ≡ true → s < seat_count t → f.node ≢ 0 → Fetching t s c f → HasReserved f.after s f.node c
fetched_has {t} {s} {c} e h d (found a q z) =
    taken_has t s a c (sound_room t s e h) z (lowest_there t s a q z (is_sound t e).nodes_length)
fetched_has {t} {s} {c} e h d (found_then a q q' z) =
    let same = (taking_out t).same_length in
    let profile = taken_out_profile t in
    let count = same_node_count t (taken_out t) profile same in
    taken_has (taken_out t) s a c (rw (profile, taken_out_seats t) (sound_room t s e h)) z
    (lowest_there (taken_out t) s a q' z (rw (same, count, profile) (is_sound t e).nodes_length))
fetched_has e h d (none q q') = absurd (d refl)

-- ---- reserve, and a withdrawn seat that fetches
pub reserve_leaves : (t : Tables) (s n : ℕ) (c : Claim) → (reserve t s c).answer ≡ node n → HasReserved (reserve t s c).after s n c
reserve_leaves t s n c = go (reserving t s c)
  where
    go : {d : Done Answer} → Reserving t s c d → d.answer ≡ node n → HasReserved d.after s n c
    go (reserve_refused k x) q = not_refused (sym q)
    go (reserve_accepted {f = f} e h p k i z w) q = unfold reserved in
        branch (λ (d : Done Answer). d.answer ≡ node n → HasReserved d.after s n c) (f.node is 0)
        (λ y q. not_refused (sym q))
        (λ y q. let m : f.node ≡ n = cc in rw m at (fetched_has e h (eqb-false f.node 0 y) w))
        q

pub refetch_leaves : (t : Tables) (s : ℕ) → phase t s ≡ 6 → (step t s).answer ≡ on → HasReserved (step t s).after s (own (step t s).after s) (claim_of_seat t s)
refetch_leaves t s six = go (stepped t s)
  where
    go : {d : Done Answer} → Stepped t s d → d.answer ≡ on → HasReserved d.after s (own d.after s) (claim_of_seat t s)
    go (step_refused k x) q = on_not_refused (sym q)
    go (step_accepted e h b (in_1 p w)) q = absurd (omega arith)
    go (step_accepted e h b (in_2 p w)) q = absurd (omega arith)
    go (step_accepted e h b (in_3 p w)) q = absurd (omega arith)
    go (step_accepted e h b (in_4 p w)) q = absurd (omega arith)
    go (step_accepted e h b (in_6 {f = f} p w)) q = unfold refetched in
        branch (λ (d : Done Answer). d.answer ≡ on → HasReserved d.after s (own d.after s) (claim_of_seat t s)) (f.node is 0)
        (λ y q. on_not_refused (sym q))
        (λ y q. let r = fetched_has e h (eqb-false f.node 0 y) w in rw r.owns r)
        q
    go (step_accepted e h b (in_7 p)) q = absurd (omega arith)
    go (step_accepted e h b (at_rest d₁ d₂ d₃ d₄ d₆ d₇)) q = absurd (d₆ six)

-- ---- a reserved claim is not on the list: what is listed and not marked is a linked claim's, and no other seat has its node
pub reserved_off_list : {N S : ℕ} {t : Tables} → Good N S t → (s : ℕ) → phase t s ≡ 7 → listed t (own t s) ≡ false
reserved_off_list {t = t} g s p =
    not_of (listed t (own t s)) (λ on.
    let o = g.inv.owner (on_list t (own t s) on) (g.inv.outside s (in_reserve p)).unmarked in
    if_same o.seat s
    (λ e. not_both (in_reserve p) (rw e at o.linked))
    (λ d. g.inv.distinct o.seat s d (linked_busy o.linked) (omega arith) o.owns))
