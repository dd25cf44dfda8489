-- A call changes no claim but that of the node it takes, and what it takes is no other seat's own: so every other seat keeps its claim. Of any
-- tables, since a call on damaged ones changes nothing.
use Prim.Native.Nat.{ℕ, ◌≤◌, ◌<◌}
use mathlib.Core.Path.{◌≡◌, refl, sym, ◌∙◌}
use mathlib.Core.Bool.{true, ◌||◌}
use mathlib.Core.Logic.{◌≢◌}
use native.Mathlib.Omega.{arith}
use native.Mathlib.Decide.{dec_lt}
use borrow.Author.Tests.{eqb-false}
use Rattle.rules.specs.Notation.{◌is◌}
use Rattle.rules.specs.Tables.{Tables, node_count, seat_count, own_at, phase, own}
use Rattle.rules.specs.Comparison.{Claim, claim_of}
use Rattle.rules.specs.Shape.{sound}
use Rattle.rules.specs.Reach.{met, listed, others_reach, free, lowest_free}
use Rattle.rules.specs.Fetch.{Fetched, taken_out}
use Rattle.rules.specs.Answers.{Answer, Done, node}
use Rattle.rules.specs.Steps.{refetched}
use Rattle.rules.specs.Calls.{reserved, step, reserve}
use Rattle.rules.specs.Play.{Call, reserve_call, enter_call, step_call, release_call, call, seat_of}
use Rattle.rules.specs.Apart.{claim_of_seat}
use Rattle.rules.proofs.Ground.Logic.{branch, or_neither, not_true, clash}
use Rattle.rules.proofs.Ground.Deciding.{if_same}
use Rattle.rules.proofs.Ground.Counting.{lowest_has}
use Rattle.rules.proofs.Laws.Words.{seat_past, same_node_count}
use Rattle.rules.proofs.Laws.Shape.{is_sound}
use Rattle.rules.proofs.Laws.NodesAlone.{taken_out_profile, taken_out_seats}
use Rattle.rules.proofs.Laws.Listed.{met_here}
use Rattle.rules.proofs.Laws.Free.{others_miss}
use Rattle.rules.proofs.Rules.Reasons.{by_phase_6, by_no_phase, Fetching, found, found_then, none, fetching as fetching_of}
use Rattle.rules.proofs.Rules.Accepting.{Reserving, reserve_refused, reserve_accepted, reserving, step_or_same, step_enters}
use Rattle.rules.proofs.Frames.SeatFrames.{other_seats_kept}
use Rattle.rules.proofs.Frames.NodeFrames.{taking_out, fetching, step_1_kept, step_2_kept, step_3_kept, step_4_kept, step_6_kept, reserve_kept, enter_kept, release_kept}
use Rattle.rules.proofs.Rules.RefusedExactly.{not_refused}

-- ---- only fetch changes a claim
module _ (t : Tables) (s a : ℕ) where
  -- the phase of a step that is accepted is one of these, or nothing is done
  step_claims : (phase t s ≡ 6 → claim_of (step t s).after a ≡ claim_of t a) → claim_of (step t s).after a ≡ claim_of t a
  step_claims fetched =
      if_same (phase t s) 1 (λ e. (step_1_kept t s e).claim_kept a (λ z. z)) (λ d₁.
      if_same (phase t s) 2 (λ e. (step_2_kept t s e).claim_kept a (λ z. z)) (λ d₂.
      if_same (phase t s) 3 (λ e. (step_3_kept t s e).claim_kept a (λ z. z)) (λ d₃.
      if_same (phase t s) 4 (λ e. (step_4_kept t s e).claim_kept a (λ z. z)) (λ d₄.
      if_same (phase t s) 6 fetched (λ d₆.
      if_same (phase t s) 7 (λ e. rw (step_enters t s e) ((enter_kept t s).claim_kept a (λ z. z))) (λ d₇.
      step_or_same t s (λ u. claim_of u a ≡ claim_of t a) refl (λ e h b. rw (by_no_phase t s d₁ d₂ d₃ d₄ d₆ d₇))))))))

pub claims_kept : (t : Tables) (c : Call) (a : ℕ) → a ≢ own (call t c).after (seat_of c) → claim_of (call t c).after a ≡ claim_of t a
unfolding call
claims_kept t (reserve_call s c) a d = (reserve_kept t s c).claim_kept a d
claims_kept t (enter_call s) a d = (enter_kept t s).claim_kept a (λ z. z)
claims_kept t (step_call s) a d = step_claims t s a (λ e. (step_6_kept t s e).claim_kept a d)
claims_kept t (release_call s) a d = (release_kept t s).claim_kept a (λ z. z)

-- ---- what fetch takes is free, and a free node is no other seat's own
free_not_own : (t : Tables) (s r a : ℕ) → lowest_free t s ≡ a → a ≢ 0 → 1 ≤ node_count t → r < seat_count t → r ≢ s → own t r ≢ a
unfolding lowest_free free
free_not_own t s r a p z n l d e =
    let f = (lowest_has (node_count t) (free t s) a p z).0 in
    let q = or_neither (listed t a) (others_reach t s a) (not_true (listed t a || others_reach t s a) f) in
    clash (met (node_count t) t a a) (met_here t a (node_count t) n z) (rw e at (others_miss t s a r q.1 l d).from_own)

module _ (t : Tables) (e : sound t ≡ true) (s r : ℕ) (d : r ≢ s) where
  -- of a seat that is not there own is 0
  if_there : (a : ℕ) → a ≢ 0 → (r < seat_count t → own t r ≢ a) → own t r ≢ a
  if_there a z f = elim (dec_lt r (seat_count t)) [
    | yes l ↦ f l
    | no l ↦ λ q. z (sym q ∙ seat_past t r own_at (is_sound t e).seats_length (omega arith))
  ]

  not_taken : {c : Claim} {f : Fetched} → Fetching t s c f → f.node ≢ 0 → own t r ≢ f.node
  not_taken (found a p z) k = if_there a z (λ l. free_not_own t s r a p z (is_sound t e).some_nodes l d)
  not_taken (found_then a p p' z) k =
      let same = taken_out_seats t in
      let profile = taken_out_profile t in
      let nodes = same_node_count t (taken_out t) profile (taking_out t).same_length in
      if_there a z (λ l. rw (profile, same) at (free_not_own (taken_out t) s r a p' z (rw nodes (is_sound t e).some_nodes) (rw (profile, same) l) d))
  not_taken (none p p') k = absurd (k refl)

  taken_keeps : {c : Claim} {f : Fetched} → Fetching t s c f → f.node ≢ 0 → claim_of f.after (own t r) ≡ claim_of t (own t r)
  taken_keeps w k = (fetching w).claim_kept (own t r) (not_taken w k)

pub taken_not_own : (t : Tables) (s n : ℕ) (c : Claim) → (reserve t s c).answer ≡ node n → (r : ℕ) → r ≢ s → own t r ≢ n
taken_not_own t s n c q r d = go (reserving t s c) q
  where
    go : {x : Done Answer} → Reserving t s c x → x.answer ≡ node n → own t r ≢ n
    go (reserve_refused k w) q = not_refused (sym q)
    go (reserve_accepted {f = f} e h p k i z w) q = unfold reserved in
        branch (λ (x : Done Answer). x.answer ≡ node n → own t r ≢ n) (f.node is 0)
        (λ y q. not_refused (sym q))
        (λ y q. let m : f.node ≡ n = cc in rw m at (not_taken t e s r d w (eqb-false f.node 0 y)))
        q

-- ---- so every other seat keeps its claim
module _ (t : Tables) (s r : ℕ) (d : r ≢ s) where
  abbrev Keeps : Done Answer → Type 0
  Keeps x = claim_of x.after (own t r) ≡ claim_of t (own t r)

  reserved_keeps : (c : Claim) {x : Done Answer} → Reserving t s c x → Keeps x
  unfolding reserved
  reserved_keeps c (reserve_refused k q) = refl
  reserved_keeps c (reserve_accepted {f = f} e h p k i z w) = branch Keeps (f.node is 0) (λ q. refl) (λ q. taken_keeps t e s r d w (eqb-false f.node 0 q))

  refetched_keeps : sound t ≡ true → {c : Claim} {f : Fetched} → Fetching t s c f → Keeps (refetched t s f)
  unfolding refetched
  refetched_keeps e {f = f} w = branch Keeps (f.node is 0) (λ q. refl) (λ q. taken_keeps t e s r d w (eqb-false f.node 0 q))

  stepped_keeps : Keeps (step t s)
  stepped_keeps =
      step_claims t s (own t r) (λ p. step_or_same t s (λ u. claim_of u (own t r) ≡ claim_of t (own t r)) refl
      (λ e h b. rw (by_phase_6 t s p) (refetched_keeps e (fetching_of t s (claim_of t (own t s))))))

pub others_claims_kept : (t : Tables) (c : Call) (r : ℕ) → r ≢ seat_of c → claim_of_seat (call t c).after r ≡ claim_of_seat t r
unfolding call
others_claims_kept t c r d = rw ((other_seats_kept t c).word r own_at d (omega arith)) (kept c d)
  where
    kept : (c : Call) → r ≢ seat_of c → claim_of (call t c).after (own t r) ≡ claim_of t (own t r)
    kept (reserve_call s c) d = reserved_keeps t s r d c (reserving t s c)
    kept (enter_call s) d = (enter_kept t s).claim_kept (own t r) (λ z. z)
    kept (step_call s) d = stepped_keeps t s r d
    kept (release_call s) d = (release_kept t s).claim_kept (own t r) (λ z. z)
