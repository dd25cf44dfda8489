-- A rule for each way through the code: what a function has learnt on that way gives what it promises.
use Prim.Native.Nat.{ℕ, ◌+◌, ◌<◌}
use mathlib.Core.Path.{◌≡◌, refl, sym, ap, ◌∙◌}
use mathlib.Core.Bool.{Bool, true}
use mathlib.Core.List.{List, []}
use mathlib.Core.Logic.{◌≢◌}
use native.Mathlib.Omega.{arith}
use borrow.Author.Tests.{eq-eqb, ne_eqb}
use Rattle.std.specs.Prelude.{Option, None, Some}
use Rattle.rules.specs.Tables.{Tables, tables, seat_width, phase_at, own_at, prev_at, cur_at, link_word, seat_word, put_seat, node_count_of, node_count, seat_count, phase, prev, cur}
use Rattle.rules.specs.Comparison.{Claim}
use Rattle.rules.specs.Shape.{sound}
use Rattle.rules.specs.Reach.{free, lowest_free, count_free}
use Rattle.rules.specs.Stores.{ListEnds}
use Rattle.rules.specs.Means.{node_if_any}
use Rattle.rules.specs.Fetch.{taken_out, write_claim, reserve_for, take_node, Fetched, fetched, fetch_again, fetch}
use Rattle.rules.proofs.Ground.Counting.{count_cut}
use Rattle.rules.proofs.Laws.Meanings.{no_node, some_node, named}
use Rattle.rules.proofs.Laws.Words.{seat_put_field, put_seat_self}
use Rattle.rules.proofs.Laws.Shape.{is_sound, in_6}
use Rattle.rules.proofs.Rules.Reasons.{fetch_none}
use Rattle.nodesets.specs.Set.{has, members}
use Rattle.reach.specs.FreeSet.{IsFreeSet}
use Rattle.reach.specs.Walks.{Links}
use Rattle.reach.proofs.Used.{sound_named}
use Rattle.rules.proofs.Laws.NodesAlone.{ends_alone, taken_out_alone}

-- ---- taking out
pub out_asks : (sheet : Bool) (nodes seats : List ℕ) → sound (tables sheet nodes seats) ≡ true → ListEnds (tables sheet nodes []) × Links sheet nodes
out_asks sheet nodes seats ok =
    let w = is_sound (tables sheet nodes seats) ok in
    (ends_alone sheet (node_count_of sheet nodes) nodes seats (link_word sheet nodes 0) ∙ w.ends, (sound_named (tables sheet nodes seats) w).links)

-- ---- free count
pub count_read : (ws : List ℕ) (t : Tables) (c r : ℕ) → r ≡ members ws 256 → IsFreeSet ws t c → c ≡ seat_count t → r ≡ count_free t
unfolding count_free members
count_read ws t c r p f e = p ∙ rw (← e) (count_cut (node_count t) 256 (λ m. has ws (m + 1)) (λ m. free t c (m + 1)) f.few f.free_nodes)

-- ---- what is stored
-- no prev and no cur are stored where there are none
module _ (sheet : Bool) (seats : List ℕ) (s a : ℕ) where
  abbrev with_node : List ℕ
  with_node = put_seat sheet (put_seat sheet seats s phase_at 7) s own_at a

  left_at_0 : (f : ℕ) → f < seat_width sheet → phase_at ≢ f → own_at ≢ f → seat_word sheet seats s f ≡ 0 → put_seat sheet with_node s f 0 ≡ with_node
  left_at_0 f h d d' z =
      put_seat_self sheet with_node s f 0
      (seat_put_field sheet (put_seat sheet seats s phase_at 7) s s own_at f a (omega arith) h d' ∙ seat_put_field sheet seats s s phase_at f 7 (omega arith) h d ∙ z)

  pub reserves : (seats₁ seats₂ : List ℕ) → prev (tables sheet [] seats) s ≡ 0 → cur (tables sheet [] seats) s ≡ 0
      → seats₁ ≡ put_seat sheet seats s phase_at 7 → seats₂ ≡ put_seat sheet seats₁ s own_at a → seats₂ ≡ (reserve_for (tables sheet [] seats) s a).seats
  unfolding reserve_for
  reserves seats₁ seats₂ z z' q₁ q₂ =
      rw (left_at_0 prev_at (omega arith) (omega arith) (omega arith) z, left_at_0 cur_at (omega arith) (omega arith) (omega arith) z', ← q₁, ← q₂)

-- who fetches has none
module _ (sheet : Bool) (nodes seats : List ℕ) (s : ℕ) (ok : sound (tables sheet nodes seats) ≡ true) where
  pub idle_no_prev : phase (tables sheet nodes seats) s ≡ 0 → prev (tables sheet [] seats) s ≡ 0
  idle_no_prev e = ((is_sound (tables sheet nodes seats) ok).seat s).idle e prev_at (omega arith)

  pub idle_no_cur : phase (tables sheet nodes seats) s ≡ 0 → cur (tables sheet [] seats) s ≡ 0
  idle_no_cur e = ((is_sound (tables sheet nodes seats) ok).seat s).idle e cur_at (omega arith)

  pub withdrawn_no_prev : phase (tables sheet nodes seats) s ≡ 6 → prev (tables sheet [] seats) s ≡ 0
  withdrawn_no_prev e = (((is_sound (tables sheet nodes seats) ok).seat s).resting (in_6 e)).0

  pub withdrawn_no_cur : phase (tables sheet nodes seats) s ≡ 6 → cur (tables sheet [] seats) s ≡ 0
  withdrawn_no_cur e = (((is_sound (tables sheet nodes seats) ok).seat s).resting (in_6 e)).1

pub taken : (sheet : Bool) (nodes nodes' seats seats' : List ℕ) (s a : ℕ) (c : Claim) → seats' ≡ (reserve_for (tables sheet [] seats) s a).seats → nodes' ≡ (write_claim (tables sheet nodes []) a c).nodes → tables sheet nodes' seats' ≡ take_node (tables sheet nodes seats) s a c
unfolding take_node write_claim reserve_for
taken sheet nodes nodes' seats seats' s a c p q = rw (p, q)

-- ---- fetch: what it answers and leaves, beside what the rule does
abbrev pub Took : Option ℕ → Tables → Fetched → Type 0
Took r t f = (r ≡ node_if_any f.node) × (t ≡ f.after)

took_node : (a : ℕ) (t : Tables) (f : Fetched) → fetched a t ≡ f → a ≢ 0 → Took (Some a) t f
took_node a t f e d = (named f.node a (sym (ap (λ (g : Fetched). g.node) e)) d, ap (λ (g : Fetched). g.after) e)

took_none : (t : Tables) (f : Fetched) → fetched 0 t ≡ f → Took None t f
unfolding node_if_any
took_none t f e = rw (← e) (refl, refl)

module _ (sheet : Bool) (nodes seats nodes' seats' : List ℕ) (s : ℕ) (c : Claim) where
  pub again_none : None ≡ node_if_any (lowest_free (taken_out (tables sheet nodes seats)) s) → Took None (tables sheet nodes seats) (fetch_again (tables sheet nodes seats) s c)
  unfolding fetch_again
  again_none p = took_none (tables sheet nodes seats) _ (rw (eq-eqb (lowest_free (taken_out (tables sheet nodes seats)) s) 0 (no_node _ p)))

  pub again_taken : (mid : List ℕ) (a : ℕ) → tables sheet nodes' seats' ≡ take_node (tables sheet mid seats) s a c → mid ≡ (taken_out (tables sheet nodes [])).nodes
      → Some a ≡ node_if_any (lowest_free (taken_out (tables sheet nodes seats)) s) → Took (Some a) (tables sheet nodes' seats') (fetch_again (tables sheet nodes seats) s c)
  unfolding fetch_again
  again_taken mid a w q p =
      let is : (lowest_free (taken_out (tables sheet nodes seats)) s ≡ a) × (a ≢ 0) = some_node _ a p in
      took_node a (tables sheet nodes' seats') _
      (rw (ne_eqb (lowest_free (taken_out (tables sheet nodes seats)) s) 0 (λ y. is.1 (sym is.0 ∙ y)), is.0, ← taken_out_alone sheet nodes seats)
      (ap (fetched a) (w ∙ ap (λ (l : List ℕ). take_node (tables sheet l seats) s a c) q)))
      is.1

  pub fetch_taken : (a : ℕ) → tables sheet nodes' seats' ≡ take_node (tables sheet nodes seats) s a c → Some a ≡ node_if_any (lowest_free (tables sheet nodes seats) s)
      → Took (Some a) (tables sheet nodes' seats') (fetch (tables sheet nodes seats) s c)
  unfolding fetch
  fetch_taken a w p =
      let is : (lowest_free (tables sheet nodes seats) s ≡ a) × (a ≢ 0) = some_node _ a p in
      took_node a (tables sheet nodes' seats') _
      (rw (ne_eqb (lowest_free (tables sheet nodes seats) s) 0 (λ y. is.1 (sym is.0 ∙ y)), is.0, w))
      is.1

  pub fetch_tried_again : (r : Option ℕ) → None ≡ node_if_any (lowest_free (tables sheet nodes seats) s) → Took r (tables sheet nodes' seats') (fetch_again (tables sheet nodes seats) s c)
      → Took r (tables sheet nodes' seats') (fetch (tables sheet nodes seats) s c)
  unfolding fetch
  fetch_tried_again r p w = rw (eq-eqb (lowest_free (tables sheet nodes seats) s) 0 (no_node _ p)) w

  -- what a caller knows where none is free
  pub none_kept : Took None (tables sheet nodes' seats') (fetch (tables sheet nodes seats) s c) → tables sheet nodes' seats' ≡ tables sheet nodes seats
  none_kept w = w.1 ∙ fetch_none (tables sheet nodes seats) s c (no_node _ w.0)

  pub none_is : Took None (tables sheet nodes' seats') (fetch (tables sheet nodes seats) s c) → fetched 0 (tables sheet nodes' seats') ≡ fetch (tables sheet nodes seats) s c
  none_is w = rw (w.1, ← no_node _ w.0)

  pub node_is : (a : ℕ) → Took (Some a) (tables sheet nodes' seats') (fetch (tables sheet nodes seats) s c) → (fetched a (tables sheet nodes' seats') ≡ fetch (tables sheet nodes seats) s c) × (a ≢ 0)
  node_is a w = let is : ((fetch (tables sheet nodes seats) s c).node ≡ a) × (a ≢ 0) = some_node _ a w.0 in (rw (w.1, ← is.0), is.1)
