-- N hops are enough: what the tests find listed or free is so in the theory's sense.
use Prim.Native.Nat.{ℕ, ◌≤◌, ◌<◌}
use mathlib.Core.Path.{◌≡◌, sym, ◌∙◌}
use mathlib.Core.Bool.{true, false, ◌||◌}
use mathlib.Core.Logic.{◌≢◌}
use native.Mathlib.Omega.{arith}
use native.Mathlib.Decide.{dec_lt}
use Rattle.rules.specs.Tables.{Tables, node_count, seat_word, phase_at, own_at, prev_at, cur_at, link, head, phase, prev, cur}
use Rattle.rules.specs.Reach.{met, listed, others_reach, free, Reach}
use Rattle.rules.proofs.Ground.Logic.{or_neither, not_true, clash}
use Rattle.rules.proofs.Laws.Words.{seat_past, node_count_law, seat_count_law}
use Rattle.rules.proofs.Ground.Following.{not_from_0}
use Rattle.rules.proofs.Laws.Listed.{met_reach, met_here, reach_met}
use Rattle.rules.proofs.Laws.Free.{Misses, others_miss}
use Rattle.rules.proofs.Invariant.View.{nodes_of, seats_of}
use Rattle.rules.proofs.Invariant.Clauses.{OnList}
use Rattle.rules.proofs.Invariant.Known.{Known, known_head, known_prev, known_cur, known_named, named_in}
use Rattle.rules.proofs.Invariant.Take.{Free}
use Rattle.rules.proofs.Keeping.Good.{Good}

pub on_list : (t : Tables) (x : ℕ) → listed t x ≡ true → OnList (link t) x
unfolding listed
on_list t x e = met_reach t x (node_count t) (head t) e

module _ {N S : ℕ} {t : Tables} (g : Good N S t) where
  -- from where a walk can be, what is reached is met
  reached_met : (a x : ℕ) → Known (link t) (seats_of t) a → Reach (link t) x a → met (node_count t) t a x ≡ true
  reached_met a x k r =
      rw (node_count_law t N g.aside.nodes_long) (reach_met t x N (λ b. named_in (g.inv.nodes.links b)) (named_in (known_named g.inv k)) r)

  not_reached : (a x : ℕ) → Known (link t) (seats_of t) a → met (node_count t) t a x ≡ false → Reach (link t) x a → ⊥
  not_reached a x k e r = clash (met (node_count t) t a x) (reached_met a x k r) e

  pub is_listed : {x : ℕ} → OnList (link t) x → listed t x ≡ true
  unfolding listed
  is_listed {x} r = reached_met (head t) x known_head r

  -- a seat past the last one is nowhere
  past : (r f : ℕ) → S ≤ r → seat_word t.sheet t.seats r f ≡ 0
  past r f h = let e = seat_count_law t S g.aside.seats_long in seat_past t r f (rw e g.aside.seats_long) (rw e h)

  -- so a seat with a claim is one of the S
  pub busy_in : (r : ℕ) → phase t r ≢ 0 → r < S
  busy_in r d = elim (dec_lt r S) [ yes l ↦ l | no l ↦ absurd (d (past r phase_at (omega arith))) ]

  pub is_free : (s x : ℕ) → free t s x ≡ true → x ≢ 0 → x ≤ N → Free (nodes_of t) (seats_of t) s x
  unfolding free listed
  is_free s x e z h =
      let q = or_neither (met (node_count t) t (head t) x) (others_reach t s x) (not_true (met (node_count t) t (head t) x || others_reach t s x) e) in
      let count = node_count_law t N g.aside.nodes_long in
      let miss : (r : ℕ) → r < S → r ≢ s → Misses t r x = λ r l d. others_miss t s x r q.1 (rw (seat_count_law t S g.aside.seats_long) l) d in
      record {
        is_node = omega arith;
        off_list = not_reached (head t) x known_head q.0;
        not_own = λ r d y. elim (dec_lt r S) [
          | yes l ↦ clash (met (node_count t) t x x) (met_here t x (node_count t) (omega arith) z) (rw y at (miss r l d).from_own)
          | no l ↦ z (sym y ∙ past r own_at (omega arith))
        ];
        not_prev = λ r d y. elim (dec_lt r S) [
          | yes l ↦ not_reached (prev t r) x (known_prev r) (miss r l d).from_prev y
          | no l ↦ not_from_0 y (past r prev_at (omega arith))
        ];
        not_cur = λ r d y. elim (dec_lt r S) [
          | yes l ↦ not_reached (cur t r) x (known_cur r) (miss r l d).from_cur y
          | no l ↦ not_from_0 y (past r cur_at (omega arith))
        ];
      }
