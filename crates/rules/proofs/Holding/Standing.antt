-- What the invariant says of linked claims in the words of demand 2: they stand, no two seats have one node, and nothing else stands.
use Prim.Native.Nat.{ℕ}
use mathlib.Core.Path.{sym, ◌∙◌}
use mathlib.Core.Logic.{◌≢◌}
use borrow.Author.Tests.{eqb-false}
use Rattle.rules.specs.Tables.{Tables, mark, phase, own}
use Rattle.rules.specs.Apart.{LinkedIn, Stands, OfOneSeat}
use Rattle.rules.proofs.Ground.Deciding.{if_same}
use Rattle.rules.proofs.Laws.Words.{seat_count_law}
use Rattle.rules.proofs.Invariant.Phases.{linked_busy, linked_in, in_linked}
use Rattle.rules.proofs.Keeping.Good.{Good}
use Rattle.rules.proofs.Keeping.Hops.{on_list, busy_in}
use Rattle.rules.proofs.Holding.NothingDropped.{stands_as_it_is}

module _ {N S : ℕ} {t : Tables} (g : Good N S t) where
  pub linked_in_stands : (s : ℕ) → LinkedIn t s → Stands t (own t s)
  linked_in_stands s l = (stands_as_it_is g s (in_linked l.0 l.1)).stands

  pub different_nodes : (i j : ℕ) → i ≢ j → phase t i ≢ 0 → phase t j ≢ 0 → own t i ≢ own t j
  different_nodes = g.inv.distinct

  pub of_one_seat : (a : ℕ) → Stands t a → OfOneSeat t a
  of_one_seat a w =
      let o = g.inv.owner (on_list t a w.0) (eqb-false (mark t a) 1 w.1) in
      let busy = linked_busy o.linked in
      record {
        seat = o.seat;
        is_seat = rw (seat_count_law t S g.aside.seats_long) (busy_in g o.seat busy);
        linked_in = linked_in o.linked;
        owns = o.owns;
        no_other = λ r b e. if_same r o.seat (λ q. q) (λ d. absurd (different_nodes r o.seat d b busy (e ∙ sym o.owns)));
      }
