-- A writer that validates alone holds or withdraws within the nodes ahead of it and one step more; and it holds if its way to itself is
-- known to be clear.
use Prim.Native.Nat.{ℕ, suc, ◌≤◌, ◌<◌}
use mathlib.Core.Path.{◌≡◌, sym, ◌∙◌}
use mathlib.Core.Bool.{Bool, true, false}
use mathlib.Core.Logic.{◌≢◌, inl, inr}
use native.Mathlib.Omega.{arith}
use Rattle.rules.specs.Tables.{Tables, start_at, end_at, kind_at, mark_at, phase_at, own_at, cur_at, start, end, kind, mark, link, phase, own, cur}
use Rattle.rules.specs.Steps.{pass, hold, withdraw}
use Rattle.rules.proofs.Ground.Logic.{not_of}
use Rattle.rules.proofs.Ground.Following.{reach_source, not_from_0, beyond, Ends, ends_tail}
use Rattle.rules.specs.Reach.{Reach, here, there}
use Rattle.rules.specs.Reached.{Reached}
use Rattle.rules.proofs.Rules.RuleEffects.{pass_stored, hold_stored, withdraw_stored}
use Rattle.rules.proofs.Rules.Reasons.{writer_holds, writer_unlinks, writer_passes, withdraws, Validating, validates_reader, validates_writer}
use Rattle.rules.proofs.Keeping.Aside.{seat_room}
use Rattle.rules.proofs.Keeping.CallKeeps.{good}
use Rattle.rules.proofs.Waiting.Within.{Within, now, later, along_chain}
use Rattle.rules.proofs.Waiting.Alone.{alone, AtRest, rests_holding, after_3, unlinked}

-- own lies ahead of cur, and no claim that stands between them reaches into it
pub record ClearWay (s : ℕ) (t : Tables) : Type 0 where
  pub ahead : Reach (link t) (own t s) (cur t s)
  pub clear : (x : ℕ) → Reach (link t) x (cur t s) → Reach (link t) (own t s) x → x ≢ own t s → mark t x ≢ 1 → end t x ≤ start t (own t s)

-- how a writer's validation ends: it withdraws only if its way was not known to be clear
pub data WriterEnds (N S s : ℕ) (known : Bool) (t : Tables) : Type 0 where
  at_rest : AtRest s t → WriterEnds N S s known t
  withdrawn : known ≡ false → Reached N S t → phase t s ≡ 6 → WriterEnds N S s known t

record WriterAt (N S s : ℕ) (known : Bool) (t : Tables) : Type 0 where
  reached : Reached N S t
  in_3 : phase t s ≡ 3
  writes : kind t (own t s) ≢ 1
  way : known ≡ true → ClearWay s t

module _ {N S : ℕ} (s : ℕ) (s_in : s < S) (known : Bool) where
  one_step : (m k : ℕ) (t : Tables) → WriterAt N S s known t → Ends (link t) (cur t s) k
      → ((u : Tables) → WriterAt N S s known u → (j : ℕ) → Ends (link u) (cur u s) j → j < k → Within (alone s) (WriterEnds N S s known) m u)
      → {u : Tables} → Validating t s u → Reached N S u → Within (alone s) (WriterEnds N S s known) m u
  unfolding pass hold withdraw
  one_step m k t r e on (validates_reader x w) g = absurd (r.writes x)
  one_step m k t r e on (validates_writer x (writer_holds f)) g =
      now (at_rest (rests_holding ((hold_stored t s (seat_room (good r.reached).aside s s_in)).at_s phase_at (omega arith))))
  one_step m k t r e on (validates_writer x (withdraws d f)) g =
      now (withdrawn
      (not_of known (λ q. let w = r.way q in elim f [
        | inl z ↦ not_from_0 w.ahead z
        | inr z ↦ let y = w.clear (cur t s) (here (reach_source w.ahead)) w.ahead d z.0 in omega arith
      ]))
      g ((withdraw_stored t s (seat_room (good r.reached).aside s s_in)).at_s phase_at (omega arith)))
  one_step m k t r e on (validates_writer x (writer_unlinks d c mk w)) g =
      let f = unlinked s s_in r.reached c w in
      let z = ends_tail e c in
      let y = f.ends z.1 in
      let pos : 0 < cur t s = omega arith in
      on _ (record {
        reached = g;
        in_3 = f.same_phase ∙ r.in_3;
        writes = rw (f.same_own, f.same_word (own t s) kind_at (omega arith) (omega arith)) r.writes;
        way = λ q. let v = r.way q in record {
          ahead = rw (f.same_own, f.on_to_next) (f.keeps (λ y. d (sym y)) (beyond d v.ahead));
          clear = rw (f.same_own, f.on_to_next) (λ a ra ro ne mk'.
              rw (f.same_word a end_at (omega arith) (omega arith), f.same_word (own t s) start_at (omega arith) (omega arith))
              (v.clear a (there pos (f.adds_none ra)) (f.adds_none ro) ne (rw (f.same_word a mark_at (omega arith) (omega arith)) at mk')));
        };
      })
      y.0 (rw f.on_to_next y.1) (omega arith)
  one_step m k t r e on (validates_writer x (writer_passes d c mk l)) g =
      let w = pass_stored t s (seat_room (good r.reached).aside s s_in) in
      let z = ends_tail e c in
      let pos : 0 < cur t s = omega arith in
      let own_is = w.at_s own_at (omega arith) in
      let cur_is = w.at_s cur_at (omega arith) in
      on (pass t s) (record {
        reached = g;
        in_3 = w.at_s phase_at (omega arith) ∙ r.in_3;
        writes = rw own_is r.writes;
        way = λ q. let v = r.way q in record {
          ahead = rw (own_is, cur_is) (beyond d v.ahead);
          clear = rw (own_is, cur_is) (λ a ra. v.clear a (there pos ra));
        };
      })
      z.0 (rw cur_is z.1) (omega arith)

  pub writer_ends : (m : ℕ) {t : Tables} → Reached N S t → phase t s ≡ 3 → kind t (own t s) ≢ 1 → (known ≡ true → ClearWay s t)
      → (k : ℕ) → Ends (link t) (cur t s) k → k ≤ m → Within (alone s) (WriterEnds N S s known) (suc m) t
  writer_ends m {t} g p x way =
      along_chain {P = WriterEnds N S s known} {R = WriterAt N S s known} (λ t. cur t s)
      (λ m k t r e on. later {k = m} (after_3 s s_in r.reached (Within (alone s) (WriterEnds N S s known) m) r.in_3 (λ u w gu. one_step m k t r e on w gu)))
      m t (record { reached = g; in_3 = p; writes = x; way = way })
