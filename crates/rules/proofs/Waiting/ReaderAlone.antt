-- A reader that validates alone comes to rest within the nodes ahead of it and one step more: it holds or waits at a writer.
use Prim.Native.Nat.{ℕ, suc, ◌≤◌, ◌<◌}
use mathlib.Core.Path.{◌≡◌, refl, ap, ◌∙◌}
use mathlib.Core.Logic.{inr}
use native.Mathlib.Omega.{arith}
use Rattle.rules.specs.Tables.{Tables, kind_at, phase_at, own_at, cur_at, kind, link, phase, own, cur}
use Rattle.rules.specs.Steps.{pass, hold}
use Rattle.rules.specs.Reached.{Reached}
use Rattle.rules.proofs.Ground.Following.{Ends, ends_tail}
use Rattle.rules.proofs.Rules.RuleEffects.{pass_stored, hold_stored}
use Rattle.rules.proofs.Rules.Reasons.{reader_holds, reader_unlinks, reader_passes, reader_waits, Validating, validates_reader, validates_writer}
use Rattle.rules.proofs.Keeping.Aside.{seat_room}
use Rattle.rules.proofs.Keeping.CallKeeps.{good}
use Rattle.rules.proofs.Waiting.Within.{Within, now, later, along_chain}
use Rattle.rules.proofs.Waiting.Alone.{alone, AtRest, rests_holding, rests_in, after_3, unlinked}

record ReaderAt (N S s : ℕ) (t : Tables) : Type 0 where
  reached : Reached N S t
  in_3 : phase t s ≡ 3
  reads : kind t (own t s) ≡ 1

module _ {N S : ℕ} (s : ℕ) (s_in : s < S) where
  one_step : (m k : ℕ) (t : Tables) → ReaderAt N S s t → Ends (link t) (cur t s) k
      → ((u : Tables) → ReaderAt N S s u → (j : ℕ) → Ends (link u) (cur u s) j → j < k → Within (alone s) (AtRest s) m u)
      → {u : Tables} → Validating t s u → Reached N S u → Within (alone s) (AtRest s) m u
  unfolding pass hold
  one_step m k t r e on (validates_reader x (reader_holds f)) g =
      now (rests_holding ((hold_stored t s (seat_room (good r.reached).aside s s_in)).at_s phase_at (omega arith)))
  one_step m k t r e on (validates_reader x (reader_unlinks c mk w)) g =
      let f = unlinked s s_in r.reached c w in
      let z = ends_tail e c in
      let y = f.ends z.1 in
      on _ (record {
        reached = g;
        in_3 = f.same_phase ∙ r.in_3;
        reads = f.same_word _ kind_at (omega arith) (omega arith) ∙ ap (kind t) f.same_own ∙ r.reads;
      })
      y.0 (rw f.on_to_next y.1) (omega arith)
  one_step m k t r e on (validates_reader x (reader_passes c mk f)) g =
      let w = pass_stored t s (seat_room (good r.reached).aside s s_in) in
      let z = ends_tail e c in
      on (pass t s) (record {
        reached = g;
        in_3 = w.at_s phase_at (omega arith) ∙ r.in_3;
        reads = ap (kind t) (w.at_s own_at (omega arith)) ∙ r.reads;
      })
      z.0 (rw (w.at_s cur_at (omega arith)) z.1) (omega arith)
  one_step m k t r e on (validates_reader x (reader_waits c mk f h)) g = now (rests_in r.reached s s_in 4 (inr refl) mk)
  one_step m k t r e on (validates_writer x w) g = absurd (x r.reads)

  pub reader_rests : (m : ℕ) {t : Tables} → Reached N S t → phase t s ≡ 3 → kind t (own t s) ≡ 1
      → (k : ℕ) → Ends (link t) (cur t s) k → k ≤ m → Within (alone s) (AtRest s) (suc m) t
  reader_rests m {t} g p x =
      along_chain {P = AtRest s} {R = ReaderAt N S s} (λ t. cur t s)
      (λ m k t r e on. later {k = m} (after_3 s s_in r.reached (Within (alone s) (AtRest s) m) r.in_3 (λ u w gu. one_step m k t r e on w gu)))
      m t (record { reached = g; in_3 = p; reads = x })
