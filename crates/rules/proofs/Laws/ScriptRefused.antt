-- Script reading refuses exactly as specs/Refusing.antt says, and then gives its number and the line and nothing else. Of any bytes.
use Prim.Native.Nat.{ℕ, zero, suc, ◌+◌, ◌-◌, ◌≤◌}
use mathlib.Core.Path.{◌≡◌, refl, sym, subst, ◌∙◌}
use mathlib.Core.List.{List}
use mathlib.Core.Logic.{◌≢◌}
use native.Mathlib.Omega.{arith}
use native.Mathlib.Numerals.{add-one}
use lib.ListN.{length, set}
use borrow.Author.Tests.{eqb-true, eqb-false, eq-eqb, ne_eqb, ltb-true, ltb-false, lt-ltb, le-ltb}
use Rattle.rules.specs.Notation.{◌is◌, ◌<?◌}
use Rattle.rules.specs.Script.{nowhere, contents_of, body_at, no_lines, bad_at, good_script, bodies_from, read_script}
use Rattle.rules.specs.Refusing.{ReadTo, contents_read, body_read, ScriptRefuses, too_long, contents_wrong, body_wrong, more_follows}
use Rattle.rules.specs.declared.Line.{Line}
use Rattle.rules.specs.Script.{Script}
use Rattle.rules.specs.declared.Contents.{Contents}
use Rattle.rules.proofs.Ground.Logic.{branch}

module _ (src : List ℕ) where
  abbrev top : Contents
  top = contents_of src

  -- ---- a script that is refused is refused 10, for one of these reasons, with its line
  abbrev Says : Script → Type 0
  Says s = s.refusal ≢ 0 → (s.refusal ≡ 10) × ScriptRefuses src s.wrong

  bodies_say : length src ≤ 16384 → (left i at : ℕ) (rows : List Line) → ReadTo src i at → i + left ≡ top.k → Says (bodies_from src top left i at rows)
  unfolding bodies_from bad_at good_script
  bodies_say short zero i at rows r e =
      let all_read : i ≡ top.k = omega arith in
      branch Says (at is length src)
      (λ z d. absurd (d refl))
      (λ z d. (refl, subst (λ j. ScriptRefuses src (j + 2)) (sym all_read) (more_follows short at (subst (λ j. ReadTo src j at) all_read r) (eqb-false at (length src) z))))
  bodies_say short (suc left) i at rows r e =
      branch Says ((body_at src at).next is nowhere src)
      (λ z d. (refl, body_wrong short i at (omega arith) r (eqb-true (body_at src at).next (nowhere src) z)))
      (λ z. bodies_say short left (i + 1) (body_at src at).next (set rows i (body_at src at).line)
      (rw (add-one i) (body_read r (eqb-false (body_at src at).next (nowhere src) z))) (omega arith))

  pub script_by_table : Says (read_script src)
  unfolding read_script bad_at
  script_by_table =
      branch Says (16384 <? length src)
      (λ l d. (refl, too_long (ltb-true 16384 (length src) l)))
      (λ l. let short = ltb-false 16384 (length src) l in
      branch Says (top.next is nowhere src)
      (λ z d. (refl, contents_wrong short (eqb-true top.next (nowhere src) z)))
      (λ z. bodies_say short top.k 0 top.next no_lines (contents_read (eqb-false top.next (nowhere src) z)) (omega arith)))

  -- ---- and each of them is a reason: the bodies that are read lead on to the one that is wrong
  record Going (left i at : ℕ) : Type 0 where
    rows : List Line
    same : bodies_from src top top.k 0 top.next no_lines ≡ bodies_from src top left i at rows

  goes_on : {i at : ℕ} → ReadTo src i at → (left : ℕ) → i + left ≡ top.k → Going left i at
  unfolding bodies_from
  goes_on (contents_read d) left e =
      let all_left : top.k ≡ left = omega arith in
      record { rows = no_lines; same = rw all_left }
  goes_on (body_read {i = i} {at = at} r d) left e =
      let w = goes_on r (suc left) (omega arith) in
      record {
        rows = set w.rows i (body_at src at).line;
        same = w.same ∙ rw (ne_eqb (body_at src at).next (nowhere src) d, add-one i);
      }

  contents_good : {i at : ℕ} → ReadTo src i at → top.next ≢ nowhere src
  contents_good (contents_read d) = d
  contents_good (body_read r d) = contents_good r

  reads_bodies : length src ≤ 16384 → top.next ≢ nowhere src → read_script src ≡ bodies_from src top top.k 0 top.next no_lines
  unfolding read_script
  reads_bodies short d = rw (le-ltb 16384 (length src) short, ne_eqb top.next (nowhere src) d)

  pub script_refused : (wrong : ℕ) → ScriptRefuses src wrong → read_script src ≡ bad_at wrong
  unfolding read_script bodies_from
  script_refused wrong (too_long l) = rw (lt-ltb 16384 (length src) l)
  script_refused wrong (contents_wrong short e) = rw (le-ltb 16384 (length src) short, eq-eqb top.next (nowhere src) e)
  script_refused wrong (body_wrong short i at h r e) =
      let left : (m : ℕ) × (i + suc m ≡ top.k) = (top.k - suc i, omega arith) in
      let w = goes_on r (suc left.0) left.1 in
      reads_bodies short (contents_good r) ∙ w.same ∙ rw (eq-eqb (body_at src at).next (nowhere src) e)
  script_refused wrong (more_follows short at r d) =
      let w = goes_on r 0 (omega arith) in
      reads_bodies short (contents_good r) ∙ w.same ∙ rw (ne_eqb at (length src) d)
