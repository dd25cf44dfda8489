-- The moves of the rules that change no node, one by one: each keeps the invariant.
use mathlib.Core.Path.{◌≡◌, refl, sym, ◌∙◌, ap}
use mathlib.Core.Logic.{◌≢◌, ◌⊎◌, inl, inr}
use Prim.Native.Nat.{ℕ, ◌≤◌, ◌<◌}
use native.Mathlib.Omega.{arith}
use Rattle.rules.proofs.Ground.Following.{reach_source, not_from_0, beyond}
use Rattle.rules.specs.Reach.{Reach, here, there}
use Rattle.rules.proofs.Laws.Compared.{Precedes}
use Rattle.rules.proofs.Invariant.View.{Nodes, Seats, claim_at, Marked, Outside, reserved, walking, waiting, Linked, validating, waiting_reader, holding}
use Rattle.rules.proofs.Invariant.Phases.{outside_busy, linked_busy, not_both}
use Rattle.rules.proofs.Laws.Shape.{in_5}
use Rattle.rules.proofs.Invariant.Clauses.{Seen, from_cur, Invariant}
use Rattle.rules.proofs.Invariant.Known.{Known, known_head, known_cur, known_prev, known_next, known_link, known_named, own_proper, own_pos, ordered_along}
use Rattle.rules.proofs.Invariant.SeatShapes.{not_waiting, on_its_way, at_rest}
use Rattle.rules.proofs.Invariant.SeatMoves.{Moved, both_outside, both_linked, not_stuck, Crossing, reads_writer, writes_reader, move}

module _ {N : ℕ} {n : Nodes} {s u : Seats} {i : ℕ} (v : Invariant N n s) where
  -- ---- phases 1 and 2
  -- to phase 1, anywhere known
  walk_to : {Q C : ℕ} → Moved s u i 1 Q C → Outside (s.phase i) → Known n.link s Q → Known n.link s C
      → (0 < Q → Precedes (claim_at n Q) (claim_at n (s.own i))) → Invariant N n u
  walk_to m o kq kc f =
      move m (both_outside o (walking refl)) v kq kc
      (on_its_way (omega arith) (omega arith) (not_waiting (omega arith) (omega arith))
      (own_pos v i (outside_busy o)) (v.seats i).own_named (known_named v kq) (known_named v kc))
      (not_stuck (omega arith) (omega arith)) (λ z. f) (λ l. absurd (not_both o l)) (λ j d l. absurd (not_both o l))

  pub pass_keeps : Moved s u i 1 (s.cur i) (n.link (s.cur i)) → s.phase i ≡ 1 → 0 < s.cur i
      → Precedes (claim_at n (s.cur i)) (claim_at n (s.own i)) → Invariant N n u
  pass_keeps m e h f = walk_to m (walking e) (known_cur i) (known_next (from_cur i (here h))) (λ z. f)

  pub skip_keeps : Moved s u i 1 (s.prev i) (n.link (s.cur i)) → s.phase i ≡ 1 → 0 < s.cur i → Invariant N n u
  skip_keeps m e h = walk_to m (walking e) (known_prev i) (known_next (from_cur i (here h))) (v.passed i (walking e))

  pub restart_keeps : Moved s u i 1 0 (n.link 0) → s.phase i ≡ 1 → Invariant N n u
  restart_keeps m e = walk_to m (walking e) (inl refl) known_head (λ z. absurd (omega arith))

  pub enter_keeps : Moved s u i 1 (s.prev i) (n.link 0) → s.phase i ≡ 7 → Invariant N n u
  enter_keeps m e = walk_to m (reserved e) (known_prev i) known_head (v.passed i (reserved e))

  pub reread_keeps : Moved s u i 1 (s.prev i) (n.link (s.prev i)) → s.phase i ≡ 1 → Invariant N n u
  reread_keeps m e = walk_to m (walking e) (known_prev i) (known_link i) (v.passed i (walking e))

  pub wake_keeps : Moved s u i 1 (s.prev i) (s.cur i) → s.phase i ≡ 2 → Invariant N n u
  wake_keeps m e = walk_to m (waiting e) (known_prev i) (known_cur i) (v.passed i (waiting e))

  pub wait_keeps : Moved s u i 2 (s.prev i) (s.cur i) → s.phase i ≡ 1 → 0 < s.cur i
      → (Precedes (claim_at n (s.cur i)) (claim_at n (s.own i)) → ⊥) → (Precedes (claim_at n (s.own i)) (claim_at n (s.cur i)) → ⊥)
      → Invariant N n u
  wait_keeps m e h f g =
      let o : Outside (s.phase i) = walking e in
      move m (both_outside o (waiting refl)) v (known_prev i) (known_cur i)
      (on_its_way (omega arith) (omega arith) (λ z. h) (own_pos v i (outside_busy o)) (v.seats i).own_named (v.seats i).prev_named (v.seats i).cur_named)
      (record { at_2 = λ z. (f, g); at_4 = λ z. absurd (omega arith) })
      (λ z. v.passed i o) (λ l. absurd (not_both o l)) (λ j d l. absurd (not_both o l))

  -- ---- phases 3, 4 and 5
  -- to phase 3, at a place from which every claim that crosses this one and was ahead is ahead still
  validate_to : {Q C : ℕ} → Moved s u i 3 Q C → Linked (s.phase i) → Known n.link s Q → Known n.link s C
      → (n.kind (s.own i) ≡ 1 → 0 < C → n.start (s.own i) ≤ n.start C)
      → ((j : ℕ) → Linked (s.phase j) → Crossing (claim_at n (s.own i)) (claim_at n (s.own j))
      → Reach n.link (s.own j) (s.cur i) → Reach n.link (s.own j) C)
      → Invariant N n u
  validate_to m l kq kc f g =
      move m (both_linked l (validating refl)) v kq kc
      (on_its_way (omega arith) (omega arith) (not_waiting (omega arith) (omega arith))
      (own_pos v i (linked_busy l)) (v.seats i).own_named (known_named v kq) (known_named v kc))
      (not_stuck (omega arith) (omega arith)) (λ o. absurd (not_both o l)) (λ z. f) (λ j d z lj x r. (omega arith, g j lj x r))

  pub pass_reader_keeps : Moved s u i 3 (s.cur i) (n.link (s.cur i)) → s.phase i ≡ 3 → 0 < s.cur i
      → n.kind (s.own i) ≡ 1 → n.kind (s.cur i) ≡ 1 → Invariant N n u
  pass_reader_keeps m e h ko kc =
      let l : Linked (s.phase i) = validating e in
      let p : Seen n.link s (s.cur i) = from_cur i (here h) in
      validate_to m l (known_cur i) (known_next p)
      (λ k z. let o = ordered_along v p (there h (here z)) in let q = v.reader_cur i l ko h in omega arith)
      (λ j lj x r. elim x [
        | reads_writer k₁ k₂ h₁ h₂ ↦ beyond (λ y. let k = ap n.kind y in omega arith) r
        | writes_reader k₁ k₂ h₁ h₂ ↦ absurd (omega arith)
      ])

  pub pass_writer_keeps : Moved s u i 3 (s.cur i) (n.link (s.cur i)) → s.phase i ≡ 3 → 0 < s.cur i
      → n.kind (s.own i) ≡ 2 → n.end (s.cur i) ≤ n.start (s.own i) → Invariant N n u
  pass_writer_keeps m e h ko c =
      let l : Linked (s.phase i) = validating e in
      validate_to m l (known_cur i) (known_next (from_cur i (here h))) (λ k z. absurd (omega arith))
      (λ j lj x r. elim x [
        | reads_writer k₁ k₂ h₁ h₂ ↦ absurd (omega arith)
        | writes_reader k₁ k₂ h₁ h₂ ↦ beyond (λ y. let k = ap n.end y in omega arith) r
      ])

  pub skip_validating_keeps : Moved s u i 3 (s.prev i) (n.link (s.cur i)) → s.phase i ≡ 3 → 0 < s.cur i → Marked n (s.cur i) → Invariant N n u
  skip_validating_keeps m e h k =
      let l : Linked (s.phase i) = validating e in
      let p : Seen n.link s (s.cur i) = from_cur i (here h) in
      validate_to m l (known_prev i) (known_next p)
      (λ ko z. let o = ordered_along v p (there h (here z)) in let q = v.reader_cur i l ko h in omega arith)
      (λ j lj x r. beyond (λ y. (v.linked j lj).unmarked (ap n.mark (sym y) ∙ k)) r)

  pub reader_wakes_keeps : Moved s u i 3 (s.prev i) (s.cur i) → s.phase i ≡ 4 → Invariant N n u
  reader_wakes_keeps m e =
      let l : Linked (s.phase i) = waiting_reader e in
      validate_to m l (known_prev i) (known_cur i) (v.reader_cur i l) (λ j lj x r. r)

  pub reader_waits_keeps : Moved s u i 4 (s.prev i) (s.cur i) → s.phase i ≡ 3 → 0 < s.cur i
      → n.kind (s.own i) ≡ 1 → n.kind (s.cur i) ≢ 1 → n.start (s.cur i) < n.end (s.own i) → Invariant N n u
  reader_waits_keeps m e h ko kc c =
      let l : Linked (s.phase i) = validating e in
      move m (both_linked l (waiting_reader refl)) v (known_prev i) (known_cur i)
      (on_its_way (omega arith) (omega arith) (λ z. h) (own_pos v i (linked_busy l)) (v.seats i).own_named (v.seats i).prev_named (v.seats i).cur_named)
      (record { at_2 = λ z. absurd (omega arith); at_4 = λ z. (ko, kc, c) })
      (λ o. absurd (not_both o l)) (λ z. v.reader_cur i l) (λ j d z lj x r. (omega arith, r))

  -- to phase 5, where no claim that crosses this one is ahead
  hold_if : Moved s u i 5 0 0 → (l : Linked (s.phase i))
      → ((j : ℕ) → j ≢ i → Linked (s.phase j) → Crossing (claim_at n (s.own i)) (claim_at n (s.own j))
      → Reach n.link (s.own j) (s.cur i) → ⊥) → Invariant N n u
  hold_if m l f =
      move m (both_linked l (holding refl)) v (inl refl) (inl refl)
      (at_rest (in_5 refl) (own_pos v i (linked_busy l)) (v.seats i).own_named) (not_stuck (omega arith) (omega arith))
      (λ o. absurd (not_both o l)) (λ z k c. absurd (omega arith)) (λ j d z lj x r. absurd (f j d lj x r))

  -- a reader at the end, or at what starts behind it
  pub hold_reader_keeps : Moved s u i 5 0 0 → s.phase i ≡ 3 → n.kind (s.own i) ≡ 1
      → (s.cur i ≡ 0) ⊎ (n.end (s.own i) ≤ n.start (s.cur i)) → Invariant N n u
  hold_reader_keeps m e ko (inl z) = hold_if m (validating e) (λ j d lj x r. not_from_0 r z)
  hold_reader_keeps m e ko (inr z) =
      hold_if m (validating e) (λ j d lj x r.
      let o = ordered_along v (from_cur i (here (reach_source r))) r in
      elim x [ reads_writer k₁ k₂ h₁ h₂ ↦ omega arith | writes_reader k₁ k₂ h₁ h₂ ↦ omega arith ])

  -- a writer at itself
  pub hold_writer_keeps : Moved s u i 5 0 0 → s.phase i ≡ 3 → n.kind (s.own i) ≡ 2 → s.cur i ≡ s.own i → Invariant N n u
  hold_writer_keeps m e ko c =
      let l : Linked (s.phase i) = validating e in
      hold_if m l (λ j d lj x r.
      let o = ordered_along v (from_cur i (here (reach_source r))) r in
      let k = v.distinct i j (λ y. d (sym y)) (linked_busy l) (linked_busy lj) in
      let q = o.writer_ends (λ y. k (sym c ∙ y)) (ap n.kind c ∙ ko) in
      let z = ap n.end c in
      let p = (own_proper v i (linked_busy l)).some in
      elim x [ reads_writer k₁ k₂ h₁ h₂ ↦ omega arith | writes_reader k₁ k₂ h₁ h₂ ↦ omega arith ])
