-- Stepped alone, any claim comes to rest: the stages one after the other, and the number of steps that they add up to.
use Prim.Native.Nat.{ℕ, suc, ◌+◌, ◌*◌, ◌≤◌, ◌<◌}
use mathlib.Core.Path.{◌≡◌, refl}
use mathlib.Core.Bool.{true, false}
use mathlib.Core.Logic.{◌≢◌, inl, inr}
use native.Mathlib.Omega.{arith}
use Rattle.rules.specs.Tables.{Tables, phase_at, kind, mark, link, phase, own, cur}
use Rattle.rules.specs.Reached.{Reached}
use Rattle.rules.proofs.Ground.Logic.{clash}
use Rattle.rules.proofs.Ground.Deciding.{if_same, beyond_3}
use Rattle.rules.proofs.Ground.Following.{Ends}
use Rattle.rules.proofs.Ground.Pigeonhole.{short}
use Rattle.rules.proofs.Invariant.Known.{known_cur, known_ends, named_in}
use Rattle.rules.proofs.Rules.RuleEffects.{phase_stored}
use Rattle.rules.proofs.Rules.Reasons.{Waking, wakes, stays}
use Rattle.rules.proofs.Keeping.Aside.{seat_room}
use Rattle.rules.proofs.Keeping.CallKeeps.{good}
use Rattle.rules.proofs.Waiting.Within.{Within, now, later, more_time, and_then, then_now}
use Rattle.rules.proofs.Waiting.Alone.{alone, AtRest, rests_holding, rests_waiting, after_2, after_4, step_reached}
use Rattle.rules.proofs.Waiting.ReaderAlone.{reader_rests}
use Rattle.rules.proofs.Waiting.WriterAlone as writing
use Rattle.rules.proofs.Waiting.WriterAlone.{ClearWay, writer_ends}
use Rattle.rules.proofs.Waiting.WalkAlone as walk
use Rattle.rules.proofs.Waiting.WalkAlone.{WalkAt, walk_ends}
use Rattle.rules.proofs.Waiting.LooseWalkAlone as loose
use Rattle.rules.proofs.Waiting.LooseWalkAlone.{loose_ends}
use Rattle.rules.proofs.Waiting.FetchAlone.{after_6, after_7}

is_7 : (p : ℕ) → 4 ≤ p → p ≤ 7 → p ≢ 4 → p ≢ 5 → p ≢ 6 → p ≡ 7
is_7 p h l d₄ d₅ d₆ = omega arith

abbrev pub Rests : ℕ → ℕ → Tables → Type 0
Rests s k t = Within (alone s) (AtRest s) k t

module _ {N S : ℕ} (s : ℕ) (s_in : s < S) where
  -- at most N nodes lie ahead of cur
  pub chain_ahead : {t : Tables} → Reached N S t → (k : ℕ) × Ends (link t) (cur t s) k × (k ≤ N)
  chain_ahead {t} g =
      let e = known_ends (good g).inv (known_cur s) in
      (e.0, e.1, short N (λ a. named_in ((good g).inv.nodes.links a)) (named_in ((good g).inv.seats s).cur_named) e.1)

  -- phase 3, where a writer's way is known to be clear
  from_clear_3 : {t : Tables} → Reached N S t → phase t s ≡ 3 → (kind t (own t s) ≢ 1 → ClearWay s t) → Rests s (N + 1) t
  from_clear_3 {t} g p way =
      let c = chain_ahead g in
      if_same (kind t (own t s)) 1
      (λ k. more_time {k = suc N} (omega arith) (reader_rests s s_in N g p k c.0 c.1 c.2))
      (λ k. more_time {k = suc N} (omega arith)
      (then_now (writer_ends s s_in true N g p k (λ q. way k) c.0 c.1 c.2)
      (λ u d. elim d [ writing.at_rest z ↦ z | writing.withdrawn q g' z ↦ absurd (clash true refl q) ])))

  -- a walk that began at the head alone
  from_clean_walk : {t : Tables} → WalkAt N S s true t → Rests s (2 * N + 2) t
  from_clean_walk w =
      let c = chain_ahead w.reached in
      more_time {k = suc N + (N + 1)} (omega arith)
      (and_then (N + 1) (walk_ends s s_in true N w c.0 c.1 c.2)
      (λ u d. elim d [ walk.at_rest z ↦ now z | walk.linked n g p f ↦ from_clear_3 g p (f refl) ]))

  from_7 : {t : Tables} → Reached N S t → phase t s ≡ 7 → Rests s (2 * N + 3) t
  from_7 g p = more_time {k = suc (2 * N + 2)} (omega arith) (later {k = 2 * N + 2} (from_clean_walk (after_7 s s_in g p)))

  from_6 : {t : Tables} → Reached N S t → phase t s ≡ 6 → Rests s (2 * N + 4) t
  from_6 g p = elim (after_6 s s_in g p) [
    | inl r ↦ now r
    | inr q ↦ more_time {k = suc (2 * N + 3)} (omega arith) (later {k = 2 * N + 3} (from_7 (step_reached g s) q))
  ]

  from_3 : {t : Tables} → Reached N S t → phase t s ≡ 3 → Rests s (3 * N + 5) t
  from_3 {t} g p =
      let c = chain_ahead g in
      if_same (kind t (own t s)) 1
      (λ k. more_time {k = suc N} (omega arith) (reader_rests s s_in N g p k c.0 c.1 c.2))
      (λ k. more_time {k = suc N + (2 * N + 4)} (omega arith)
      (and_then (2 * N + 4) (writer_ends s s_in false N g p k (λ q. absurd (clash false q refl)) c.0 c.1 c.2)
      (λ u d. elim d [ writing.at_rest z ↦ now z | writing.withdrawn q g' z ↦ from_6 g' z ])))

  from_joined_walk : {t : Tables} → WalkAt N S s false t → Rests s (4 * N + 6) t
  from_joined_walk w =
      let c = chain_ahead w.reached in
      more_time {k = suc N + (3 * N + 5)} (omega arith)
      (and_then (3 * N + 5) (walk_ends s s_in false N w c.0 c.1 c.2)
      (λ u d. elim d [ walk.at_rest z ↦ now z | walk.linked n g p f ↦ from_3 g p ]))

  from_1 : {t : Tables} → Reached N S t → phase t s ≡ 1 → Rests s (5 * N + 7) t
  from_1 g p =
      let c = chain_ahead g in
      more_time {k = suc N + (4 * N + 6)} (omega arith)
      (and_then (4 * N + 6) (loose_ends s s_in N g p c.0 c.1 c.2)
      (λ u d. elim d [ loose.at_rest z ↦ now z | loose.joins w ↦ from_joined_walk w ]))

  -- phases 2 and 4: at rest, or one step to phase P
  pub from_marked : {t : Tables} (P k : ℕ) → Reached N S t → ((u : Tables) → Reached N S u → phase u s ≡ P → Rests s k u) → mark t (cur t s) ≡ 1
      → (u : Tables) → Waking t s P u → Reached N S u → Rests s k u
  from_marked {t} P k g on m u (wakes x) g' = on _ g' ((phase_stored t s (seat_room (good g).aside s s_in) P).at_s phase_at (omega arith))
  from_marked P k g on m u (stays x) g' = absurd (x m)

  from_2 : {t : Tables} → Reached N S t → phase t s ≡ 2 → Rests s (5 * N + 8) t
  from_2 {t} g p =
      if_same (mark t (cur t s)) 1
      (λ m. more_time {k = suc (5 * N + 7)} (omega arith) (later {k = 5 * N + 7} (after_2 s s_in g (Rests s (5 * N + 7)) p (from_marked 1 (5 * N + 7) g (λ u. from_1) m))))
      (λ m. now (rests_waiting (inl p) m))

  from_4 : {t : Tables} → Reached N S t → phase t s ≡ 4 → Rests s (3 * N + 6) t
  from_4 {t} g p =
      if_same (mark t (cur t s)) 1
      (λ m. more_time {k = suc (3 * N + 5)} (omega arith) (later {k = 3 * N + 5} (after_4 s s_in g (Rests s (3 * N + 5)) p (from_marked 3 (3 * N + 5) g (λ u. from_3) m))))
      (λ m. now (rests_waiting (inr p) m))

  pub comes_to_rest : {t : Tables} → Reached N S t → phase t s ≢ 0 → Rests s (5 * N + 8) t
  comes_to_rest {t} g z =
      let small = ((good g).inv.seats s).has_phase in
      if_same (phase t s) 1 (λ e. more_time {k = 5 * N + 7} (omega arith) (from_1 g e)) (λ d₁.
      if_same (phase t s) 2 (λ e. from_2 g e) (λ d₂.
      if_same (phase t s) 3 (λ e. more_time {k = 3 * N + 5} (omega arith) (from_3 g e)) (λ d₃.
      if_same (phase t s) 4 (λ e. more_time {k = 3 * N + 6} (omega arith) (from_4 g e)) (λ d₄.
      if_same (phase t s) 5 (λ e. now (rests_holding e)) (λ d₅.
      if_same (phase t s) 6 (λ e. more_time {k = 2 * N + 4} (omega arith) (from_6 g e)) (λ d₆.
      more_time {k = 2 * N + 3} (omega arith) (from_7 g (is_7 (phase t s) (beyond_3 (phase t s) z d₁ d₂ d₃) small d₄ d₅ d₆))))))))
