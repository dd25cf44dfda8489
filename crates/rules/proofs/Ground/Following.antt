-- Following links from node to node. 0 is both the head, whose link is the first node, and the end, so a walk never goes through 0.
-- What a walk meets, where it ends, and what a changed link does to either. Over any link function; assumes nothing of the tables.
use mathlib.Core.Path.{◌≡◌, refl, sym, ◌∙◌, ap}
use mathlib.Core.Logic.{◌≢◌, ◌⊎◌, inl, inr}
use Prim.Native.Nat.{ℕ, suc, ◌≤◌, ◌<◌}
use native.Mathlib.Omega.{arith}
use Rattle.rules.specs.Reach.{Reach, here, there}
use Rattle.rules.proofs.Ground.Deciding.{if_same}

pub reach_source : {link : ℕ → ℕ} {b a : ℕ} → Reach link b a → 0 < a
reach_source (here h) = h
reach_source (there h r) = h

pub reach_target : {link : ℕ → ℕ} {b a : ℕ} → Reach link b a → 0 < b
reach_target (here h) = h
reach_target (there h r) = reach_target r

pub not_from_0 : {link : ℕ → ℕ} {b a : ℕ} → Reach link b a → a ≢ 0
not_from_0 r = let h = reach_source r in omega arith

pub reach_on : {link : ℕ → ℕ} {b a c : ℕ} → Reach link b a → Reach link c b → Reach link c a
reach_on (here h) r = r
reach_on (there h q) r = there h (reach_on q r)

pub reach_next : {link : ℕ → ℕ} {a b : ℕ} → Reach link b a → 0 < link b → Reach link (link b) a
reach_next r h = reach_on r (there (reach_target r) (here h))

-- past a node: what was met from it and is another node is met from its next
pub beyond : {link : ℕ → ℕ} {b a : ℕ} → a ≢ b → Reach link b a → Reach link b (link a)
beyond d (here h) = absurd (d refl)
beyond d (there h r) = r

-- of two nodes of one walk one is met from the other
pub linear : {link : ℕ → ℕ} {b a c : ℕ} → Reach link b a → Reach link c a → Reach link c b ⊎ Reach link b c
linear (here h) r = inl r
linear (there h q) (here h') = inr (there h q)
linear (there h q) (there h' r) = linear q r

-- the same links, the same walks
pub same_links : (link new : ℕ → ℕ) → ((a : ℕ) → link a ≡ new a) → {b a : ℕ} → Reach link b a → Reach new b a
same_links link new e (here h) = here h
same_links link new e (there h r) = there h (rw e at (same_links link new e r))

-- ---- where a walk ends: from a, 0 is met after n nodes
pub data Ends (link : ℕ → ℕ) : ℕ → ℕ → Type 0 where
  stop : Ends link 0 0
  more : {a n : ℕ} → 0 < a → Ends link (link a) n → Ends link a (suc n)

pub ends_zero : {link : ℕ → ℕ} {a n : ℕ} → Ends link a n → n ≤ 0 → a ≡ 0
ends_zero stop l = refl
ends_zero (more h e) l = absurd (omega arith)

pub ends_tail : {link : ℕ → ℕ} {a n : ℕ} → Ends link a n → a ≢ 0 → (m : ℕ) × Ends link (link a) m × (suc m ≡ n)
ends_tail stop z = absurd (z refl)
ends_tail (more {n = m} h e) z = (m, e, refl)

pub ends_along : {link : ℕ → ℕ} {b a n : ℕ} → Reach link b a → Ends link a n → (m : ℕ) × Ends link b m × (m ≤ n)
ends_along {n = n} (here h) e = (n, e, omega arith)
ends_along (there h r) stop = absurd (omega arith)
ends_along (there h r) (more h' e) = let q = ends_along r e in (q.0, q.1, omega arith)

ends_once : {link : ℕ → ℕ} {a n m : ℕ} → Ends link a n → Ends link a m → n ≡ m
ends_once stop stop = refl
ends_once stop (more h e) = absurd (omega arith)
ends_once (more h e) stop = absurd (omega arith)
ends_once (more h e) (more h' e') = ap suc (ends_once e e')

-- a walk that ends never comes back
pub no_circle : {link : ℕ → ℕ} {a n : ℕ} → Ends link a n → 0 < a → Reach link a (link a) → ⊥
no_circle stop h r = omega arith
no_circle (more h e) h' r = let q = ends_along r e in let k = ends_once (more h e) q.1 in omega arith

-- ---- own is linked in between prev and the node that prev linked to
module _ (link new : ℕ → ℕ) (own prev : ℕ) (own_pos : 0 < own) (apart : own ≢ prev) (own_last : link own ≡ 0)
    (new_own : new own ≡ link prev) (new_prev : new prev ≡ own) (old : (a : ℕ) → a ≢ own → a ≢ prev → new a ≡ link a) where
  pub insert_keeps_reach : {b a : ℕ} → Reach link b a → Reach new b a
  insert_keeps_reach (here h) = here h
  insert_keeps_reach {b} (there {a = a} h r) =
      if_same a prev
      (λ e. let q : Reach new b (new own) = rw (new_own, ← e) (insert_keeps_reach r) in
      there h (rw (e, new_prev) (there own_pos q)))
      (λ n. if_same a own (λ e. absurd (not_from_0 (rw e at r) own_last)) (λ m. there h (rw (old a m n) (insert_keeps_reach r))))

  pub insert_reaches_own : {a : ℕ} → Reach link prev a → Reach new own a
  insert_reaches_own r = rw new_prev at (reach_next (insert_keeps_reach r) (rw new_prev own_pos))

  -- what is newly met is own: from own itself, and from where own was not met before
  pub insert_adds_own : (Reach link own (link prev) → ⊥) → {b a : ℕ} → Reach new b a
      → (a ≡ own → (b ≡ own) ⊎ Reach link b (link prev)) × ((Reach link own a → ⊥) → (b ≡ own) ⊎ Reach link b a)
  insert_adds_own hid (here h) = (λ e. inl e, λ n. inr (here h))
  insert_adds_own hid {b} (there {a = a} h r) =
      let ih = insert_adds_own hid r in (
        (λ e. let k : new a ≡ link prev = ap new e ∙ new_own in rw k at (ih.1 (rw k hid))),
        (λ n. if_same a prev
            (λ e. elim (ih.0 (ap new e ∙ new_prev)) [ inl q ↦ inl q | inr q ↦ inr (there h (rw e q)) ])
            (λ m. let k : new a ≡ link a = old a (λ e. n (rw e (here own_pos))) m in
            let ih' : (b ≡ own) ⊎ Reach link b (link a) = rw k at (ih.1 (rw k (λ q. n (there h q)))) in
            elim ih' [ inl q ↦ inl q | inr q ↦ inr (there h q) ])),
      )

  pub insert_keeps_ends : {a k : ℕ} → (Reach link own a → ⊥) → Ends link a k → (j : ℕ) × Ends new a j
  insert_keeps_ends f stop = (0, stop)
  insert_keeps_ends f (more {a = a} h e) =
      let ih = insert_keeps_ends (λ r. f (there h r)) e in
      if_same a prev
      (λ q. let w : (j : ℕ) × Ends new (new own) j = rw (ap link q ∙ sym new_own) at ih in
      let k : new a ≡ own = ap new q ∙ new_prev in
      (suc (suc w.0), more h (rw k (more own_pos w.1))))
      (λ q. let k : new a ≡ link a = old a (λ z. f (rw z (here own_pos))) q in (suc ih.0, more h (rw k ih.1)))

  -- from the head, which prev may be
  pub insert_keeps_list : {b : ℕ} → Reach link b (link 0) → Reach new b (new 0)
  insert_keeps_list {b} r =
      let q = insert_keeps_reach r in
      if_same 0 prev
      (λ e. let k : new 0 ≡ own = ap new e ∙ new_prev in
      let c : new own ≡ link 0 = new_own ∙ sym (ap link e) in rw k (there own_pos (rw c q)))
      (λ e. rw (old 0 (omega arith) e) q)

-- ---- out, which prev links to, is passed over: whatever else was met is met still, and nothing more
module _ (link new : ℕ → ℕ) (prev out : ℕ) (out_pos : 0 < out) (joined : link prev ≡ out) (new_prev : new prev ≡ link out)
    (old : (a : ℕ) → a ≢ prev → new a ≡ link a) where
  -- the second half is what the first needs one node later
  keeps : {b a : ℕ} → b ≢ out → Reach link b a → Reach new b a × (a ≡ out → Reach new b (link out))
  keeps n (here h) = (here h, λ e. absurd (n e))
  keeps {b} n (there {a = a} h r) =
      let ih = keeps n r in (
        if_same a prev (λ e. there h (rw (e, new_prev) (ih.1 (ap link e ∙ joined)))) (λ k. there h (rw (old a k) ih.0)),
        (λ e. rw (ap link e) at ih.0),
      )

  pub unlink_keeps_reach : {b a : ℕ} → b ≢ out → Reach link b a → Reach new b a
  unlink_keeps_reach n r = (keeps n r).0

  pub unlink_adds_none : {b a : ℕ} → Reach new b a → Reach link b a
  unlink_adds_none (here h) = here h
  unlink_adds_none {b} (there {a = a} h r) =
      if_same a prev
      (λ e. let q : Reach link b (link out) = rw (e, new_prev) at (unlink_adds_none r) in there h (rw (e, joined) (there out_pos q)))
      (λ k. there h (rw (old a k) at (unlink_adds_none r)))

  ends : {a k : ℕ} → Ends link a k → ((j : ℕ) × Ends new a j × (j ≤ k)) × (a ≡ out → (j : ℕ) × Ends new (link out) j × (j < k))
  ends stop = ((0, stop, omega arith), λ e. absurd (omega arith))
  ends (more {a = a} h e) =
      let ih = ends e in (
        if_same a prev
            (λ q. let w = ih.1 (ap link q ∙ joined) in
            let k : new a ≡ link out = ap new q ∙ new_prev in (suc w.0, more h (rw k w.1), omega arith))
            (λ q. let w = ih.0 in (suc w.0, more h (rw (old a q) w.1), omega arith)),
        (λ q. let w = rw (ap link q) at ih.0 in (w.0, w.1, omega arith)),
      )

  pub unlink_keeps_ends : {a k : ℕ} → Ends link a k → (j : ℕ) × Ends new a j × (j ≤ k)
  unlink_keeps_ends e = (ends e).0

  -- from the head, which prev may be
  pub unlink_keeps_list : {b : ℕ} → b ≢ out → Reach link b (link 0) → Reach new b (new 0)
  unlink_keeps_list k r =
      if_same 0 prev
      (λ e. rw (e, new_prev) ((keeps k r).1 (ap link e ∙ joined)))
      (λ e. rw (old 0 e) (unlink_keeps_reach k r))

  pub unlink_adds_none_to_list : {b : ℕ} → Reach new b (new 0) → Reach link b (link 0)
  unlink_adds_none_to_list r =
      let q = unlink_adds_none r in
      if_same 0 prev (λ e. rw (ap link e ∙ joined) (there out_pos (rw (e, new_prev) at q))) (λ e. rw (old 0 e) at q)

-- ---- the link of one node changes: walks that do not come to it are the same
module _ (link new : ℕ → ℕ) (own : ℕ) (old : (a : ℕ) → a ≢ own → new a ≡ link a) where
  not_it : {a : ℕ} → 0 < a → (Reach link own a → ⊥) → a ≢ own
  not_it h f e = f (rw (← e) (here h))

  pub away_keeps_reach : {b a : ℕ} → (Reach link own a → ⊥) → Reach link b a → Reach new b a
  away_keeps_reach f (here h) = here h
  away_keeps_reach f (there {a = a} h r) = there h (rw (old a (not_it h f)) (away_keeps_reach (λ q. f (there h q)) r))

  pub away_adds_none : {b a : ℕ} → (Reach link own a → ⊥) → Reach new b a → Reach link b a
  away_adds_none f (here h) = here h
  away_adds_none f (there {a = a} h r) =
      let k : new a ≡ link a = old a (not_it h f) in
      there h (rw k at (away_adds_none (rw k (λ q. f (there h q))) r))

  pub away_keeps_ends : {a k : ℕ} → (Reach link own a → ⊥) → Ends link a k → Ends new a k
  away_keeps_ends f stop = stop
  away_keeps_ends f (more {a = a} {n = k} h e) =
      more {n = k} h (rw (old a (not_it h f)) (away_keeps_ends (λ q. f (there h q)) e))
