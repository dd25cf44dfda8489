-- One lock and one claim are refused exactly as the tables of specs/Refusing.antt say. Of any numbers.
use Prim.Native.Nat.{ℕ}
use mathlib.Core.Path.{◌≡◌, refl, sym, ap, subst, ◌∙◌}
use mathlib.Core.Bool.{Bool, true, false, not, ◌||◌, true≢false}
use mathlib.Core.Logic.{◌≢◌, ◌⊎◌, inl, inr, ⊎_elim}
use lib.Dec.{T}
use lib.IntN.{ℤ, pos, negsuc}
use lib.Signed.{lt_z, le_z, ◌≤ℤ◌, ◌<ℤ◌, le_z_yes, lt_z_yes, lt_z_no, clash_ℤ}
use borrow.Author.Tests.{lt-ltb, le-ltb, le-leb, lt-leb, leb-false, ne_eqb}
use Rattle.rules.specs.Comparison.{Claim}
use Rattle.rules.specs.Shape.{is_kind}
use Rattle.rules.specs.Locks.{Lock, first_frame, end_frame, no_run, is_type, Taken, bad, import_lock, export_claim}
use Rattle.rules.specs.Refusing.{HasRun, LockRefuses, starts_below, run_empty, ends_past, no_type, run_beyond, ClaimRefuses, claim_empty, claim_beyond, claim_of_no_kind}
use Rattle.rules.proofs.Ground.Logic.{or_case, or_neither, or_left, or_right, not_of, of_not}
use Rattle.rules.proofs.Laws.Shape.{is_kind_law}
use Rattle.rules.proofs.Laws.Locks.{importing, exporting}
use Rattle.rules.proofs.Laws.Records.{number_of, taken_not_bad}

-- ---- the order of integers, and its tests
holds : (b : Bool) → b ≡ true → T b
holds true e = tt
holds false e = absurd (true≢false (sym e))

held : (b : Bool) → T b → b ≡ true
held true t = refl
held false t = absurd t

less_yes : (a b : ℤ) → lt_z a b ≡ true → a <ℤ b
less_yes a b e = lt_z_yes (holds (lt_z a b) e)

less_no : (a b : ℤ) → lt_z a b ≡ false → b ≤ℤ a
less_no a b e = lt_z_no (holds (not (lt_z a b)) (of_not (lt_z a b) e))

most_yes : (a b : ℤ) → le_z a b ≡ true → a ≤ℤ b
most_yes a b e = le_z_yes (holds (le_z a b) e)

most_no : (a b : ℤ) → le_z a b ≡ false → b <ℤ a
most_no (pos a) (pos b) e = less_yes (pos b) (pos a) (lt-ltb b a (leb-false a b e))
most_no (pos a) (negsuc b) e = lt_z_yes tt
most_no (negsuc a) (pos b) e = absurd (true≢false e)
most_no (negsuc a) (negsuc b) e = less_yes (negsuc b) (negsuc a) (lt-ltb a b (leb-false b a e))

not_less : (a b : ℤ) → b ≤ℤ a → lt_z a b ≡ false
not_less a b h = not_of (lt_z a b) (λ e. clash_ℤ (less_yes a b e) h)

not_most : (a b : ℤ) → b <ℤ a → le_z a b ≡ false
not_most a b h = not_of (le_z a b) (λ e. clash_ℤ h (most_yes a b e))

module _ (title : ℕ) (l : Lock) where
  abbrev first : ℤ
  first = first_frame l

  abbrev end : ℤ
  end = end_frame title l

  has_run : no_run first end ≡ false → HasRun title l
  unfolding no_run
  has_run e =
      let q = or_neither (lt_z first (pos 0) || le_z end first) (lt_z (pos 4294967295) end) e in
      let r = or_neither (lt_z first (pos 0)) (le_z end first) q.0 in
      record { from_0 = less_no first (pos 0) r.0; not_empty = most_no end first r.1; not_past = less_no (pos 4294967295) end q.1 }

  run_there : HasRun title l → no_run first end ≡ false
  unfolding no_run
  run_there r = rw (not_less first (pos 0) r.from_0, not_most end first r.not_empty, not_less (pos 4294967295) end r.not_past)

  no_run_because : no_run first end ≡ true → LockRefuses title l 12
  unfolding no_run
  no_run_because e = elim (or_case (lt_z first (pos 0) || le_z end first) (lt_z (pos 4294967295) end) e) [
    | inl p ↦ ⊎_elim (λ q. starts_below (less_yes first (pos 0) q)) (λ q. run_empty (most_yes end first q)) (or_case (lt_z first (pos 0)) (le_z end first) p)
    | inr p ↦ ends_past (less_yes (pos 4294967295) end p)
  ]

unknown : (type : ℤ) → is_type type ≡ false → (type ≢ pos 1) × (type ≢ pos 2)
unfolding is_kind
unknown type e = (λ q. true≢false (sym (ap is_type q) ∙ e), λ q. true≢false (sym (ap is_type q) ∙ e))

is_type_law : (type : ℤ) → is_type type ≡ true → (type ≡ pos 1) ⊎ (type ≡ pos 2)
is_type_law (pos n) e = ⊎_elim (λ q. inl (ap pos q)) (λ q. inr (ap pos q)) (is_kind_law n e)
is_type_law (negsuc n) e = absurd (true≢false (sym e))

type_there : (type : ℤ) → (type ≡ pos 1) ⊎ (type ≡ pos 2) → is_type type ≡ true
unfolding is_kind
type_there type (inl q) = ap is_type q
type_there type (inr q) = ap is_type q

no_type_there : (type : ℤ) → type ≢ pos 1 → type ≢ pos 2 → is_type type ≡ false
no_type_there type a b = not_of (is_type type) (λ e. ⊎_elim a b (is_type_law type e))

pub lock_only : (title : ℕ) (l : Lock) (k : ℕ) → import_lock title l ≡ bad k → LockRefuses title l k
lock_only title l k =
    importing title (λ x. x ≡ bad k → LockRefuses title l k) l (λ e q. so q (no_run_because title l e))
    (λ e f q. let u = unknown l.type f in so q (no_type (has_run title l e) u.0 u.1))
    (λ e f g q. so q (run_beyond (has_run title l e) (is_type_law l.type f) (less_yes (pos title) (end_frame title l) g)))
    (λ e f g q. taken_not_bad q)
  where
    so : {n : ℕ} → ◌≡◌ {A = Taken Claim} (bad n) (bad k) → LockRefuses title l n → LockRefuses title l k
    so q = subst (LockRefuses title l) (ap number_of q)

module _ (title : ℕ) (l : Lock) where
  refused_12 : no_run (first_frame l) (end_frame title l) ≡ true → import_lock title l ≡ bad 12
  unfolding import_lock
  refused_12 e = rw e

  refused_13 : no_run (first_frame l) (end_frame title l) ≡ false → is_type l.type ≡ false → import_lock title l ≡ bad 13
  unfolding import_lock
  refused_13 e f = rw (e, f)

  refused_11 : no_run (first_frame l) (end_frame title l) ≡ false → is_type l.type ≡ true → lt_z (pos title) (end_frame title l) ≡ true → import_lock title l ≡ bad 11
  unfolding import_lock
  refused_11 e f g = rw (e, f, g)

  below_no_run : lt_z (first_frame l) (pos 0) ≡ true → no_run (first_frame l) (end_frame title l) ≡ true
  unfolding no_run
  below_no_run e = rw e

  empty_no_run : le_z (end_frame title l) (first_frame l) ≡ true → no_run (first_frame l) (end_frame title l) ≡ true
  unfolding no_run
  empty_no_run e =
      or_left (lt_z (first_frame l) (pos 0) || le_z (end_frame title l) (first_frame l)) (lt_z (pos 4294967295) (end_frame title l))
      (or_right (lt_z (first_frame l) (pos 0)) (le_z (end_frame title l) (first_frame l)) e)

  past_no_run : lt_z (pos 4294967295) (end_frame title l) ≡ true → no_run (first_frame l) (end_frame title l) ≡ true
  unfolding no_run
  past_no_run e = or_right (lt_z (first_frame l) (pos 0) || le_z (end_frame title l) (first_frame l)) (lt_z (pos 4294967295) (end_frame title l)) e

pub lock_there : (title : ℕ) (l : Lock) (k : ℕ) → LockRefuses title l k → import_lock title l ≡ bad k
lock_there title l k (starts_below h) = refused_12 title l (below_no_run title l (held (lt_z (first_frame l) (pos 0)) h.lt))
lock_there title l k (run_empty h) = refused_12 title l (empty_no_run title l (held (le_z (end_frame title l) (first_frame l)) h.le))
lock_there title l k (ends_past h) = refused_12 title l (past_no_run title l (held (lt_z (pos 4294967295) (end_frame title l)) h.lt))
lock_there title l k (no_type r a b) = refused_13 title l (run_there title l r) (no_type_there l.type a b)
lock_there title l k (run_beyond r t h) = refused_11 title l (run_there title l r) (type_there l.type t) (held (lt_z (pos title) (end_frame title l)) h.lt)

-- ---- one claim
pub claim_only : (title : ℕ) (c : Claim) (k : ℕ) → export_claim title c ≡ bad k → ClaimRefuses title c k
claim_only title c k =
    exporting title (λ x. x ≡ bad k → ClaimRefuses title c k) c (λ e q. so q (claim_empty e)) (λ e f q. so q (claim_beyond e f))
    (λ e f g q. let u = unknown (pos c.kind) g in so q (claim_of_no_kind e f (λ z. u.0 (ap pos z)) (λ z. u.1 (ap pos z))))
    (λ e f g q. taken_not_bad q)
  where
    so : {n : ℕ} → ◌≡◌ {A = Taken Lock} (bad n) (bad k) → ClaimRefuses title c n → ClaimRefuses title c k
    so q = subst (ClaimRefuses title c) (ap number_of q)

pub claim_there : (title : ℕ) (c : Claim) (k : ℕ) → ClaimRefuses title c k → export_claim title c ≡ bad k
unfolding export_claim is_kind
claim_there title c k (claim_empty h) = rw (le-leb c.end c.start h)
claim_there title c k (claim_beyond h b) = rw (lt-leb c.end c.start h, lt-ltb title c.end b)
claim_there title c k (claim_of_no_kind h b d e) = rw (lt-leb c.end c.start h, le-ltb title c.end b, ne_eqb c.kind 1 d, ne_eqb c.kind 2 e)
