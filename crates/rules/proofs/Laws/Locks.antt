-- The run of a lock by the signs of its start and its length.
use Rattle.std.specs.Prelude.{if◌then◌else◌}
use Prim.Native.Nat.{ℕ, zero, suc, ◌+◌, ◌-◌, ◌≤◌, ◌<◌}
use mathlib.Core.Path.{◌≡◌, refl, sym, ap, subst, ◌∙◌}
use mathlib.Core.Bool.{true, false, not, ◌||◌, true≢false}
use mathlib.Core.Logic.{◌≢◌}
use native.Mathlib.Omega.{arith}
use lib.IntN.{ℤ, pos, negsuc, nat_abs, ◌+ℤ◌, ◌-ℤ◌, -ℤ-+ℤ_cancel, +ℤ-neg_ℤ_cancel, pos-ne-negsuc}
use lib.Signed.{lt_z}
use borrow.Author.Tests.{lt-ltb, le-ltb, lt-leb, eq-eqb, ne_eqb, leb-true, leb-false, ltb-true, ltb-false, not-true, not-false}
use Rattle.rules.specs.Notation.{◌≤?◌, ◌<?◌}
use Rattle.rules.specs.Comparison.{Claim, claim}
use Rattle.rules.specs.Shape.{is_kind}
use Rattle.rules.specs.Locks.{Lock, lock, by_sign, first_frame, last_frame, end_frame, no_run, is_type, Taken, taken, bad, import_lock, length_of, lock_of, export_claim}
use Rattle.rules.specs.Archive.{SameFrames}
use Rattle.rules.proofs.Ground.Logic.{branch, or_neither}
use Rattle.rules.proofs.Ground.Deciding.{if_same}
use Rattle.rules.proofs.Laws.Records.{number_of, taken_not_bad}

-- ---- the end, as reserve has it
pub end_is : (title : ℕ) (l : Lock) → end_frame title l ≡ by_sign l.length l.start (pos title) (l.start +ℤ l.length)
unfolding last_frame
end_is title l = go l.length
  where
    go : (n : ℤ) → by_sign n (l.start -ℤ pos 1) (pos title -ℤ pos 1) (l.start +ℤ n -ℤ pos 1) +ℤ pos 1 ≡ by_sign n l.start (pos title) (l.start +ℤ n)
    go (negsuc n) = -ℤ-+ℤ_cancel l.start (pos 1)
    go (pos zero) = -ℤ-+ℤ_cancel (pos title) (pos 1)
    go (pos (suc n)) = -ℤ-+ℤ_cancel (l.start +ℤ pos (suc n)) (pos 1)

not_below : (n : ℕ) → (n <? 0) ≡ false
not_below n = le-ltb n 0 (omega arith)

-- ---- one record goes by one of the tests, each branch knowing how those before it came out
module _ {ℓ} (title : ℕ) where
  pub importing : (P : Taken Claim → Type ℓ) (l : Lock) → (no_run (first_frame l) (end_frame title l) ≡ true → P (bad 12))
      → (no_run (first_frame l) (end_frame title l) ≡ false → is_type l.type ≡ false → P (bad 13))
      → (no_run (first_frame l) (end_frame title l) ≡ false → is_type l.type ≡ true → lt_z (pos title) (end_frame title l) ≡ true → P (bad 11))
      → (no_run (first_frame l) (end_frame title l) ≡ false → is_type l.type ≡ true → lt_z (pos title) (end_frame title l) ≡ false
      → P (taken (claim (nat_abs (first_frame l)) (nat_abs (end_frame title l)) (nat_abs l.type))))
      → P (import_lock title l)
  unfolding import_lock
  importing P l no_run_law no_type beyond takes =
      branch P (no_run (first_frame l) (end_frame title l)) no_run_law
      (λ e. branch P (not (is_type l.type)) (λ f. no_type e (not-true (is_type l.type) f))
      (λ f. branch P (lt_z (pos title) (end_frame title l)) (beyond e (not-false (is_type l.type) f)) (takes e (not-false (is_type l.type) f))))

  pub exporting : (P : Taken Lock → Type ℓ) (c : Claim) → (c.end ≤ c.start → P (bad 3)) → (c.start < c.end → title < c.end → P (bad 11))
      → (c.start < c.end → c.end ≤ title → is_kind c.kind ≡ false → P (bad 4))
      → (c.start < c.end → c.end ≤ title → is_kind c.kind ≡ true → P (taken (lock_of title c)))
      → P (export_claim title c)
  unfolding export_claim
  exporting P c empty beyond no_kind takes =
      branch P (c.end ≤? c.start) (λ e. empty (leb-true c.end c.start e))
      (λ e. branch P (title <? c.end) (λ f. beyond (leb-false c.end c.start e) (ltb-true title c.end f))
      (λ f. branch P (not (is_kind c.kind)) (λ g. no_kind (leb-false c.end c.start e) (ltb-false title c.end f) (not-true (is_kind c.kind) g))
      (λ g. takes (leb-false c.end c.start e) (ltb-false title c.end f) (not-false (is_kind c.kind) g))))

-- a refusal has a number
bad_not_0 : {A : Type 0} (n : ℕ) → ◌≢◌ {A = Taken A} (bad (suc n)) (bad 0)
bad_not_0 n q = let z : suc n ≡ 0 = ap number_of q in omega arith

pub import_never_0 : (title : ℕ) (l : Lock) → import_lock title l ≢ bad 0
import_never_0 title l = importing title (λ x. x ≢ bad 0) l (λ e. bad_not_0 11) (λ e f. bad_not_0 12) (λ e f g. bad_not_0 10) (λ e f g. taken_not_bad)

pub export_never_0 : (title : ℕ) (c : Claim) → export_claim title c ≢ bad 0
export_never_0 title c = exporting title (λ x. x ≢ bad 0) c (λ e. bad_not_0 2) (λ e f. bad_not_0 10) (λ e f g. bad_not_0 3) (λ e f g. taken_not_bad)

-- ---- import of a run that does not start below 0
abbrev pub import_run : ℕ → ℕ → ℕ → ℤ → Taken Claim
import_run title first end type =
    if end ≤? first || 4294967295 <? end then bad 12
    else if not (is_type type) then bad 13
    else if title <? end then bad 11
    else taken (claim first end (nat_abs type))

module _ (title : ℕ) (type : ℤ) where
  pub starts_below : (length : ℤ) (n : ℕ) → import_lock title (lock type (negsuc n) length) ≡ bad 12
  unfolding import_lock first_frame no_run
  starts_below (pos zero) n = refl
  starts_below (pos (suc m)) n = refl
  starts_below (negsuc m) n = refl

  pub reaches_below : (s m : ℕ) → s < suc m → import_lock title (lock type (pos s) (negsuc m)) ≡ bad 12
  unfolding import_lock first_frame no_run
  reaches_below s m h = rw (lt-ltb s (suc m) h)

  pub run_back : (s m : ℕ) → suc m ≤ s → import_lock title (lock type (pos s) (negsuc m)) ≡ import_run title (s - suc m) s type
  unfolding import_lock first_frame no_run
  run_back s m h = rw (end_is title (lock type (pos s) (negsuc m)), le-ltb s (suc m) h, not_below (s - suc m))

  pub run_to_the_end : (s : ℕ) → import_lock title (lock type (pos s) (pos 0)) ≡ import_run title s title type
  unfolding import_lock first_frame no_run
  run_to_the_end s = rw (end_is title (lock type (pos s) (pos 0)), not_below s)

  pub run_on : (s m : ℕ) → import_lock title (lock type (pos s) (pos (suc m))) ≡ import_run title s (s + suc m) type
  unfolding import_lock first_frame no_run
  run_on s m = rw (end_is title (lock type (pos s) (pos (suc m))), not_below s)

-- ---- what is known of a lock that is imported, and the other way round
pub record Imports (title : ℕ) (l : Lock) (c : Claim) : Type 0 where
  pub first : first_frame l ≡ pos c.start
  pub end : end_frame title l ≡ pos c.end
  pub type : l.type ≡ pos c.kind
  pub some : c.start < c.end
  pub small : c.end ≤ 4294967295
  pub known : is_kind c.kind ≡ true
  pub within : c.end ≤ title

record Run (first end : ℤ) : Type 0 where
  first_is : first ≡ pos (nat_abs first)
  end_is : end ≡ pos (nat_abs end)
  some : nat_abs first < nat_abs end
  small : nat_abs end ≤ 4294967295

is_run : (first end : ℤ) → no_run first end ≡ false → Run first end
unfolding no_run
is_run (pos f) (pos e) q =
    let h = or_neither (f <? 0 || e ≤? f) (4294967295 <? e) q in
    let i = or_neither (f <? 0) (e ≤? f) h.0 in
    record { first_is = refl; end_is = refl; some = leb-false e f i.1; small = ltb-false 4294967295 e h.1 }
is_run (pos f) (negsuc e) q = absurd (true≢false (rw (not_below f) at q))
is_run (negsuc f) e q = absurd (true≢false q)

taken_claim : Taken Claim → Claim
taken_claim (taken c) = c
taken_claim (bad number) = claim 0 0 0

not_taken : {A B : Type 0} {n : ℕ} {a : A} → ◌≡◌ {A = Taken A} (bad n) (taken a) → B
not_taken q = taken_not_bad (sym q)

type_is : (type : ℤ) → is_type type ≡ true → type ≡ pos (nat_abs type)
type_is (pos n) e = refl
type_is (negsuc n) e = absurd (true≢false (sym e))

kind_known : (type : ℤ) → is_type type ≡ true → is_kind (nat_abs type) ≡ true
kind_known (pos n) e = e
kind_known (negsuc n) e = absurd (true≢false (sym e))

pub imports : (title : ℕ) (l : Lock) (c : Claim) → import_lock title l ≡ taken c → Imports title l c
unfolding taken_claim
imports title l c =
    importing title (λ x. x ≡ taken c → Imports title l c) l (λ e. not_taken) (λ e f. not_taken) (λ e f g. not_taken)
    (λ e f g q. subst (Imports title l) (ap taken_claim q) (known e f g))
  where
    within : (end : ℤ) → end ≡ pos (nat_abs end) → lt_z (pos title) end ≡ false → nat_abs end ≤ title
    within (pos n) i e = ltb-false title n e
    within (negsuc n) i e = absurd (pos-ne-negsuc _ n (sym i))

    known : no_run (first_frame l) (end_frame title l) ≡ false → is_type l.type ≡ true → lt_z (pos title) (end_frame title l) ≡ false
        → Imports title l (claim (nat_abs (first_frame l)) (nat_abs (end_frame title l)) (nat_abs l.type))
    known e f g =
        let r = is_run (first_frame l) (end_frame title l) e in
        record {
          first = r.first_is;
          end = r.end_is;
          type = type_is l.type f;
          some = r.some;
          small = r.small;
          known = kind_known l.type f;
          within = within (end_frame title l) r.end_is g;
        }

pub imported : (title : ℕ) (l : Lock) (c : Claim) → Imports title l c → import_lock title l ≡ taken c
unfolding import_lock no_run
imported title l c i =
    rw (
      i.first,
      i.end,
      i.type,
      not_below c.start,
      lt-leb c.end c.start i.some,
      le-ltb 4294967295 c.end i.small,
      i.known,
      le-ltb title c.end i.within,
    )

-- ---- what is known of a claim that is exported, and the other way round
pub record Exports (title : ℕ) (c : Claim) : Type 0 where
  pub some : c.start < c.end
  pub within : c.end ≤ title
  pub known : is_kind c.kind ≡ true

taken_lock : Taken Lock → Lock
taken_lock (taken l) = l
taken_lock (bad number) = lock (pos 0) (pos 0) (pos 0)

pub exports : (title : ℕ) (c : Claim) (l : Lock) → export_claim title c ≡ taken l → Exports title c × (l ≡ lock_of title c)
unfolding taken_lock
exports title c l =
    exporting title (λ x. x ≡ taken l → Exports title c × (l ≡ lock_of title c)) c (λ e. not_taken) (λ e f. not_taken) (λ e f g. not_taken)
    (λ e f g q. (record { some = e; within = f; known = g }, sym (ap taken_lock q)))

pub exported : (title : ℕ) (c : Claim) → Exports title c → export_claim title c ≡ taken (lock_of title c)
unfolding export_claim
exported title c e = rw (lt-leb c.end c.start e.some, le-ltb title c.end e.within, e.known)

-- ---- there and back
pub out_and_in : (title : ℕ) (c : Claim) → title ≤ 4294967295 → Exports title c → Imports title (lock_of title c) c
unfolding first_frame
out_and_in title c h e =
    record {
      first = first;
      end = end;
      type = refl;
      some = e.some;
      small = let w = e.within in omega arith;
      known = e.known;
      within = e.within;
    }
  where
    length_is : c.end ≢ title → length_of title c ≡ pos (suc (c.end - suc c.start))
    length_is d = let n : c.end - c.start ≡ suc (c.end - suc c.start) = let s = e.some in omega arith in rw (ne_eqb c.end title d) (ap pos n)

    first : first_frame (lock_of title c) ≡ pos c.start
    first = if_same c.end title (λ q. rw (eq-eqb c.end title q)) (λ d. rw (length_is d))

    end : end_frame title (lock_of title c) ≡ pos c.end
    end =
        end_is title (lock_of title c)
        ∙ if_same c.end title (λ q. rw (eq-eqb c.end title q) (ap pos (sym q)))
        (λ d. rw (length_is d) (ap pos (let s = e.some in omega arith)))

pub last_is : (title : ℕ) (l : Lock) → last_frame title l ≡ end_frame title l -ℤ pos 1
last_is title l = sym (+ℤ-neg_ℤ_cancel (last_frame title l) (pos 1))

pub in_and_out : (title : ℕ) (l : Lock) (c : Claim) → title ≤ 4294967295 → Imports title l c → (export_claim title c ≡ taken (lock_of title c)) × SameFrames title l (lock_of title c)
in_and_out title l c h i =
    let e : Exports title c = record { some = i.some; within = i.within; known = i.known } in
    let o = out_and_in title c h e in (
      exported title c e,
      record {
        same_type = i.type;
        same_first = i.first ∙ sym o.first;
        same_last = last_is title l ∙ ap (λ z. z -ℤ pos 1) (i.end ∙ sym o.end) ∙ sym (last_is title (lock_of title c));
      },
    )
