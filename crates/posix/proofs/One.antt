-- One record, by each way through the code: why it is refused or not, and the numbers of one that is not.
use Rattle.std.specs.Prelude.{if◌then◌else◌}
use Prim.Native.Nat.{ℕ, zero, suc, ◌+◌, ◌-◌, ◌<◌, ◌≤◌}
use mathlib.Core.Path.{◌≡◌, refl, sym, ap, ◌∙◌}
use mathlib.Core.Bool.{Bool, true, false, not, ◌||◌, true≢false}
use mathlib.Core.Logic.{◌≢◌, ⊎_elim}
use native.Mathlib.Omega.{arith}
use lib.IntN.{ℤ, pos, negsuc, nat_abs, ◌+ℤ◌, +ℤ_idr, pos-ne-negsuc}
use lib.Signed.{lt_z}
use mir.Syntax.{w64}
use mir.Val.{SFits, of_z}
use mir.Facts.{to_z-of_z}
use borrow.Author.Tests.{ltb-true}
use Rattle.rules.specs.Notation.{◌≤?◌, ◌<?◌}
use Rattle.rules.specs.Comparison.{Claim, claim}
use Rattle.rules.specs.Locks.{lock, by_sign, first_frame, is_type, Taken, taken, bad, import_lock}
use Rattle.rules.proofs.Laws.Shape.{is_kind_law}
use Rattle.rules.proofs.Laws.Locks.{end_is, import_run, starts_below, reaches_below, run_back, run_to_the_end, run_on, Imports, imports, import_never_0}
use Rattle.posix.specs.Records.{IsWord, run_refusal, claim_or0, refusal_of}
use Rattle.posix.proofs.Signs.{again, read_0, word_fits}

-- ---- the refusal of a run
run_refused : (title first end : ℕ) (type : ℤ) → run_refusal title first end (is_type type) ≡ refusal_of (import_run title first end type)
unfolding run_refusal
run_refused title first end type = go (end ≤? first) (4294967295 <? end) (is_type type) (title <? end)
  where
    go : (a b k t : Bool) → (if a then 12 else if b then 12 else if not k then 13 else if t then 11 else 0)
        ≡ refusal_of (if a || b then bad 12 else if not k then bad 13 else if t then bad 11 else taken (claim first end (nat_abs type)))
    go true b k t = refl
    go false true k t = refl
    go false false false t = refl
    go false false true true = refl
    go false false true false = refl

-- ---- the refusal of a lock, by the signs of its start and its length
module _ (title : ℕ) (type : ℤ) where
  starts : (start span : ℤ) → lt_z start (pos 0) ≡ true → 12 ≡ refusal_of (import_lock title (lock type start span))
  starts (pos n) span e = absurd (let h = ltb-true n 0 e in omega arith)
  starts (negsuc n) span e = rw (starts_below title type span n)

  reaches : (start span : ℤ) → lt_z start (pos 0) ≡ false → lt_z span (pos 0) ≡ true → nat_abs start < nat_abs span
      → 12 ≡ refusal_of (import_lock title (lock type start span))
  reaches (pos n) (pos m) s e h = absurd (let i = ltb-true m 0 e in omega arith)
  reaches (pos n) (negsuc m) s e h = rw (reaches_below title type n m h)
  reaches (negsuc n) span s e h = absurd (true≢false s)

  module _ (r : ℕ) where
    back : (start span : ℤ) → r ≡ run_refusal title (nat_abs start - nat_abs span) (nat_abs start) (is_type type) → lt_z start (pos 0) ≡ false
        → lt_z span (pos 0) ≡ true
        → nat_abs span ≤ nat_abs start → r ≡ refusal_of (import_lock title (lock type start span))
    back (pos n) (pos m) q s e h = absurd (let i = ltb-true m 0 e in omega arith)
    back (pos n) (negsuc m) q s e h = rw (run_back title type n m h, ← run_refused title (n - suc m) n type) q
    back (negsuc n) span q s e h = absurd (true≢false s)

    to_the_end : (start span : ℤ) → r ≡ run_refusal title (nat_abs start) title (is_type type) → lt_z start (pos 0) ≡ false → nat_abs span ≡ 0
        → r ≡ refusal_of (import_lock title (lock type start span))
    to_the_end (pos n) (pos zero) q s z = rw (run_to_the_end title type n, ← run_refused title n title type) q
    to_the_end (pos n) (pos (suc m)) q s z = absurd (omega arith)
    to_the_end (pos n) (negsuc m) q s z = absurd (omega arith)
    to_the_end (negsuc n) span q s z = absurd (true≢false s)

    on : (start span : ℤ) → r ≡ run_refusal title (nat_abs start) (nat_abs start + nat_abs span) (is_type type) → lt_z start (pos 0) ≡ false
        → lt_z span (pos 0) ≡ false
        → (span ≡ pos 0 → ⊥) → r ≡ refusal_of (import_lock title (lock type start span))
    on (pos n) (pos zero) q s e z = absurd (z refl)
    on (pos n) (pos (suc m)) q s e z = rw (run_on title type n m, ← run_refused title n (n + suc m) type) q
    on (pos n) (negsuc m) q s e z = absurd (true≢false e)
    on (negsuc n) span q s e z = absurd (true≢false s)

-- its numbers as the code reads them, with how far they lie from 0
module _ (title : ℕ) (type start span : ℤ) (f : SFits w64 start) where
  pub lock_starts_below : lt_z (again start) (pos 0) ≡ true → 12 ≡ refusal_of (import_lock title (lock type start span))
  lock_starts_below e = starts title type start span (rw (to_z-of_z f) at e)

  module _ (from size : ℕ) (a : from ≡ nat_abs (again start)) (b : size ≡ nat_abs (again span)) (s : lt_z (again start) (pos 0) ≡ false) (g : SFits w64 span) where
    from_is : from ≡ nat_abs start
    from_is = a ∙ ap nat_abs (to_z-of_z f)

    size_is : size ≡ nat_abs span
    size_is = b ∙ ap nat_abs (to_z-of_z g)

    not_below : lt_z start (pos 0) ≡ false
    not_below = rw (to_z-of_z f) at s

    pub lock_reaches_below : lt_z (again span) (pos 0) ≡ true → from < size → 12 ≡ refusal_of (import_lock title (lock type start span))
    lock_reaches_below e h = reaches title type start span not_below (rw (to_z-of_z g) at e) (rw (from_is, size_is) at h)

    module _ (r : ℕ) (known : Bool) (k : known ≡ is_type (again type)) (t : SFits w64 type) where
      known_is : known ≡ is_type type
      known_is = k ∙ ap is_type (to_z-of_z t)

      pub lock_back : r ≡ run_refusal title (from - size) from known → lt_z (again span) (pos 0) ≡ true → size ≤ from
          → r ≡ refusal_of (import_lock title (lock type start span))
      lock_back q e h = back title type r start span (rw (from_is, size_is, known_is) at q) not_below (rw (to_z-of_z g) at e) (rw (from_is, size_is) at h)

      pub lock_to_the_end : (end : ℕ) → r ≡ run_refusal title from end known → end ≡ title → of_z w64 span ≡ 0
          → r ≡ refusal_of (import_lock title (lock type start span))
      lock_to_the_end end q h z = to_the_end title type r start span (rw (from_is, known_is, h) at q) not_below (ap nat_abs (read_0 span g z))

      pub lock_on : r ≡ run_refusal title from (from + size) known → lt_z (again span) (pos 0) ≡ false → (of_z w64 span ≡ 0 → ⊥)
          → r ≡ refusal_of (import_lock title (lock type start span))
      lock_on q e z = on title type r start span (rw (from_is, size_is, known_is) at q) not_below (rw (to_z-of_z g) at e) (λ y. z (ap (of_z w64) y))

-- ---- the numbers of a lock that is not refused: its start, and the sum of its start and its length, are of 32 bits
pub is_claim : (x : Taken Claim) → x ≢ bad 0 → refusal_of x ≡ 0 → x ≡ taken (claim_or0 x)
is_claim (taken c) d e = refl
is_claim (bad number) d e = absurd (d (ap bad e))

-- by the sign of the length
record Sums (title : ℕ) (start span : ℤ) (a b : ℕ) : Type 0 where
  back : lt_z span (pos 0) ≡ true → (start +ℤ span ≡ pos a) × (start ≡ pos b)
  on : lt_z span (pos 0) ≡ false → start ≡ pos a
  to_the_end : span ≡ pos 0 → title ≡ b
  to_an_end : lt_z span (pos 0) ≡ false → (span ≡ pos 0 → ⊥) → start +ℤ span ≡ pos b
  sum : IsWord (start +ℤ span)
  itself : IsWord start

sums : (title : ℕ) (start span : ℤ) (a b : ℕ) → a ≤ 4294967295 → b ≤ 4294967295 → by_sign span (start +ℤ span) start start ≡ pos a
    → by_sign span start (pos title) (start +ℤ span) ≡ pos b
    → Sums title start span a b
sums title start (negsuc m) a b h k p q =
    record {
      back = λ e. (p, q);
      on = λ e. absurd (true≢false e);
      to_the_end = λ e. absurd (pos-ne-negsuc 0 m (sym e));
      to_an_end = λ e d. absurd (true≢false e);
      sum = record { value = a; is = p; small = h };
      itself = record { value = b; is = q; small = k };
    }
sums title start (pos zero) a b h k p q =
    record {
      back = λ e. absurd (true≢false (sym e));
      on = λ e. p;
      to_the_end = λ e. ap nat_abs q;
      to_an_end = λ e d. absurd (d refl);
      sum = record { value = a; is = +ℤ_idr start ∙ p; small = h };
      itself = record { value = a; is = p; small = h };
    }
sums title start (pos (suc m)) a b h k p q =
    record {
      back = λ e. absurd (let h = ltb-true (suc m) 0 e in omega arith);
      on = λ e. p;
      to_the_end = λ e. absurd (let z : suc m ≡ 0 = ap nat_abs e in omega arith);
      to_an_end = λ e d. q;
      sum = record { value = b; is = q; small = k };
      itself = record { value = a; is = p; small = h };
    }

module _ (title : ℕ) (type start span : ℤ) (q : refusal_of (import_lock title (lock type start span)) ≡ 0) where
  c : Claim
  c = claim_or0 (import_lock title (lock type start span))

  takes : import_lock title (lock type start span) ≡ taken c
  unfolding c
  takes = is_claim (import_lock title (lock type start span)) (import_never_0 title (lock type start span)) q

  known : Imports title (lock type start span) c
  known = imports title (lock type start span) c takes

  its_sums : Sums title start span c.start c.end
  unfolding first_frame
  its_sums =
      let s = known.some in
      let h = known.small in
      sums title start span c.start c.end (omega arith) h known.first (sym (end_is title (lock type start span)) ∙ known.end)

  module _ (f : SFits w64 start) where
    pub start_is_word : IsWord (again start)
    start_is_word = rw (to_z-of_z f) its_sums.itself

    module _ (g : SFits w64 span) where
      sum_is_word : IsWord (again start +ℤ again span)
      sum_is_word = rw (to_z-of_z f, to_z-of_z g) its_sums.sum

      pub sum_again_is_word : IsWord (again (again start +ℤ again span))
      sum_again_is_word = rw (to_z-of_z (word_fits (again start +ℤ again span) sum_is_word)) sum_is_word

      pub sum_fits_again : SFits w64 (again start +ℤ again span)
      sum_fits_again = word_fits (again start +ℤ again span) sum_is_word

  pub type_is_word : SFits w64 type → IsWord (again type)
  type_is_word f = rw (to_z-of_z f) (record { value = c.kind; is = known.type; small = ⊎_elim (λ e. omega arith) (λ e. omega arith) (is_kind_law c.kind known.known) })

  made : (a b k : ℕ) → a ≡ c.start → b ≡ c.end → k ≡ c.kind → taken (claim a b k) ≡ taken c
  made a b k p r e = rw (p, r, e)

  -- what is made of them is the claim
  module _ (a b k : ℕ) (t : SFits w64 type) (f : SFits w64 start) (g : SFits w64 span) (kind : pos k ≡ again type) where
    word : (n m : ℕ) (z : ℤ) → SFits w64 z → pos n ≡ again z → z ≡ pos m → n ≡ m
    word n m z h p e = ap nat_abs (p ∙ to_z-of_z h ∙ e)

    the_kind : k ≡ c.kind
    the_kind = word k c.kind type t kind known.type

    summed : (n m : ℕ) → pos n ≡ again (again start +ℤ again span) → start +ℤ span ≡ pos m → n ≡ m
    summed n m p e = word n m (again start +ℤ again span) (sum_fits_again f g) p (rw (to_z-of_z f, to_z-of_z g) e)

    pub claimed_back : pos a ≡ again (again start +ℤ again span) → pos b ≡ again start → lt_z (again span) (pos 0) ≡ true
        → taken (claim a b k) ≡ import_lock title (lock type start span)
    claimed_back p r e =
        let w = its_sums.back (rw (to_z-of_z g) at e) in
        made a b k (summed a c.start p w.0) (word b c.end start f r w.1) the_kind ∙ sym takes

    pub claimed_to_the_end : pos a ≡ again start → of_z w64 span ≡ 0 → taken (claim a title k) ≡ import_lock title (lock type start span)
    claimed_to_the_end p z =
        let e = read_0 span g z in
        made a title k (word a c.start start f p (its_sums.on (rw e))) (its_sums.to_the_end e) the_kind ∙ sym takes

    pub claimed_on : pos a ≡ again start → pos b ≡ again (again start +ℤ again span) → lt_z (again span) (pos 0) ≡ false → (of_z w64 span ≡ 0 → ⊥)
        → taken (claim a b k) ≡ import_lock title (lock type start span)
    claimed_on p r e z =
        let s : lt_z span (pos 0) ≡ false = rw (to_z-of_z g) at e in
        made a b k (word a c.start start f p (its_sums.on s)) (summed b c.end r (its_sums.to_an_end s (λ y. z (ap (of_z w64) y)))) the_kind ∙ sym takes
