-- Lists of records as the code goes through them: by places, the first bad one, and each stored behind the one before it. Of records of any kind.
use Prim.Native.Nat.{ℕ, zero, suc, ◌+◌, ◌-◌, ◌*◌, ◌/◌, ◌<◌, ◌≤◌}
use Rattle.std.specs.Prelude.{Result, Ok, Err}
use mathlib.Core.Path.{◌≡◌, refl, sym, ap, ◌∙◌}
use mathlib.Core.List.{List, [], ◌∷◌, ◌++◌, append_assoc}
use mathlib.Core.Logic.{◌≢◌}
use native.Mathlib.Omega.{arith}
use lib.ListN.{length, drop, set, length-append}
use borrow.Author.Tests.{lt-ltb, le-ltb}
use Rattle.rules.proofs.Ground.Deciding.{if_same}
use Rattle.rules.proofs.Laws.OneAnswer.{one_record}
use Rattle.rules.specs.Locks.{Taken, taken, bad, All, all, first_bad, and_then, each, record_width, in_threes, threes, listed, moved, written}
use Rattle.rules.specs.Means.{number_of, means_done, means_moved}
use Rattle.rules.specs.declared.BadRecord.{BadRecord}
use Rattle.rules.specs.declared.Refused.{Refused}
use Rattle.posix.specs.Records.{record_at, put3, verdict, IsFirstBad, records_from, put_from, refusal_of}

-- ---- the records of a list are those at its places
shifted : {A : Type 0} (f g : ℕ → A) → ((i : ℕ) → f (i + 1) ≡ g i) → (i n : ℕ) → records_from f (i + 1) n ≡ records_from g i n
unfolding records_from
shifted f g h i zero = refl
shifted f g h i (suc n) = rw (h i, shifted f g h (i + 1) n)

record_behind : {A B : Type 0} (make : A → A → A → B) (none a b c : A) (more : List A) (i : ℕ)
    → record_at make none (a ∷ b ∷ c ∷ more) (i + 1) ≡ record_at make none more i
record_behind make none a b c more i =
    let p : record_width * (i + 1) ≡ suc (suc (suc (record_width * i))) = omega arith in
    let q : record_width * (i + 1) + 1 ≡ suc (suc (suc (record_width * i + 1))) = omega arith in
    let r : record_width * (i + 1) + 2 ≡ suc (suc (suc (record_width * i + 2))) = omega arith in
    rw (q, r, p)

pub records_at : {A B : Type 0} (make : A → A → A → B) (none : A) (l : List A)
    → in_threes make l ≡ records_from (record_at make none l) 0 (length l / record_width)
unfolding in_threes records_from
records_at make none [] = refl
records_at make none (a ∷ []) = refl
records_at make none (a ∷ b ∷ []) = refl
records_at make none (a ∷ b ∷ c ∷ more) =
    let n : suc (suc (suc (length more))) / record_width ≡ suc (length more / record_width) = omega arith in
    rw n
    (ap (λ (x : List _). make a b c ∷ x)
    (records_at make none more ∙ sym (shifted (record_at make none (a ∷ b ∷ c ∷ more)) (record_at make none more) (record_behind make none a b c more) 0 (length more / record_width))))

-- ---- the first bad one
-- a refusal has a number: an answer that is refused is none that is not
pub numbered : (why : Refused) → number_of why ≡ 0 → ⊥
numbered why e =
    let refused : BadRecord = record { why = why; place = 0 } in
    let same = one_record {A = ℕ} (listed (moved 0 0) []) (Ok tt) (Err refused) [] [] refl (ap (λ n. listed {A = ℕ} (moved n 0) []) e) in
    let q = same.0 in
    cc

is_bad : {B : Type 0} (x : Taken B) (why : Refused) → number_of why ≡ refusal_of x → x ≡ bad (number_of why)
is_bad (taken b) why q = absurd (numbered why q)
is_bad (bad number) why q = ap bad (sym q)

-- a list is accepted if each of its records is
both_accepted : {B : Type 0} (x : Taken B) (rest : All B) → x ≢ bad 0 → (verdict (and_then x rest)).refusal ≡ 0
    → (refusal_of x ≡ 0) × ((verdict rest).refusal ≡ 0)
both_accepted (taken b) (all records) d e = (refl, refl)
both_accepted (taken b) (first_bad number place) d e = (refl, e)
both_accepted (bad number) rest d e = absurd (d (ap bad e))

all_accepted : {A B : Type 0} (move : A → Taken B) (at : ℕ → A) → ((a : A) → move a ≢ bad 0) → (i n : ℕ)
    → (verdict (each move (records_from at i n))).refusal ≡ 0
    → (j : ℕ) → i ≤ j → j < i + n → refusal_of (move (at j)) ≡ 0
unfolding each records_from
all_accepted move at never_0 i zero e j h k = absurd (omega arith)
all_accepted move at never_0 i (suc n) e j h k =
    let w = both_accepted (move (at i)) (each move (records_from at (i + 1) n)) (never_0 (at i)) e in
    if_same j i (λ q. rw q w.0) (λ q. all_accepted move at never_0 (i + 1) n w.1 j (omega arith) (omega arith))

-- so many records from a place on, where f tells what a record that is not refused is taken for
module _ {A B : Type 0} (move : A → Taken B) (at : ℕ → A) (f : ℕ → B) (is : (j : ℕ) → refusal_of (move (at j)) ≡ 0 → move (at j) ≡ taken (f j)) where
  abbrev Pass : ℕ → ℕ → Type 0
  Pass i n = (j : ℕ) → i ≤ j → j < i + n → refusal_of (move (at j)) ≡ 0

  taken_all : (i n : ℕ) → Pass i n → each move (records_from at i n) ≡ all (records_from f i n)
  unfolding each records_from
  taken_all i zero h = refl
  taken_all i (suc n) h = rw (is i (h i (omega arith) (omega arith)), taken_all (i + 1) n (λ j p q. h j (omega arith) (omega arith)))

  stops_at : (i n place : ℕ) (number : ℕ) → place < n → Pass i place → move (at (i + place)) ≡ bad number
      → each move (records_from at i n) ≡ first_bad number place
  unfolding each records_from
  stops_at i zero place number h before q = absurd (omega arith)
  stops_at i (suc n) zero number h before q = let e : i + 0 ≡ i = omega arith in rw (rw e at q)
  stops_at i (suc n) (suc place) number h before q =
      let e : i + suc place ≡ i + 1 + place = omega arith in
      let more : place + 1 ≡ suc place = omega arith in
      rw (
        is i (before i (omega arith) (omega arith)),
        stops_at (i + 1) n place number (omega arith) (λ j p k. before j (omega arith) (omega arith)) (rw e at q),
        more,
      )

-- ---- records stored one behind the other
records_length : {A : Type 0} (f : ℕ → A) (i n : ℕ) → length (records_from f i n) ≡ n
unfolding records_from
records_length f i zero = refl
records_length f i (suc n) = ap suc (records_length f (i + 1) n)

set_behind : {A : Type 0} (x l : List A) (k : ℕ) (v : A) → set (x ++ l) (length x + k) v ≡ x ++ set l k v
set_behind [] l k v = let e : 0 + k ≡ k = omega arith in rw e
set_behind {A} (a ∷ x) l k v = let e : length (a ∷ x) + k ≡ suc (length x + k) = omega arith in rw e (ap (λ (m : List A). a ∷ m) (set_behind x l k v))

three_behind : {A : Type 0} (x l : List A) (i : ℕ) (a b c p q r : A) → length x ≡ record_width * i
    → put3 (x ++ (a ∷ b ∷ c ∷ l)) i p q r ≡ (x ++ (p ∷ q ∷ r ∷ [])) ++ l
three_behind {A} x l i a b c p q r e =
    let z : length x + 0 ≡ length x = omega arith in
    rw (← e)
    (ap (λ (m : List A). set (set m (length x + 1) q) (length x + 2) r) (rw z at (set_behind x (a ∷ b ∷ c ∷ l) 0 p))
    ∙ ap (λ (m : List A). set m (length x + 2) r) (set_behind x (p ∷ b ∷ c ∷ l) 1 q)
    ∙ set_behind x (p ∷ q ∷ c ∷ l) 2 r
    ∙ sym (append_assoc x (p ∷ q ∷ r ∷ []) l))

module _ {A B : Type 0} (first second third : B → A) where
  abbrev put : List A → ℕ → B → List A
  put l i r = put3 l i (first r) (second r) (third r)

  stored_behind : (x : List A) (i : ℕ) (records : List B) (l : List A) → length x ≡ record_width * i → record_width * length records ≤ length l
      → put_from put i records (x ++ l) ≡ x ++ (threes first second third records ++ drop (record_width * length records) l)
  unfolding put_from threes
  stored_behind x i [] l e h = refl
  stored_behind x i (r ∷ more) [] e h = absurd (omega arith)
  stored_behind x i (r ∷ more) (a ∷ []) e h = absurd (omega arith)
  stored_behind x i (r ∷ more) (a ∷ b ∷ []) e h = absurd (omega arith)
  stored_behind x i (r ∷ more) (a ∷ b ∷ c ∷ l) e h =
      let one = first r ∷ second r ∷ third r ∷ [] in
      let k = length-append x one in
      let w : record_width * suc (length more) ≡ suc (suc (suc (record_width * length more))) = omega arith in
      rw (three_behind x l i a b c (first r) (second r) (third r) e, w)
      (stored_behind (x ++ one) (i + 1) more l (omega arith) (omega arith)
      ∙ append_assoc x one (threes first second third more ++ drop (record_width * length more) l))

  pub stored : (records : List B) (l : List A) → record_width * length records ≤ length l
      → put_from put 0 records l ≡ threes first second third records ++ drop (record_width * length records) l
  stored records l h = stored_behind [] 0 records l refl h

module _ {A B : Type 0} (put : List A → ℕ → B → List A) (f : ℕ → B) (given : List A) where
  -- so many records, of which i are stored
  abbrev pub StoredUpTo : ℕ → ℕ → List A → Type 0
  StoredUpTo n i l = put_from put i (records_from f i (n - i)) l ≡ given

  pub stored_none : (n : ℕ) (l : List A) → put_from put 0 (records_from f 0 n) l ≡ given → StoredUpTo n 0 l
  stored_none n l q = let e : n - 0 ≡ n = omega arith in rw e q

  pub stored_on : (n i : ℕ) (l m : List A) → StoredUpTo n i l → i < n → m ≡ put l i (f i) → StoredUpTo n (i + 1) m
  unfolding put_from records_from
  stored_on n i l m inv h q = let e : n - i ≡ suc (n - (i + 1)) = omega arith in rw q (rw e at inv)

  pub stored_all : (n i : ℕ) (l : List A) → StoredUpTo n i l → n ≤ i → l ≡ given
  unfolding put_from records_from
  stored_all n i l inv h = let e : n - i ≡ 0 = omega arith in rw e at inv

-- ---- a list of records as it is lent
module _ {A B C : Type 0} (make : A → A → A → B) (none : A) (move : B → Taken C) (l : List A) where
  abbrev count : ℕ
  count = length l / record_width

  abbrev at : ℕ → B
  at = record_at make none l

  pub each_passed : ((b : B) → move b ≢ bad 0) → moved 0 0 ≡ verdict (each move (in_threes make l)) → (j : ℕ) → j < count → refusal_of (move (at j)) ≡ 0
  each_passed never_0 q j h =
      let e : (verdict (each move (records_from at 0 count))).refusal ≡ 0
      = ap (λ (x : List B). (verdict (each move x)).refusal) (sym (records_at make none l)) ∙ ap (λ m. m.refusal) (sym q) in
      all_accepted move at never_0 0 count e j (omega arith) (omega arith)

  module _ (f : ℕ → C) (is : (j : ℕ) → refusal_of (move (at j)) ≡ 0 → move (at j) ≡ taken (f j)) where
    pub found_is : (says : ℕ → Result (Unit {0}) Refused → Type 0)
        → ((j : ℕ) (r : Result (Unit {0}) Refused) → j < count → says j r → means_done r ≡ refusal_of (move (at j)))
        → (found : Result (Unit {0}) BadRecord) → IsFirstBad says count found → means_moved found ≡ verdict (each move (in_threes make l))
    unfolding IsFirstBad
    found_is says told (Ok tt) pass =
        rw (records_at make none l, taken_all move at f is 0 count (λ j p h. sym (told j (Ok tt) (omega arith) (pass j (omega arith)))))
    found_is says told (Err found) (h, here, before) =
        let e : 0 + found.place ≡ found.place = omega arith in
        let stop : move (at (0 + found.place)) ≡ bad (number_of found.why) = rw e (is_bad (move (at found.place)) found.why (told found.place (Err found.why) h here)) in
        rw (
          records_at make none l,
          stops_at move at f is 0 count found.place (number_of found.why) h (λ j p k. sym (told j (Ok tt) (omega arith) (before j (omega arith)))) stop,
        )

    module _ {D : Type 0} (first second third : C → D) (never_0 : (b : B) → move b ≢ bad 0) (accepted : moved 0 0 ≡ verdict (each move (in_threes make l))) (lent : List D) where
      each_taken : each move (in_threes make l) ≡ all (records_from f 0 count)
      each_taken = rw (records_at make none l) (taken_all move at f is 0 count (λ j p h. each_passed never_0 accepted j (omega arith)))

      pub call_short : length lent / record_width < count → listed (moved 9 0) lent ≡ written (threes first second third) (each move (in_threes make l)) lent
      call_short h = rw (each_taken, records_length f 0 count, lt-ltb (length lent / record_width) count h)

      pub call_accepted : (after : List D) → count ≤ length lent / record_width → after ≡ put_from (put first second third) 0 (records_from f 0 count) lent
          → listed (moved 0 0) after ≡ written (threes first second third) (each move (in_threes make l)) lent
      call_accepted after h q =
          let n = records_length f 0 count in
          let k : record_width * count ≤ length lent = omega arith in
          rw (each_taken, le-ltb (length lent / record_width) (length (records_from f 0 count)) (omega arith))
          (ap (listed (moved 0 0)) (q ∙ stored first second third (records_from f 0 count) lent (omega arith)))

-- a list that is refused is not written to
pub call_refused : {B C : Type 0} (numbers : List B → List C) (x : All B) (found : BadRecord) (lent : List C) → means_moved (Err found) ≡ verdict x
    → listed (means_moved (Err found)) lent ≡ written numbers x lent
call_refused numbers (all records) found lent q = absurd (numbered found.why (ap (λ m. m.refusal) q))
call_refused numbers (first_bad number place) found lent q = ap (λ m. listed m lent) q
