-- Lists of records: where the first bad one stands, and numbers read back as the records that they were written for. Of records of any kind.
use Prim.Native.Nat.{ℕ, suc, ◌+◌, ◌*◌, ◌/◌, ◌≤◌, ◌<◌}
use mathlib.Core.Path.{◌≡◌, refl, sym, ap, subst, ◌∙◌}
use mathlib.Core.List.{List, [], ◌∷◌, ◌++◌}
use mathlib.Core.Logic.{◌≢◌}
use native.Mathlib.Omega.{arith}
use native.Mathlib.Decide.{dec_le}
use lib.ListN.{length, take, drop}
use borrow.Author.Tests.{lt-ltb, le-ltb, eq-eqb, ne_eqb}
use Rattle.rules.specs.Locks.{Taken, taken, bad, All, all, first_bad, and_then, each, record_width, in_threes, threes, Listed, listed, moved, written, move_all}
use Rattle.rules.specs.Refusing.{NoneRefused, no_record, not_this, RecordsRefuse, no_title, bad_record, no_room}
use Rattle.rules.specs.Archive.{record_numbers}
use Rattle.rules.specs.declared.Moved.{Moved}
use Rattle.rules.proofs.Ground.Deciding.{if_same}

-- ---- one record is taken or bad, and all are or one is the first bad one: never both
pub taken_not_bad : {A B : Type 0} {a : A} {n : ℕ} → taken a ≡ bad n → B
taken_not_bad q = let z : ◌≡◌ {A = ℕ} 0 1 = cc in absurd (omega arith)

all_not_bad : {A B : Type 0} {l : List A} {n p : ℕ} → all l ≡ first_bad n p → B
all_not_bad q = let z : ◌≡◌ {A = ℕ} 0 1 = cc in absurd (omega arith)

abbrev pub number_of : {A : Type 0} → Taken A → ℕ
number_of (taken a) = 0
number_of (bad n) = n

abbrev pub records_of : {A : Type 0} → All A → List A
records_of (all l) = l
records_of (first_bad n p) = []

bad_number : {A : Type 0} → All A → ℕ
bad_number (all l) = 0
bad_number (first_bad n p) = n

bad_place : {A : Type 0} → All A → ℕ
bad_place (all l) = 0
bad_place (first_bad n p) = p

-- a first record that is taken, and all the others
pub record Taken-all {B : Type 0} (x : Taken B) (y : All B) (records : List B) : Type 0 where
  pub one : B
  pub more : List B
  pub first : x ≡ taken one
  pub others : y ≡ all more
  pub are : records ≡ one ∷ more

pub taken_all : {B : Type 0} (x : Taken B) (y : All B) (records : List B) → and_then x y ≡ all records → Taken-all x y records
taken_all (taken b) (all more) records q = record { one = b; more = more; first = refl; others = refl; are = sym (ap records_of q) }
taken_all (taken b) (first_bad n p) records q = all_not_bad (sym q)
taken_all (bad n) y records q = all_not_bad (sym q)

pub taken_too : {A B : Type 0} (move : A → Taken B) (a : A) (rest : List A) (b : B) (list : List B) → move a ≡ taken b → each move rest ≡ all list → each move (a ∷ rest) ≡ all (b ∷ list)
unfolding each
taken_too move a rest b list e f = rw (e, f)

-- ---- the refusal of several, by that of one
module _ {A B : Type 0} (move : A → Taken B) (Refused : A → ℕ → Type 0) (only : (a : A) (n : ℕ) → move a ≡ bad n → Refused a n) (there : (a : A) (n : ℕ) → Refused a n → move a ≡ bad n) where
  -- which one, and where
  record First (records : List A) (n p : ℕ) : Type 0 where
    before : List A
    one : A
    behind_it : List A
    is : records ≡ before ++ (one ∷ behind_it)
    good : NoneRefused Refused before
    refused : Refused one n
    place : p ≡ length before

  not_refused : (a : A) {b : B} → move a ≡ taken b → (n : ℕ) → Refused a n → ⊥
  not_refused a e n r = taken_not_bad (sym e ∙ there a n r)

  first_bad_law : (records : List A) (n p : ℕ) → each move records ≡ first_bad n p → First records n p
  unfolding each bad_number bad_place
  first_bad_law [] n p q = all_not_bad q
  first_bad_law (a ∷ rest) n p q = go (move a) (each move rest) refl refl (first_bad_law rest) q
    where
      go : (x : Taken B) (y : All B) → move a ≡ x → each move rest ≡ y → ((n p : ℕ) → each move rest ≡ first_bad n p → First rest n p) → and_then x y ≡ first_bad n p → First (a ∷ rest) n p
      go (bad k) y e f i q =
          record {
            before = [];
            one = a;
            behind_it = rest;
            is = refl;
            good = no_record;
            refused = only a n (e ∙ ap bad (ap bad_number q));
            place = sym (ap bad_place q);
          }
      go (taken b) (all l) e f i q = all_not_bad q
      go (taken b) (first_bad k j) e f i q =
          let w = i k j f in
          record {
            before = a ∷ w.before;
            one = w.one;
            behind_it = w.behind_it;
            is = ap (λ (l : List A). a ∷ l) w.is;
            good = not_this (not_refused a e) w.good;
            refused = subst (Refused w.one) (ap bad_number q) w.refused;
            place = let h : j + 1 ≡ p = ap bad_place q in let o = w.place in omega arith;
          }

  pub none_bad : (records : List A) (l : List B) → each move records ≡ all l → NoneRefused Refused records × (length l ≡ length records)
  unfolding each
  none_bad [] l q = (no_record, ap length (sym (ap records_of q)))
  none_bad (a ∷ rest) l q =
      let w = taken_all (move a) (each move rest) l q in
      let m = none_bad rest w.more w.others in
      (not_this (not_refused a w.first) m.0, ap length w.are ∙ ap suc m.1)

  record All-taken (records : List A) : Type 0 where
    list : List B
    are : each move records ≡ all list
    as_many : length list ≡ length records

  is_taken : (a : A) (x : Taken B) → move a ≡ x → ((n : ℕ) → Refused a n → ⊥) → (C : Type 0) → ((b : B) → move a ≡ taken b → C) → C
  is_taken a (taken b) e d C k = k b e
  is_taken a (bad n) e d C k = absurd (d n (only a n e))

  all_good : (records : List A) → NoneRefused Refused records → All-taken records
  unfolding each
  all_good [] g = record { list = []; are = refl; as_many = refl }
  all_good (a ∷ rest) (not_this d g) =
      let w = all_good rest g in
      is_taken a (move a) refl d (All-taken (a ∷ rest))
      (λ b e. record { list = b ∷ w.list; are = rw (e, w.are); as_many = ap suc w.as_many })

  bad_there : (before : List A) (one : A) (rest : List A) (n : ℕ) → NoneRefused Refused before → Refused one n → each move (before ++ (one ∷ rest)) ≡ first_bad n (length before)
  unfolding each
  bad_there [] one rest n g r = rw (there one n r)
  bad_there (a ∷ before) one rest n (not_this d g) r =
      is_taken a (move a) refl d (each move (a ∷ (before ++ (one ∷ rest))) ≡ first_bad n (length (a ∷ before)))
      (λ b e. rw (e, bad_there before one rest n g r) (ap (first_bad n) (omega arith)))

  -- ---- the whole call
  module _ {C : Type 0} (numbers : List B → List C) (frames : ℕ) (records : List A) (lent : List C) where
    abbrev call : Listed C
    call = move_all frames move numbers records lent

    abbrev Says : ℕ → ℕ → Type 0
    Says = RecordsRefuse Refused frames records (length lent / record_width)

    number : {n p k j : ℕ} → moved n p ≡ moved k j → n ≡ k
    number q = ap (λ (m : Moved). m.refusal) q

    place : {n p k j : ℕ} → moved n p ≡ moved k j → p ≡ j
    place q = ap (λ (m : Moved). m.place) q

    same : {n p k j : ℕ} → moved n p ≡ moved k j → Says n p → Says k j
    same {n} {p} {k} {j} q s = subst (λ m. Says m j) (number q) (subst (Says n) (place q) s)

    pub refused_only : (k j : ℕ) → call.answer ≡ moved k j → k ≢ 0 → Says k j
    refused_only k j q d =
        if_same frames 0 (λ e. same (rw (eq-eqb frames 0 e) at q) (no_title e)) (λ e. go e (each move records) refl (rw (ne_eqb frames 0 e) at q))
      where
        go : frames ≢ 0 → (x : All B) → each move records ≡ x → (written numbers x lent).answer ≡ moved k j → Says k j
        go e (first_bad n p) f q =
            let w = first_bad_law records n p f in
            same (ap (moved n) (sym w.place) ∙ q) (bad_record e w.before w.one w.behind_it w.is w.good w.refused)
        go e (all l) f q =
            let g = none_bad records l f in
            elim (dec_le (length l) (length lent / record_width)) [
              | yes h ↦ absurd (d (sym (number (rw (le-ltb (length lent / record_width) (length l) h) at q))))
              | no h ↦
                  let i : length lent / record_width < length l = omega arith in
                  same (rw (lt-ltb (length lent / record_width) (length l) i) at q) (no_room e g.0 (let n = g.1 in omega arith))
            ]

    pub refused_there : (k j : ℕ) → Says k j → call ≡ listed (moved k j) lent
    refused_there k j (no_title e) = rw (eq-eqb frames 0 e)
    refused_there k j (bad_record d before one rest q g r) = rw (ne_eqb frames 0 d, q, bad_there before one rest k g r)
    refused_there k j (no_room d g h) =
        let w = all_good records g in
        rw (ne_eqb frames 0 d, w.are, lt-ltb (length lent / record_width) (length w.list) (let n = w.as_many in omega arith))

pub taken_length : {A B : Type 0} (move : A → Taken B) (records : List A) (list : List B) → each move records ≡ all list → length list ≡ length records
taken_length move records list e = (none_bad move (λ a n. move a ≡ bad n) (λ a n e. e) (λ a n e. e) records list e).1

-- ---- an accepted call: every record is taken, there is room, and the numbers of all of them are written
module _ {A B C : Type 0} (move : A → Taken B) (never_0 : (a : A) → move a ≢ bad 0) (numbers : List B → List C) (frames : ℕ) (records : List A) (lent : List C) where
  pub record Accepted : Type 0 where
    pub list : List B
    pub some_title : frames ≢ 0
    pub are : each move records ≡ all list
    pub room : length list ≤ length lent / record_width
    pub as_many : length list ≡ length records

  pub accepted : (move_all frames move numbers records lent).answer ≡ moved 0 0 → Accepted
  accepted q = if_same frames 0 (λ e. absurd (not_0 2 (rw (eq-eqb frames 0 e) at q))) (λ e. go e (each move records) refl (rw (ne_eqb frames 0 e) at q))
    where
      not_0 : {p j : ℕ} (n : ℕ) → moved (suc n) p ≡ moved 0 j → ⊥
      not_0 n q = let z : suc n ≡ 0 = ap (λ (m : Moved). m.refusal) q in omega arith

      go : frames ≢ 0 → (x : All B) → each move records ≡ x → (written numbers x lent).answer ≡ moved 0 0 → Accepted
      go e (first_bad n p) f q =
          let w = first_bad_law move (λ a n. move a ≡ bad n) (λ a n e. e) (λ a n e. e) records n p f in
          absurd (never_0 w.one (w.refused ∙ ap bad (ap (λ (m : Moved). m.refusal) q)))
      go e (all l) f q = elim (dec_le (length l) (length lent / record_width)) [
        | yes h ↦ record { list = l; some_title = e; are = f; room = h; as_many = taken_length move records l f }
        | no h ↦
            let i : length lent / record_width < length l = omega arith in
            absurd (not_0 8 (rw (lt-ltb (length lent / record_width) (length l) i) at q))
      ]

  pub written_so : (list : List B) → frames ≢ 0 → each move records ≡ all list → length list ≤ length lent / record_width
      → move_all frames move numbers records lent ≡ listed (moved 0 0) (numbers list ++ drop (record_width * length list) lent)
  written_so list d e h = rw (ne_eqb frames 0 d, e, le-ltb (length lent / record_width) (length list) h)

-- ---- numbers and records
pub threes_length : {A B : Type 0} (first second third : B → A) (records : List B) → length (threes first second third records) ≡ record_width * length records
unfolding threes
threes_length first second third [] = refl
threes_length first second third (r ∷ more) = let h = threes_length first second third more in omega arith

pub records_length : {A B : Type 0} (make : A → A → A → B) (l : List A) → length (in_threes make l) ≡ length l / record_width
unfolding in_threes
records_length make [] = refl
records_length make (a ∷ []) = refl
records_length make (a ∷ b ∷ []) = refl
records_length make (a ∷ b ∷ c ∷ more) = let h = records_length make more in omega arith

pub read_back : {A B : Type 0} (make : A → A → A → B) (first second third : B → A) → ((r : B) → make (first r) (second r) (third r) ≡ r)
    → (records : List B) → in_threes make (threes first second third records) ≡ records
unfolding in_threes threes
read_back make first second third h [] = refl
read_back make first second third h (r ∷ more) = rw (h r, read_back make first second third h more)

-- what is read and written again is the numbers that stood in records
module _ {A B : Type 0} (make : A → A → A → B) (first second third : B → A)
    (one : (a b c : A) → first (make a b c) ≡ a) (two : (a b c : A) → second (make a b c) ≡ b) (three : (a b c : A) → third (make a b c) ≡ c) where
  pub written_back : (l : List A) → threes first second third (in_threes make l) ≡ take (record_numbers l) l
  unfolding in_threes threes
  written_back [] = refl
  written_back (a ∷ []) = refl
  written_back (a ∷ b ∷ []) = refl
  written_back (a ∷ b ∷ c ∷ more) =
      let n : record_width * (suc (suc (suc (length more))) / record_width) ≡ suc (suc (suc (record_numbers more))) = omega arith in
      rw (n, one a b c, two a b c, three a b c, written_back more)

pub take_front : {A : Type 0} (x y : List A) (n : ℕ) → length x ≡ n → take n (x ++ y) ≡ x
take_front [] y n e = rw (← e)
take_front (a ∷ x) y n e = rw (← e) (ap (λ (l : List _). a ∷ l) (take_front x y (length x) refl))
