-- Laws of pages: texts one after another, one law for each way through the code that puts them, and what stands in the buffer in the end.
use Prim.Native.Nat.{ℕ, suc, ◌+◌, ◌<◌, ◌≤◌}
use native.Mathlib.Omega.{arith}
use native.Mathlib.Numerals.{add-one}
use native.Mathlib.Nat.{add-zero, zero-add}
use mathlib.Core.Bool.{Bool, true, false}
use mathlib.Core.List.{List, [], ◌∷◌, ◌++◌}
use mathlib.Core.Path.{◌≡◌, refl, ap, ◌∙◌}
use lib.ListN.{length, get_or, set, take, drop, length-set, drop_of_length-le}
use lib.Seq.{sets, sets-eq, drop-cons, take-append_seam, drop-append_seam}
use borrow.Author.Tests.{lt-ltb, le-ltb, ltb-true, ltb-false}
use Rattle.rules.specs.Notation.{◌<?◌}
use Rattle.text.specs.Page.{Page, page, put, puts, Prints}
use Rattle.text.specs.declared.Page.{Page as Lent}

pub puts_append : (p : Page) (s t : List ℕ) → puts p (s ++ t) ≡ puts (puts p s) t
unfolding puts
puts_append p [] t = refl
puts_append p (b ∷ s) t = puts_append (put p b) s t

-- ---- one text after another
pub joined : (p q r : Page) (s t : List ℕ) → q ≡ puts p s → r ≡ puts q t → r ≡ puts p (s ++ t)
joined p q r s t e f = rw (puts_append, ← e) f

pub joined_two : (p q r : Page) (s t u : List ℕ) → q ≡ puts p s → r ≡ puts q (t ++ u) → r ≡ puts p (s ++ t ++ u)
joined_two p q r s t u e f = rw (puts_append, puts_append, ← e, ← puts_append) f

-- ---- the place moves by no more than the length of the text
put_next_bound : (p : Page) (b : ℕ) (c : Bool) → p.next <? length p.buffer ≡ c → (put p b).next ≤ p.next + 1
unfolding put
put_next_bound p b true e = rw e (omega arith)
put_next_bound p b false e = rw e (omega arith)

puts_next_bound : (t : List ℕ) (p : Page) → (puts p t).next ≤ p.next + length t
unfolding puts
puts_next_bound [] p = omega arith
puts_next_bound (b ∷ t) p =
    let h = put_next_bound p b _ refl in
    let k = puts_next_bound t (put p b) in
    omega arith

pub reached : (p r : Page) (t : List ℕ) → r ≡ puts p t → r.next ≤ p.next + length t
reached p r t e = rw e (puts_next_bound t p)

-- ---- the same of a lent page, which is the same buffer all along
pub then : {p q r : Lent} {s t : List ℕ} → Prints p q s → Prints q r t → Prints p r (s ++ t)
then {s = s} {t = t} a b = record { same_buffer = b.same_buffer ∙ a.same_buffer; is_printed = joined _ _ _ s t a.is_printed b.is_printed }

pub then_two : {p q r : Lent} {s : List ℕ} (t u : List ℕ) → Prints p q s → Prints q r (t ++ u) → Prints p r (s ++ t ++ u)
then_two {s = s} t u a b = record { same_buffer = b.same_buffer ∙ a.same_buffer; is_printed = joined_two _ _ _ s t u a.is_printed b.is_printed }

-- and its place moves by no more than the length of the text
pub reaches : (p q : Lent) (t : List ℕ) → Prints p q t → q.at ≤ p.at + length t
reaches p q t a = reached _ _ t a.is_printed

-- ---- a byte
pub put_in : (l l' : List ℕ) (at b : ℕ) → at < length l → l' ≡ set l at b → page l' (at + 1) ≡ puts (page l at) (b ∷ [])
unfolding puts put
put_in l l' at b h e = rw (lt-ltb at (length l) h, e)

pub put_out : (l : List ℕ) (at b : ℕ) → length l ≤ at → page l at ≡ puts (page l at) (b ∷ [])
unfolding puts put
put_out l at b h = rw (le-ltb at (length l) h)

-- ---- a text, byte by byte: what is left gives the whole, q
pub text_again : (q p p' : Page) (t : List ℕ) (i : ℕ) → p' ≡ puts p (get_or t i 0 ∷ []) → i < length t → puts p (drop i t) ≡ q → puts p' (drop (i + 1) t) ≡ q
unfolding puts
text_again q p p' t i e h rest = rw (e, add-one i) (rw (drop-cons t i 0 h) at rest)

pub text_done : (q p : Page) (t : List ℕ) (i : ℕ) → length t ≤ i → puts p (drop i t) ≡ q → p ≡ q
unfolding puts
text_done q p t i h rest = rw (drop_of_length-le t h) at rest

-- ---- what stands in the buffer in the end

-- a text for which there is room
puts_fit : (t l : List ℕ) (at : ℕ) → at + length t ≤ length l → puts (page l at) t ≡ page (sets l at t) (at + length t)
unfolding puts put
puts_fit [] l at h = rw add-zero
puts_fit (b ∷ t) l at h =
    let e : at + 1 + length t ≡ at + suc (length t) = omega arith in
    rw (lt-ltb at (length l) (omega arith), add-one at)
    (rw (← e, add-one at) (puts_fit t (set l at b) (suc at) (rw length-set (omega arith))))

-- where the place stays below the end of the buffer, there was room
put_stays : (p : Page) (b : ℕ) → length p.buffer ≤ p.next → put p b ≡ p
unfolding put
put_stays p b h = rw (le-ltb p.next (length p.buffer) h)

puts_stays : (t : List ℕ) (p : Page) → length p.buffer ≤ p.next → puts p t ≡ p
unfolding puts
puts_stays [] p h = refl
puts_stays (b ∷ t) p h = rw (put_stays p b h) (puts_stays t p h)

put_moves : (p : Page) (b : ℕ) → p.next < length p.buffer → ((put p b).next ≡ p.next + 1) × (length (put p b).buffer ≡ length p.buffer)
unfolding put
put_moves p b h = rw (lt-ltb p.next (length p.buffer) h) (refl, length-set p.buffer p.next b)

there_was_room : (t : List ℕ) (p : Page) → (puts p t).next < length p.buffer → p.next + length t ≤ length p.buffer
unfolding puts
there_was_room [] p h = omega arith
there_was_room (b ∷ t) p h = by_room (p.next <? length p.buffer) refl (there_was_room t (put p b)) h
  where
    by_room : (c : Bool) → p.next <? length p.buffer ≡ c → ((puts (put p b) t).next < length (put p b).buffer → (put p b).next + length t ≤ length (put p b).buffer) → (puts (put p b) t).next < length p.buffer → p.next + suc (length t) ≤ length p.buffer
    by_room true e more h =
        let m = put_moves p b (ltb-true p.next (length p.buffer) e) in
        let k = more (omega arith) in
        omega arith
    by_room false e more h =
        let f = ltb-false p.next (length p.buffer) e in
        let g : (puts (put p b) t).next ≡ p.next = rw (put_stays p b f, puts_stays t p f) in
        absurd (omega arith)

-- the whole text, from the start of the buffer, and what stood behind it
pub written : (l l' t : List ℕ) (r : ℕ) → page l' r ≡ puts (page l 0) t → r < length l → (take r l' ≡ t) × (drop r l' ≡ drop r l)
written l l' t r e h =
    let room : length t ≤ length l = rw zero-add at (there_was_room t (page l 0) (rw (← e) h)) in
    let f = e ∙ puts_fit t l 0 (omega arith) in
    let n : r ≡ length t = ap next f ∙ zero-add (length t) in
    let b : l' ≡ t ++ drop (length t) l = ap buffer f ∙ (rw (sets-eq t l 0 (rw zero-add room), zero-add)) in
    (rw (b, n) (take-append_seam t (drop (length t) l)), rw (b, n) (drop-append_seam t (drop (length t) l)))
  where
    buffer : Page → List ℕ
    buffer p = p.buffer

    next : Page → ℕ
    next p = p.next
