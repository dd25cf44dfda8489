-- Laws of the lines: what is printed of an answer as numbers, how long the lines are, and how far the place moves where one is put.
use Prim.Native.Nat.{ℕ, ◌+◌, ◌<◌, ◌≤◌}
use native.Mathlib.Omega.{arith}
use mathlib.Core.List.{List, ◌++◌}
use mathlib.Core.Path.{◌≡◌}
use lib.ListN.{length, length-append}
use Rattle.rules.specs.Play.{ascii, decimal, answer_text}
use Rattle.replies.specs.Codes.{said, answer_by}
use Rattle.replies.specs.declared.Said.{Said}
use Rattle.replies.proofs.Codes.{refused_other}
use Rattle.text.specs.Page.{Page, puts, Prints}
use Rattle.text.specs.declared.Page.{Page as Lent}
use Rattle.text.proofs.Pages.{reaches}
use Rattle.text.proofs.Decimals.{decimal_length}

-- ---- an answer as numbers: by a code that is matched, and by any other
module _ (p q : Page) (s : Said) where
  pub answer_by_law : (key : ℕ) → s.code ≡ key → q ≡ puts p (answer_text (answer_by (said key s.number s.run))) → q ≡ puts p (answer_text (answer_by s))
  unfolding answer_by
  answer_by_law key e h = rw e h

  pub answer_other : (s.code ≡ 1 → ⊥) → (s.code ≡ 2 → ⊥) → (s.code ≡ 3 → ⊥) → (s.code ≡ 4 → ⊥) → (s.code ≡ 5 → ⊥) → (s.code ≡ 6 → ⊥) → q ≡ puts p (ascii "no " ++ decimal s.number) → q ≡ puts p (answer_text (answer_by s))
  unfolding answer_text
  answer_other a b c d e f h = rw (refused_other s a b c d e f) h

-- ---- a number below 2 to the 32 has at most 10 digits, one below 2 to the 64 at most 20
module _ (p q : Lent) (word : List ℕ) (n : ℕ) where
  pub named_reaches : Prints p q (word ++ decimal n) → n < 4294967296 → q.at ≤ p.at + length word + 10
  named_reaches a h =
      let b = reaches p q _ a in
      let c = decimal_length 9 n (let k : n < 10000000000 = omega arith in k) in
      omega (arith, simp length-append at b)

  pub line_reaches : Prints p q (word ++ decimal n ++ ascii "\n") → n ≤ 18446744073709551615 → q.at ≤ p.at + length word + 21
  line_reaches a h =
      let b = reaches p q _ a in
      let c = decimal_length 19 n (omega arith) in
      omega (arith, simp length-append at b)
