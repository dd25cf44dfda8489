-- A set of the nodes 1 to 256 as four words: node m + 1 is number m % 64 of word m / 64. Node 0 is in no set.
use Rattle.std.specs.Prelude.{ℕ, zero, suc, ◌+◌, ◌/◌, ◌%◌, Bool, false, List, [], ◌∷◌, get_or, set}
use Rattle.rules.specs.Notation.{count}
use Rattle.nodesets.specs.Word.{in_word, add_word}

-- node a is in the set
unfoldable pub has : List ℕ → ℕ → Bool
has ws zero = false
has ws (suc m) = in_word (get_or ws (m / 64) 0) (m % 64)

unfoldable pub none : List ℕ
none = 0 ∷ 0 ∷ 0 ∷ 0 ∷ []

-- the set with node a in it; what is no node of 1 to 256 changes nothing
unfoldable pub add : List ℕ → ℕ → List ℕ
add ws zero = ws
add ws (suc m) = set ws (m / 64) (add_word (get_or ws (m / 64) 0) (m % 64))

-- how many of the nodes 1 to n are in the set
unfoldable pub members : List ℕ → ℕ → ℕ
members ws n = count n (λ m. has ws (m + 1))
