-- A 64-bit word as a set of the numbers 0 to 63: number j is in it where its binary digit j is 1.
use Rattle.std.specs.Prelude.{ℕ, zero, suc, ◌/◌, ◌%◌, ◌^◌, Bool}
use Rattle.std.specs.Int.Bits.{bit_or}
use Rattle.rules.specs.Notation.{◌is◌}

unfoldable pub in_word : ℕ → ℕ → Bool
in_word w zero = w % 2 is 1
in_word w (suc j) = in_word (w / 2) j

-- the word with number j in it
unfoldable pub add_word : ℕ → ℕ → ℕ
add_word w j = bit_or w (2 ^ j)
