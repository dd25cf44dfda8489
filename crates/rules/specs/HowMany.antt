-- The words in which request (ii) of 02 is proved: what a call does to the two counts. proofs/HowMany.antt says with them that the counts are
-- right.
use Rattle.std.specs.Prelude.{ℕ, ◌+◌, ◌≡◌, ◌≢◌}
use Rattle.rules.specs.Tables.{Tables, readers, writers, count_at, count_word}
use Rattle.rules.specs.Shape.{holders_of_kind}
use Rattle.rules.specs.Steps.{kind_of}
use Rattle.rules.specs.Apart.{Holds}

-- "equal to the count over the seats"
pub record CountsRight (t : Tables) : Type 0 where
  pub of_readers : readers t ≡ holders_of_kind t 1
  pub of_writers : writers t ≡ holders_of_kind t 2

-- from t to u, by a call for seat s: it held before and holds now, or neither, and both words stay; or it comes to hold, and the word of its
-- kind is one more; or it gives up what it held, and that word is one less. The other of the two then stays.
pub data CountsMove (s : ℕ) (t u : Tables) : Type 0 where
  stay : (Holds t s → Holds u s) → (Holds u s → Holds t s) → ((k : ℕ) → count_word u k ≡ count_word t k) → CountsMove s t u
  one_more : (Holds t s → ⊥) → Holds u s → count_word u (kind_of t s) ≡ count_word t (kind_of t s) + 1
      → ((k : ℕ) → count_at k ≢ count_at (kind_of t s) → count_word u k ≡ count_word t k) → CountsMove s t u
  one_less : Holds t s → (Holds u s → ⊥) → count_word u (kind_of t s) + 1 ≡ count_word t (kind_of t s)
      → ((k : ℕ) → count_at k ≢ count_at (kind_of t s) → count_word u k ≡ count_word t k) → CountsMove s t u
