-- Request (i) of document 02: covered frames count a frame once. What that number is, of any tables unless reached ones are named. Nothing
-- else stands here: the words are those of specs/Board.antt and specs/Covered.antt, and each proof is a citation.
use Prim.Native.Nat.{ℕ, ◌≤◌, ◌<◌}
use mathlib.Core.Path.{◌≡◌}
use mathlib.Core.Bool.{true}
use mathlib.Core.List.{List}
use mathlib.Core.Logic.{◌≢◌}
use lib.ListN.{length}
use Rattle.rules.specs.Notation.{count}
use Rattle.rules.specs.Tables.{Tables}
use Rattle.rules.specs.Calls.{release}
use Rattle.rules.specs.Board.{holders, some_covers, covered_by, filled, board, board_numbers}
use Rattle.rules.specs.Reached.{Reached}
use Rattle.rules.specs.Apart.{claim_of_seat, Holds}
use Rattle.rules.specs.Covered.{HolderCovers, added_up, In32Bits}
use Rattle.rules.specs.declared.Row.{Row}
use Rattle.rules.proofs.Laws.Covered as laws
use Rattle.rules.proofs.Frames.Uncovered.{release_covers}
use Rattle.rules.proofs.Holding.CoveredOnce.{ends_in_32_bits, writers_apart}

-- ---- where it stands: every board that is accepted gives it, beside the number of holders
pub on_the_board : (t : Tables) (lent : List Row) (rows covered : ℕ) → (board t lent).answer ≡ filled rows covered
    → (rows ≡ length (holders t)) × (covered ≡ covered_by (holders t))
on_the_board = laws.board_gives

pub on_the_board_of_numbers : (t : Tables) (lent : List ℕ) (rows covered : ℕ) → (board_numbers t lent).answer ≡ filled rows covered
    → (rows ≡ length (holders t)) × (covered ≡ covered_by (holders t))
on_the_board_of_numbers = laws.numbers_give

-- ---- what is counted
-- a frame is counted exactly where a seat holds whose claim covers it
pub counted_for : (t : Tables) (frame : ℕ) → some_covers (holders t) frame ≡ true → (s : ℕ) × HolderCovers t s frame
counted_for = laws.holders_cover

pub is_counted : (t : Tables) (s frame : ℕ) → HolderCovers t s frame → some_covers (holders t) frame ≡ true
is_counted = laws.holder_counts

-- every bound behind which no holder covers a frame gives the number
pub every_bound : (t : Tables) (bound : ℕ) → ((s frame : ℕ) → HolderCovers t s frame → frame < bound)
    → count bound (some_covers (holders t)) ≡ covered_by (holders t)
every_bound t bound h = laws.bounded (holders t) bound (laws.none_from t bound h)

-- ---- how large it is
-- never more than a bound before which the holders stay: the title's length, for one
pub at_most : (t : Tables) (bound : ℕ) → ((s frame : ℕ) → HolderCovers t s frame → frame < bound) → covered_by (holders t) ≤ bound
at_most t bound h = laws.covered_within (holders t) bound (laws.none_from t bound h)

-- so it fits 32 bits where the tables' words do
pub fits : (t : Tables) → In32Bits t.nodes → covered_by (holders t) ≤ 4294967295
fits t words = at_most t 4294967295 (ends_in_32_bits t words)

-- holders that cover just the frames from 0 up to a length together give that length
pub whole_title : (t : Tables) (title : ℕ) → ((frame : ℕ) → frame < title → (s : ℕ) × HolderCovers t s frame)
    → ((s frame : ℕ) → HolderCovers t s frame → frame < title) → covered_by (holders t) ≡ title
whole_title t title all h =
    laws.covered_just (holders t) title (λ frame i. let w = all frame i in is_counted t w.0 frame w.1) (laws.none_from t title h)

-- ---- beside the sum that 01 had
-- never more than it
pub at_most_the_sum : (t : Tables) → covered_by (holders t) ≤ added_up (holders t)
at_most_the_sum t = laws.at_most_added_up (holders t)

-- and equal to it where no two holders share a frame
pub the_sum_if_apart : (t : Tables) → ((i j frame : ℕ) → i ≢ j → HolderCovers t i frame → HolderCovers t j frame → ⊥)
    → covered_by (holders t) ≡ added_up (holders t)
the_sum_if_apart = laws.holders_apart

-- as it is in every table reached whose holders all write
pub the_sum_for_writers : {N S : ℕ} {t : Tables} → Reached N S t → ((s : ℕ) → Holds t s → (claim_of_seat t s).kind ≡ 2)
    → covered_by (holders t) ≡ added_up (holders t)
the_sum_for_writers {t = t} r writers = the_sum_if_apart t (writers_apart r writers)

-- ---- with fewer holders
-- never more, if whoever still covers a frame covered it before
pub fewer_holders : (t u : Tables) → ((s frame : ℕ) → HolderCovers u s frame → HolderCovers t s frame)
    → covered_by (holders u) ≤ covered_by (holders t)
fewer_holders t u h =
    laws.covered_wider (holders u) (holders t) (λ frame e. let w = counted_for u frame e in is_counted t w.0 frame (h w.0 frame w.1))

-- so a release never adds
pub release_never_adds : (t : Tables) (s : ℕ) → covered_by (holders (release t s).after) ≤ covered_by (holders t)
release_never_adds t s = fewer_holders t (release t s).after (release_covers t s)
