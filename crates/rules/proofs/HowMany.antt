-- Request (ii) of document 02: how many hold, known at once. What the two words are and how they move, of any tables unless sound or reached ones
-- are named. Nothing else stands here: the words are those of specs/Shape.antt and specs/HowMany.antt, and each proof is a citation.
use Prim.Native.Nat.{ℕ, ◌+◌, ◌≤◌, ◌<◌}
use mathlib.Core.Path.{◌≡◌}
use mathlib.Core.Bool.{true, false}
use mathlib.Core.List.{List}
use mathlib.Core.Logic.{◌≢◌}
use lib.ListN.{length}
use Rattle.rules.specs.Tables.{Tables, readers, writers, count_word, seat_count}
use Rattle.rules.specs.Shape.{sound}
use Rattle.rules.specs.Answers.{refused, done}
use Rattle.rules.specs.Steps.{kind_of}
use Rattle.rules.specs.Calls.{clear}
use Rattle.rules.specs.Run.{run}
use Rattle.rules.specs.Board.{holders}
use Rattle.rules.specs.Play.{Call, call, seat_of}
use Rattle.rules.specs.Reached.{Reached}
use Rattle.rules.specs.Apart.{Holds}
use Rattle.rules.specs.HowMany.{CountsRight, CountsMove}
use Rattle.rules.proofs.Laws.Counts as laws
use Rattle.rules.proofs.Frames.CountFrames as frames

-- ---- what the two words are: "equal to the count over the seats"
-- in every table that is reached
pub always_right : {N S : ℕ} {t : Tables} → Reached N S t → CountsRight t
always_right r = laws.as_right (frames.reached_counts r)

-- and in every sound table, reached or not
pub right_if_sound : (t : Tables) → sound t ≡ true → CountsRight t
right_if_sound = laws.sound_right

-- where they are not, every call is refused 1 and changes nothing: "a table whose two words differ from the count is damaged (1)"
pub damaged_if_wrong : (t : Tables) → (CountsRight t → ⊥) → sound t ≡ false
damaged_if_wrong = laws.wrong_damaged

pub refused_if_wrong : (t : Tables) → (CountsRight t → ⊥) → (c : Call) → call t c ≡ done (refused 1) t
refused_if_wrong = frames.wrong_refused

-- together they are the rows of the board, and so at most 64
pub all_holders : (t : Tables) → sound t ≡ true → readers t + writers t ≡ length (holders t)
all_holders = laws.all_holders

pub at_most_64 : (t : Tables) → sound t ≡ true → readers t + writers t ≤ 64
at_most_64 = laws.at_most_64

-- ---- who keeps them so
-- "Clear ..": it makes both 0, and nobody holds
pub cleared : (t : Tables) (count : ℕ) → (clear t count).answer ≡ 0 → (readers (clear t count).after ≡ 0) × (writers (clear t count).after ≡ 0)
cleared = frames.clear_words_law

pub cleared_right : (t : Tables) (count : ℕ) → (clear t count).answer ≡ 0 → CountsRight (clear t count).after
cleared_right t count e = laws.as_right (frames.clear_counts t count e)

-- ".. step and release keep them", and so do reserve and enter: one that is accepted leaves them right, whatever sound tables it finds; one that is refused leaves
-- them as found
pub stay_right : (t : Tables) (c : Call) → CountsRight t → CountsRight (call t c).after
stay_right t c w = laws.as_right (frames.counts_kept t c (laws.from_right w))

pub run_stays_right : (t : Tables) (schedule : List ℕ) (budget : ℕ) → CountsRight t → CountsRight (run t schedule budget).after
run_stays_right t schedule budget w = laws.as_right (frames.run_counts_kept t schedule budget (laws.from_right w))

-- so after a call they are right, unless it was refused as damaged
pub right_unless_damaged : (t : Tables) (c : Call) → (call t c).answer ≢ refused 1 → CountsRight (call t c).after
right_unless_damaged t c d = laws.as_right (frames.counts_unless_damaged t c d)

-- ---- how they move: by the call's own seat alone, up where it comes to hold and down where it gives up what it held, each time by one. The sum
-- and the difference are exact: a word is at most 64 before, and that of a holder's kind at least 1
pub by_its_own_seat : (t : Tables) (c : Call) → CountsMove (seat_of c) t (call t c).after
by_its_own_seat = frames.counts_move

pub few : (t : Tables) → sound t ≡ true → (k : ℕ) → count_word t k ≤ 64
few = laws.count_few

pub holder_counts : (t : Tables) → sound t ≡ true → (s : ℕ) → s < seat_count t → Holds t s → 1 ≤ count_word t (kind_of t s)
holder_counts = laws.holder_counts
