-- Request (iii) of document 02: the title has an end. What the table remembers, that no claim ends beyond it, and what planners may count on. Of any
-- tables unless sound or reached ones are named. Nothing else stands here: the words are those of specs/Refusing.antt and specs/Title.antt, and each
-- proof is a citation.
use Prim.Native.Nat.{ℕ, ◌≤◌, ◌<◌}
use mathlib.Core.Path.{◌≡◌, ◌∙◌}
use mathlib.Core.Bool.{true, false, Bool}
use mathlib.Core.List.{List}
use mathlib.Core.Logic.{◌≢◌}
use Rattle.rules.specs.Tables.{Tables, title, fresh}
use Rattle.rules.specs.Comparison.{Claim}
use Rattle.rules.specs.Shape.{sound}
use Rattle.rules.specs.Answers.{node, refused, done}
use Rattle.rules.specs.Calls.{clear, reserve}
use Rattle.rules.specs.Board.{holders, covered_by}
use Rattle.rules.specs.Play.{Call, call}
use Rattle.rules.specs.Reached.{Request, after_requests, Reached}
use Rattle.rules.specs.Refusing.{WithinTitle}
use Rattle.rules.specs.Apart.{claim_of_seat}
use Rattle.rules.specs.Covered.{HolderCovers}
use Rattle.rules.specs.Title.{AllWithin, ReservesBeyond, per_cent}
use Rattle.rules.proofs.Laws.Words.{fresh_title}
use Rattle.rules.proofs.Laws.Shape.{is_sound}
use Rattle.rules.proofs.Rules.RefusedExactly.{clear_accepted}
use Rattle.rules.proofs.Frames.TitleFrames as frames
use Rattle.rules.proofs.Soundness.SoundReached.{reached_sound}
use Rattle.rules.proofs.Holding.CoveredOnce.{ends_in_title, per_cent_small, per_cent_whole}
use Rattle.rules.proofs.Covered as covered

-- ---- "Clear takes the title's frame count .. and the table remembers it": one of some frames
pub remembered : (t : Tables) (count : ℕ) → (clear t count).answer ≡ 0 → title (clear t count).after ≡ count
remembered = frames.clear_title

pub some_frames : (t : Tables) (count : ℕ) → (clear t count).answer ≡ 0 → count ≢ 0
some_frames t count e = (clear_accepted t count e).some_frames

-- no other call changes it
pub never_changes : (t : Tables) (c : Call) → title (call t c).after ≡ title t
never_changes t c = (frames.call_stays t c).same_title

-- nor do any requests, a run among them: it is that with which the tables were cleared
pub requests_never_change : (t : Tables) (requests : List Request) → title (after_requests t requests) ≡ title t
requests_never_change = frames.title_kept

pub as_cleared : (sheet : Bool) (N S count : ℕ) (requests : List Request) → title (after_requests (fresh sheet N S count) requests) ≡ count
as_cleared sheet N S count requests = requests_never_change (fresh sheet N S count) requests ∙ fresh_title sheet N S count

-- ---- "A claim may end at it and not beyond"
-- whoever is told a node began a claim that ends within the title
pub reserved_within : (t : Tables) (s n : ℕ) (c : Claim) → (reserve t s c).answer ≡ node n → WithinTitle t c
reserved_within = frames.node_within

-- only a reserve is ever refused 11, and only where its claim ends beyond the title; exactly when is said in Refusing
pub refused_beyond_only : (t : Tables) (c : Call) → (call t c).answer ≡ refused 11 → ReservesBeyond t c
refused_beyond_only = frames.refused_11

-- ---- so every claim ends within the title: in every table that is reached, and in every sound one
pub always_within : {N S : ℕ} {t : Tables} → Reached N S t → AllWithin t
always_within = frames.reached_within

pub seats_within : {N S : ℕ} {t : Tables} → Reached N S t → (s : ℕ) → WithinTitle t (claim_of_seat t s)
seats_within r s = (always_within r).within _

pub within_if_sound : (t : Tables) → sound t ≡ true → AllWithin t
within_if_sound t e = (is_sound t e).all_within

-- where one does not, or the title has no frame, every call is refused 1 and changes nothing: "a table whose remembered count is 0 or below a
-- node's end is damaged (1)"
pub damaged_if_beyond : (t : Tables) → (AllWithin t → ⊥) → sound t ≡ false
damaged_if_beyond = frames.beyond_damaged

pub refused_if_beyond : (t : Tables) → (AllWithin t → ⊥) → (c : Call) → call t c ≡ done (refused 1) t
refused_if_beyond = frames.beyond_refused

-- who keeps it so: clear, and every call and every run, whatever tables they find
pub cleared_within : (t : Tables) (count : ℕ) → (clear t count).answer ≡ 0 → AllWithin (clear t count).after
cleared_within = frames.clear_within

pub stay_within : (t : Tables) (c : Call) → AllWithin t → AllWithin (call t c).after
stay_within = frames.within_kept

pub requests_stay_within : (t : Tables) (requests : List Request) → AllWithin t → AllWithin (after_requests t requests)
requests_stay_within = frames.all_kept

-- ---- what planners may count on, from request (i): covered frames are at most the title
pub covered_within : (t : Tables) → sound t ≡ true → covered_by (holders t) ≤ title t
covered_within t e = covered.at_most t (title t) (ends_in_title t (within_if_sound t e))

pub always_covered_within : {N S : ℕ} {t : Tables} → Reached N S t → covered_by (holders t) ≤ title t
always_covered_within {t = t} r = covered_within t (reached_sound r)

-- and their per cent at most 100
pub at_most_100 : (t : Tables) → sound t ≡ true → per_cent (covered_by (holders t)) (title t) ≤ 100
at_most_100 t e = per_cent_small (covered_by (holders t)) (title t) (covered_within t e)

pub always_at_most_100 : {N S : ℕ} {t : Tables} → Reached N S t → per_cent (covered_by (holders t)) (title t) ≤ 100
always_at_most_100 {t = t} r = at_most_100 t (reached_sound r)

-- holders that cover every frame of the title give the title, which is 100 per cent
pub whole : (t : Tables) → sound t ≡ true → ((frame : ℕ) → frame < title t → (s : ℕ) × HolderCovers t s frame) → covered_by (holders t) ≡ title t
whole t e all = covered.whole_title t (title t) all (ends_in_title t (within_if_sound t e))

pub whole_is_100 : (t : Tables) → sound t ≡ true → ((frame : ℕ) → frame < title t → (s : ℕ) × HolderCovers t s frame)
    → per_cent (covered_by (holders t)) (title t) ≡ 100
whole_is_100 t e all = rw (whole t e all) (per_cent_whole (title t) (within_if_sound t e).some)
