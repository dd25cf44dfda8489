-- The words in which demand 1 is stated: of each call, its refusals and when each is met, by what the lent tables and the numbers are. Every
-- case also says that none before it was met, so the order of the refusals stands here a second time, apart from the lists of tests in
-- Calls, Run, Board, Script and Locks. proofs/Refusing.antt says that the calls refuse exactly so, and that a refused call changes nothing.
use Rattle.std.specs.Prelude.{ℕ, suc, ◌+◌, ◌≤◌, ◌<◌, ◌≡◌, true, false, List, [], ◌∷◌, ◌++◌, ◌≢◌, ◌⊎◌, pos, length, ◌≤ℤ◌, ◌<ℤ◌}
use Rattle.rules.specs.Tables.{Tables, seat_count, title, phase}
use Rattle.rules.specs.Comparison.{Claim}
use Rattle.rules.specs.Shape.{lengths_fit, sound}
use Rattle.rules.specs.Reach.{lowest_free}
use Rattle.rules.specs.Fetch.{taken_out}
use Rattle.rules.specs.Board.{holders}
use Rattle.rules.specs.Script.{nowhere, contents_of, body_at}
use Rattle.rules.specs.Locks.{Lock, first_frame, end_frame}
use Rattle.rules.specs.Play.{Call, reserve_call, enter_call, step_call, release_call, seat_of}

-- the tables are sound and have the seat
pub record HasSeat (t : Tables) (s : ℕ) : Type 0 where
  pub is_sound : sound t ≡ true
  pub is_seat : s < seat_count t

-- a claim as such: it covers some frame, and reads or writes
pub record Proper (c : Claim) : Type 0 where
  pub some : c.start < c.end
  pub reads_or_writes : (c.kind ≡ 1) ⊎ (c.kind ≡ 2)

-- on a sheet, a claim that does not read: 02 (viii), "kind 2 only"
abbrev pub WritesOnSheet : Tables → Claim → Type 0
WritesOnSheet t c = t.sheet ≡ true → c.kind ≢ 1

-- fetch finds no free node for seat s, nor with the marked nodes taken out
pub record NoNodeFree (t : Tables) (s : ℕ) : Type 0 where
  pub at_first : lowest_free t s ≡ 0
  pub marked_out : lowest_free (taken_out t) s ≡ 0

-- "A claim may end at it and not beyond": at the title's frame count
abbrev pub WithinTitle : Tables → Claim → Type 0
WithinTitle t c = c.end ≤ title t

-- ---- reserve, enter, step and release: | no | when |; 02 (vii): "reserve has begin's, in begin's order"
pub data Refuses (t : Tables) : Call → ℕ → Type 0 where
  -- "1: tables damaged"
  damaged : {call : Call} → sound t ≡ false → Refuses t call 1
  -- "2: seat number not below S"
  no_such_seat : {call : Call} → sound t ≡ true → seat_count t ≤ seat_of call → Refuses t call 2
  -- "3: begin: start ≥ end"
  no_frames : {s : ℕ} {c : Claim} → HasSeat t s → c.end ≤ c.start → Refuses t (reserve_call s c) 3
  -- "11, end beyond the title, stands after 3 and before 4"
  beyond_title : {s : ℕ} {c : Claim} → HasSeat t s → c.start < c.end → title t < c.end → Refuses t (reserve_call s c) 11
  -- "4: begin: kind not 1 or 2"; of a sheet, "kind 1 is 4"
  no_kind : {s : ℕ} {c : Claim} → HasSeat t s → c.start < c.end → WithinTitle t c → c.kind ≢ 1 → c.kind ≢ 2 → Refuses t (reserve_call s c) 4
  reads_on_sheet : {s : ℕ} {c : Claim} → HasSeat t s → c.start < c.end → WithinTitle t c → t.sheet ≡ true → c.kind ≡ 1 → Refuses t (reserve_call s c) 4
  -- "5: begin: seat not idle"
  not_idle : {s : ℕ} {c : Claim} → HasSeat t s → Proper c → WritesOnSheet t c → WithinTitle t c → phase t s ≢ 0 → Refuses t (reserve_call s c) 5
  -- "6: step: seat idle"
  idle : {s : ℕ} → HasSeat t s → phase t s ≡ 0 → Refuses t (step_call s) 6
  -- "7: release: phase not 5"
  not_holding : {s : ℕ} → HasSeat t s → phase t s ≢ 5 → Refuses t (release_call s) 7
  -- "enter in any phase but 7 is 14, after 7"
  not_reserved : {s : ℕ} → HasSeat t s → phase t s ≢ 7 → Refuses t (enter_call s) 14
  -- "8: begin, or step in phase 6: fetch found none"
  none_to_reserve : {s : ℕ} {c : Claim} → HasSeat t s → Proper c → WritesOnSheet t c → WithinTitle t c → phase t s ≡ 0 → NoNodeFree t s → Refuses t (reserve_call s c) 8
  none_again : {s : ℕ} → HasSeat t s → phase t s ≡ 6 → NoNodeFree t s → Refuses t (step_call s) 8

-- ---- clear, given the title's frame count: "1: .. for clear: only lengths wrong", then "clear with count 0 is refused 3"
pub data ClearRefuses (t : Tables) (frames : ℕ) : ℕ → Type 0 where
  lengths_wrong : lengths_fit t ≡ false → ClearRefuses t frames 1
  title_of_none : lengths_fit t ≡ true → frames ≡ 0 → ClearRefuses t frames 3

-- ---- run as a whole and free count: "1: tables damaged"
pub data DamageRefuses (t : Tables) : ℕ → Type 0 where
  tables_damaged : sound t ≡ false → DamageRefuses t 1

-- ---- board, lent so many rows: 1, then "9: board: fewer rows than holders"
pub data BoardRefuses (t : Tables) (rows : ℕ) : ℕ → Type 0 where
  board_damaged : sound t ≡ false → BoardRefuses t rows 1
  too_few_rows : sound t ≡ true → rows < length (holders t) → BoardRefuses t rows 9

-- ---- script reading: "10: script not well formed", with the line
-- line 1 and i bodies are read, and what comes next stands at this place
pub data ReadTo (src : List ℕ) : ℕ → ℕ → Type 0 where
  contents_read : (contents_of src).next ≢ nowhere src → ReadTo src 0 (contents_of src).next
  body_read : {i at : ℕ} → ReadTo src i at → (body_at src at).next ≢ nowhere src → ReadTo src (suc i) (body_at src at).next

-- "L the first wrong line from 1 (a missing line has the number it would have, an extra one K + 2), or `bad 0` if too long, which is looked at
-- first"; body i, from 0, is line i + 2
pub data ScriptRefuses (src : List ℕ) : ℕ → Type 0 where
  too_long : 16384 < length src → ScriptRefuses src 0
  contents_wrong : length src ≤ 16384 → (contents_of src).next ≡ nowhere src → ScriptRefuses src 1
  body_wrong : length src ≤ 16384 → (i at : ℕ) → i < (contents_of src).k → ReadTo src i at → (body_at src at).next ≡ nowhere src → ScriptRefuses src (i + 2)
  more_follows : length src ≤ 16384 → (at : ℕ) → ReadTo src (contents_of src).k at → at ≢ length src → ScriptRefuses src ((contents_of src).k + 2)

-- ---- import and export, each with the title's frame count: of one lock, "12 (the run starts below 0, is empty, or its end is past 4,294,967,295),
-- 13 (unknown type), 11"
pub record HasRun (frames : ℕ) (l : Lock) : Type 0 where
  pub from_0 : pos 0 ≤ℤ first_frame l
  pub not_empty : first_frame l <ℤ end_frame frames l
  pub not_past : end_frame frames l ≤ℤ pos 4294967295

pub data LockRefuses (frames : ℕ) (l : Lock) : ℕ → Type 0 where
  starts_below : first_frame l <ℤ pos 0 → LockRefuses frames l 12
  run_empty : end_frame frames l ≤ℤ first_frame l → LockRefuses frames l 12
  ends_past : pos 4294967295 <ℤ end_frame frames l → LockRefuses frames l 12
  no_type : HasRun frames l → l.type ≢ pos 1 → l.type ≢ pos 2 → LockRefuses frames l 13
  run_beyond : HasRun frames l → (l.type ≡ pos 1) ⊎ (l.type ≡ pos 2) → pos frames <ℤ end_frame frames l → LockRefuses frames l 11

-- of one claim, "3, 11, 4"
pub data ClaimRefuses (frames : ℕ) (c : Claim) : ℕ → Type 0 where
  claim_empty : c.end ≤ c.start → ClaimRefuses frames c 3
  claim_beyond : c.start < c.end → frames < c.end → ClaimRefuses frames c 11
  claim_of_no_kind : c.start < c.end → c.end ≤ frames → c.kind ≢ 1 → c.kind ≢ 2 → ClaimRefuses frames c 4

-- of several records, "for the first bad one .. its place from 0", and 9 last, where there is room for fewer: 3 of the title and 9 belong to no record,
-- and come with the place 0
pub data NoneRefused {A : Type 0} (Refused : A → ℕ → Type 0) : List A → Type 0 where
  no_record : NoneRefused Refused []
  not_this : {a : A} {more : List A} → ((number : ℕ) → Refused a number → ⊥) → NoneRefused Refused more → NoneRefused Refused (a ∷ more)

pub data RecordsRefuse {A : Type 0} (Refused : A → ℕ → Type 0) (frames : ℕ) (records : List A) (room : ℕ) : ℕ → ℕ → Type 0 where
  no_title : frames ≡ 0 → RecordsRefuse Refused frames records room 3 0
  bad_record : {number : ℕ} → frames ≢ 0 → (before : List A) (one : A) (behind : List A) → records ≡ before ++ (one ∷ behind) → NoneRefused Refused before
      → Refused one number → RecordsRefuse Refused frames records room number (length before)
  no_room : frames ≢ 0 → NoneRefused Refused records → room < length records → RecordsRefuse Refused frames records room 9 0
