-- Parts of sound shape: what it leaves out by the profile, its two clauses on the nodes together, what it asks of a seat's own, prev and cur by the seat's phase, its two clauses on
-- the seats together, and its last clause alone.
use Rattle.std.specs.Prelude.{ℕ, Bool, true, false, not, ◌&&◌, Result, Ok, Err, if◌then◌else◌}
use Rattle.rules.specs.Notation.{◌is◌, ◌≤?◌}
use Rattle.rules.specs.Tables.{Tables, node_count, end, kind, head, phase, own}
use Rattle.rules.specs.Shape.{names, node_sound, nodes_sound, seats_sound, holders_of_kind, ends_by, ends_within, sound}
use Rattle.rules.specs.declared.Refused.{Refused}
use Rattle.rules.specs.declared.Refused.TheVariants.{Damaged}

-- the least kind that a claim may have; 2 is the largest
abbrev pub least_kind : Bool → ℕ
least_kind true = 2
least_kind false = 1

-- a node ends by so many frames and is sound, and each node does and is
abbrev pub node_sound_by : Tables → ℕ → ℕ → Bool
node_sound_by t frames a = end t a ≤? frames && node_sound t a

abbrev pub nodes_sound_by : Tables → ℕ → Bool
nodes_sound_by t frames = ends_by t frames && nodes_sound t

-- in any phase but 0
abbrev pub busy_sound : Tables → ℕ → ℕ → ℕ → Bool
busy_sound t own prev cur = not (own is 0) && names t own && names t prev && names t cur

-- in phases 2 and 4
abbrev pub waiting_sound : Tables → ℕ → ℕ → ℕ → Bool
waiting_sound t own prev cur = not (cur is 0) && busy_sound t own prev cur

-- in phases 5, 6 and 7
abbrev pub resting_sound : Tables → ℕ → ℕ → ℕ → Bool
resting_sound t own prev cur = not (own is 0) && prev is 0 && cur is 0 && names t own

-- in phases 3, 4 and 6, which a sheet lacks
abbrev pub ordinary_sound : Tables → ℕ → ℕ → ℕ → ℕ → Bool
ordinary_sound t phase own prev cur =
    if t.sheet then false
    else if phase is 3 then busy_sound t own prev cur
    else if phase is 4 then waiting_sound t own prev cur
    else resting_sound t own prev cur

-- the kind of the claim that a seat holds with, 0 if it holds with none
abbrev pub held_kind : Tables → ℕ → ℕ
held_kind t s = if phase t s is 5 then kind t (own t s) else 0

-- each seat is sound, and two words are the numbers of those who hold, readers and writers
abbrev pub seats_and_counts_sound : Tables → ℕ → ℕ → Bool
seats_and_counts_sound t readers writers = seats_sound t && (readers is holders_of_kind t 1 && writers is holders_of_kind t 2)

-- "from the head, 0 is met after at most N nodes"
abbrev pub list_ends : Tables → Bool
list_ends t = ends_within (node_count t) t (head t)

-- sound tables, or refusal 1
abbrev pub if_sound : Tables → Result Tables Refused
if_sound t = if sound t then Ok t else Err Damaged
