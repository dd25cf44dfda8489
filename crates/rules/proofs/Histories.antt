-- The small histories of document 01, H1 to H11, as one statement over the group, proved by computing with the rules; beside them the
-- examples of requests (i) to (v), (vii) and (viii) of document 02, and two of our own, for the faults that H1 to H11 do not tell apart.
use Prim.Native.Nat.{ℕ}
use mathlib.Core.Path.{◌≡◌, refl}
use mathlib.Core.Bool.{Bool, true, false}
use mathlib.Core.List.{List, [], ◌∷◌, ◌++◌, map}
use lib.ListN.{replicate}
use Rattle.rules.specs.Tables.{Tables, tables, fresh, readers, writers, title, head, own}
use Rattle.rules.specs.Comparison.{claim}
use Rattle.rules.specs.Shape.{sound}
use Rattle.rules.specs.Reach.{list_of}
use Rattle.rules.specs.Stores.{store, stores, marked_listed}
use Rattle.rules.specs.Answers.{Answer, node, out, on, wait, held, back, refused, done}
use Rattle.rules.specs.Calls.{clear}
use Rattle.rules.specs.FreeCount.{counted, free_count}
use Rattle.rules.specs.Board.{holders, covered_by, filled, shown, board}
use Rattle.rules.specs.Play.{Call, reserve_call, enter_call, step_call, release_call, Turn, trace, after_all, ascii, play}
use Rattle.rules.specs.declared.Row.{Row}
use Rattle.rules.proofs.Laws.Opened.{rules}
use Rattle.rules.specs.Run.{ran, run}

-- calls as a script writes them
abbrev v : ℕ → ℕ → ℕ → ℕ → Call
v seat start end kind = reserve_call seat (claim start end kind)

abbrev e : ℕ → Call
e seat = enter_call seat

abbrev s : ℕ → Call
s seat = step_call seat

abbrev r : ℕ → Call
r seat = release_call seat

abbrev row : ℕ → ℕ → ℕ → ℕ → Row
row seat first end kind = record { seat = seat; first = first; end = end; kind = kind }

-- "the histories take 4,294,967,295"
abbrev cleared : ℕ → ℕ → Tables
cleared N S = fresh false N S 4294967295

-- the answers of the calls, in order
abbrev answers : Tables → List Call → List Answer
answers t calls = map (λ (turn : Turn). turn.did.answer) (trace t calls)

-- ---- H1: the script above
abbrev pub H1 : Type 0
H1 =
    play (ascii "4 3 12 4294967295\nv 0 10 20 2\ne 0\ns 0\ns 0\nv 1 15 25 2\ne 1\ns 1\nr 0\ns 1\ns 1\ns 1\ns 1\n")
    ≡ ascii "1 node 1\n2 on\n3 on\n4 held\n5 node 2\n6 on\n7 wait 1 15 20\n8 out\n9 on\n10 on\n11 on\n12 held\nlist 2\nhold 1 15 25 2\ncovered 10\n"

-- ---- H2: writers 10..20 and 20..30 both hold
abbrev pub H2calls : List Call
H2calls = v 0 10 20 2 ∷ e 0 ∷ s 0 ∷ s 0 ∷ v 1 20 30 2 ∷ e 1 ∷ s 1 ∷ s 1 ∷ s 1 ∷ s 1 ∷ []

abbrev pub H2 : Type 0
H2 =
    (answers (cleared 4 4) H2calls ≡ node 1 ∷ on ∷ on ∷ held ∷ node 2 ∷ on ∷ on ∷ on ∷ on ∷ held ∷ [])
    × (holders (after_all (cleared 4 4) H2calls) ≡ row 0 10 20 2 ∷ row 1 20 30 2 ∷ [])

-- ---- H3: with writer 10..20 held, writer 19..30 waits
abbrev pub H3 : Type 0
H3 = answers (cleared 4 4) (v 0 10 20 2 ∷ e 0 ∷ s 0 ∷ s 0 ∷ v 1 19 30 2 ∷ e 1 ∷ s 1 ∷ []) ≡ node 1 ∷ on ∷ on ∷ held ∷ node 2 ∷ on ∷ wait 1 19 20 ∷ []

-- ---- H4: readers 0..100 and 50..60 both hold; a writer 70..80 waits at the first
abbrev pub H4calls : List Call
H4calls = v 0 0 100 1 ∷ e 0 ∷ s 0 ∷ s 0 ∷ v 1 50 60 1 ∷ e 1 ∷ s 1 ∷ s 1 ∷ s 1 ∷ v 2 70 80 2 ∷ e 2 ∷ s 2 ∷ []

abbrev pub H4 : Type 0
H4 =
    (answers (cleared 4 4) H4calls ≡ node 1 ∷ on ∷ on ∷ held ∷ node 2 ∷ on ∷ on ∷ on ∷ held ∷ node 3 ∷ on ∷ wait 1 70 80 ∷ [])
    × (holders (after_all (cleared 4 4) H4calls) ≡ row 0 0 100 1 ∷ row 1 50 60 1 ∷ [])

-- ---- H5: two readers of 5..9 hold
abbrev pub H5calls : List Call
H5calls = v 0 5 9 1 ∷ e 0 ∷ s 0 ∷ s 0 ∷ v 1 5 9 1 ∷ e 1 ∷ s 1 ∷ s 1 ∷ s 1 ∷ []

abbrev pub H5 : Type 0
H5 =
    (answers (cleared 4 4) H5calls ≡ node 1 ∷ on ∷ on ∷ held ∷ node 2 ∷ on ∷ on ∷ on ∷ held ∷ [])
    × (holders (after_all (cleared 4 4) H5calls) ≡ row 0 5 9 1 ∷ row 1 5 9 1 ∷ [])

-- ---- H6: N = 1: hold, release, begin again, which is to reserve and enter: node 1
abbrev pub H6 : Type 0
H6 = answers (cleared 1 4) (v 0 0 10 2 ∷ e 0 ∷ s 0 ∷ s 0 ∷ r 0 ∷ v 0 0 10 2 ∷ e 0 ∷ []) ≡ node 1 ∷ on ∷ on ∷ held ∷ out ∷ node 1 ∷ on ∷ []

-- ---- H7: N = 1: seat 0 holds, seat 1 begins: refusal 8
abbrev pub H7 : Type 0
H7 = answers (cleared 1 4) (v 0 0 10 2 ∷ e 0 ∷ s 0 ∷ s 0 ∷ v 1 0 10 2 ∷ []) ≡ node 1 ∷ on ∷ on ∷ held ∷ refused 8 ∷ []

-- ---- H8: N = 2: seat 0 holds node 1, seat 1 waits there, seat 0 releases and begins: refusal 8, head still 1
abbrev pub H8calls : List Call
H8calls = v 0 0 10 2 ∷ e 0 ∷ s 0 ∷ s 0 ∷ v 1 0 10 2 ∷ e 1 ∷ s 1 ∷ r 0 ∷ v 0 0 10 2 ∷ []

abbrev pub H8 : Type 0
H8 =
    (answers (cleared 2 4) H8calls ≡ node 1 ∷ on ∷ on ∷ held ∷ node 2 ∷ on ∷ wait 1 0 10 ∷ out ∷ refused 8 ∷ [])
    × (head (after_all (cleared 2 4) H8calls) ≡ 1)

-- ---- H9, N = 8: readers 1..10 (node 1) and 12..14 (node 2) hold. Seat 2 begins reader 5..20, seat 3 writer 15..20. Steps of
-- seats 3, 3, 2, 2, 3, 2, 2, 3, 3, 2, 2, 2
abbrev pub H9entered : List Call
H9entered = v 0 1 10 1 ∷ e 0 ∷ s 0 ∷ s 0 ∷ v 1 12 14 1 ∷ e 1 ∷ s 1 ∷ s 1 ∷ s 1 ∷ v 2 5 20 1 ∷ e 2 ∷ v 3 15 20 2 ∷ e 3 ∷ []

abbrev pub H9start : Tables
H9start = after_all (cleared 8 4) H9entered

abbrev pub H9calls : List Call
H9calls = s 3 ∷ s 3 ∷ s 2 ∷ s 2 ∷ s 3 ∷ s 2 ∷ s 2 ∷ s 3 ∷ s 3 ∷ s 2 ∷ s 2 ∷ s 2 ∷ []

abbrev pub H9end : Tables
H9end = after_all H9start H9calls

abbrev pub H9 : Type 0
H9 =
    (answers (cleared 8 4) H9entered ≡ node 1 ∷ on ∷ on ∷ held ∷ node 2 ∷ on ∷ on ∷ on ∷ held ∷ node 3 ∷ on ∷ node 4 ∷ on ∷ [])
    × (holders H9start ≡ row 0 1 10 1 ∷ row 1 12 14 1 ∷ [])
    × (answers H9start H9calls ≡ on ∷ on ∷ on ∷ on ∷ on ∷ on ∷ wait 4 15 20 ∷ on ∷ back ∷ on ∷ on ∷ held ∷ [])
    × (list_of H9end ≡ 1 ∷ 3 ∷ 2 ∷ [])

-- ---- H10: then seat 3 steps three times: on, on, wait 3; its new node is 4. 02 (vii): "H10 gains a step", the one that enters
abbrev pub H10calls : List Call
H10calls = s 3 ∷ s 3 ∷ s 3 ∷ s 3 ∷ []

abbrev pub H10 : Type 0
H10 = (answers H9end H10calls ≡ on ∷ on ∷ on ∷ wait 3 15 20 ∷ []) × (own (after_all H9end H10calls) 3 ≡ 4)

-- ---- H11: begin 7..7 is refusal 3; 0..4294967295 is accepted
abbrev pub H11 : Type 0
H11 = answers (cleared 4 4) (v 0 7 7 2 ∷ v 0 0 4294967295 2 ∷ e 0 ∷ []) ≡ refused 3 ∷ node 1 ∷ on ∷ []

-- ---- the group
pub histories : H1 × H2 × H3 × H4 × H5 × H6 × H7 × H8 × H9 × H10 × H11
unfolding rules
histories = (refl, (refl, refl), refl, (refl, refl), (refl, refl), refl, refl, (refl, refl), (refl, refl, refl, refl), (refl, refl), refl)

-- ---- 02 (i): "Readers 0..100 and 50..60 give 100, not 110", on the program's last line and on the board. H9's holders, 1..10 and 12..14, leave
-- a gap; with 5..20 they leave none
abbrev pub CoveredOnce : Type 0
CoveredOnce =
    (play (ascii "4 2 9 4294967295\nv 0 0 100 1\ne 0\ns 0\ns 0\nv 1 50 60 1\ne 1\ns 1\ns 1\ns 1\n")
    ≡ ascii "1 node 1\n2 on\n3 on\n4 held\n5 node 2\n6 on\n7 on\n8 on\n9 held\nlist 1 2\nhold 0 0 100 1\nhold 1 50 60 1\ncovered 100\n")
    × (board (after_all (cleared 4 4) H4calls) (row 9 9 9 9 ∷ row 9 9 9 9 ∷ row 9 9 9 9 ∷ [])
    ≡ shown (filled 2 100) (row 0 0 100 1 ∷ row 1 50 60 1 ∷ row 9 9 9 9 ∷ []))
    × (covered_by (holders H9start) ≡ 11)
    × (covered_by (holders H9end) ≡ 19)

pub covered_once : CoveredOnce
unfolding rules
covered_once = (refl, refl, refl, refl)

-- ---- 02 (ii): the readers and writers that hold, readers first, after each call. Two readers come to hold, one of them is stepped again and counts
-- once, both are released; the writer that waited for them counts from its `held` to its `out`. Of H2's writers both hold, and then one is
-- released. In H9, here beside a writer of 100..110 that holds, the writer that links itself in and goes back never counts
abbrev holding : Tables → List Call → List (ℕ × ℕ)
holding t calls = map (λ (turn : Turn). (readers turn.did.after, writers turn.did.after)) (trace t calls)

abbrev readers_calls : List Call
readers_calls = v 0 0 9 1 ∷ e 0 ∷ s 0 ∷ s 0 ∷ s 0 ∷ v 1 0 9 1 ∷ e 1 ∷ s 1 ∷ s 1 ∷ s 1 ∷ []

abbrev pub KnownAtOnce : Type 0
KnownAtOnce =
    (holding (cleared 4 3) readers_calls
    ≡ (0, 0) ∷ (0, 0) ∷ (0, 0) ∷ (1, 0) ∷ (1, 0) ∷ (1, 0) ∷ (1, 0) ∷ (1, 0) ∷ (1, 0) ∷ (2, 0) ∷ [])
    × (holding (after_all (cleared 4 3) readers_calls) (v 2 5 7 2 ∷ e 2 ∷ s 2 ∷ r 0 ∷ r 1 ∷ s 2 ∷ s 2 ∷ s 2 ∷ s 2 ∷ s 2 ∷ r 2 ∷ [])
    ≡ (2, 0) ∷ (2, 0) ∷ (2, 0) ∷ (1, 0) ∷ (0, 0) ∷ (0, 0) ∷ (0, 0) ∷ (0, 0) ∷ (0, 0) ∷ (0, 1) ∷ (0, 0) ∷ [])
    × (holding (cleared 4 4) H2calls ≡ (0, 0) ∷ (0, 0) ∷ (0, 0) ∷ (0, 1) ∷ (0, 1) ∷ (0, 1) ∷ (0, 1) ∷ (0, 1) ∷ (0, 1) ∷ (0, 2) ∷ [])
    × (holding (after_all (cleared 4 4) H2calls) (r 0 ∷ []) ≡ (0, 1) ∷ [])
    × (holding (after_all (cleared 8 5) (v 4 100 110 2 ∷ e 4 ∷ s 4 ∷ s 4 ∷ H9entered)) H9calls
    ≡ (2, 1) ∷ (2, 1) ∷ (2, 1) ∷ (2, 1) ∷ (2, 1) ∷ (2, 1) ∷ (2, 1) ∷ (2, 1) ∷ (2, 1) ∷ (2, 1) ∷ (2, 1) ∷ (3, 1) ∷ [])

pub known_at_once : KnownAtOnce
unfolding rules
known_at_once = (refl, refl, refl, refl, refl)

-- ---- 02 (iii): a title of 20 frames, one node. A claim that meets two refusals at once is told the one that stands first, 2, 3, 11, 4, 5, 8, for each
-- neighbouring pair and across; one that ends at the title is taken. In the second part seat 0 holds the one node, so that it is free for nobody
abbrev pub BeyondTitle : Type 0
BeyondTitle =
    (answers (fresh false 1 2 20) (v 2 10 10 2 ∷ v 0 21 21 2 ∷ v 0 20 10 9 ∷ v 0 10 21 9 ∷ v 0 10 20 9 ∷ v 0 10 21 1 ∷ v 0 10 20 2 ∷ [])
    ≡ refused 2 ∷ refused 3 ∷ refused 3 ∷ refused 11 ∷ refused 4 ∷ refused 11 ∷ node 1 ∷ [])
    × (answers (after_all (fresh false 1 2 20) (v 0 10 20 2 ∷ e 0 ∷ s 0 ∷ s 0 ∷ [])) (v 0 20 20 2 ∷ v 0 0 21 2 ∷ v 0 0 20 9 ∷ v 0 0 20 2 ∷ v 1 0 21 2 ∷ v 1 0 20 2 ∷ [])
    ≡ refused 3 ∷ refused 11 ∷ refused 4 ∷ refused 5 ∷ refused 11 ∷ refused 8 ∷ [])

-- a title of one frame, played; a title of none, and none at all
abbrev pub TitleOnLineOne : Type 0
TitleOnLineOne =
    (play (ascii "1 1 5 1\nv 0 0 2 2\nv 0 0 1 2\ne 0\ns 0\ns 0\n") ≡ ascii "1 no 11\n2 node 1\n3 on\n4 on\n5 held\nlist 1\nhold 0 0 1 2\ncovered 1\n")
    × (play (ascii "1 1 0 0\n") ≡ ascii "bad 1\n")
    × (play (ascii "1 1 0\n") ≡ ascii "bad 1\n")
    × (play (ascii "1 1 0 4294967296\n") ≡ ascii "bad 1\n")
    × (play (ascii "1 1 0 7 7\n") ≡ ascii "bad 1\n")

-- clear: 1 before 3; the title before is forgotten; and it stays after every call
abbrev no_tables : Tables
no_tables = tables false [] []

abbrev titles : Tables → List Call → List ℕ
titles t calls = map (λ (turn : Turn). title turn.did.after) (trace t calls)

abbrev pub ClearedWith : Type 0
ClearedWith =
    (clear no_tables 0 ≡ done 1 no_tables)
    × (clear no_tables 20 ≡ done 1 no_tables)
    × (clear (fresh false 1 2 20) 0 ≡ done 3 (fresh false 1 2 20))
    × (clear (after_all (fresh false 1 2 20) (v 0 10 20 2 ∷ e 0 ∷ s 0 ∷ s 0 ∷ [])) 7 ≡ done 0 (fresh false 1 2 7))
    × (titles (fresh false 1 2 20) (v 0 10 21 2 ∷ v 0 10 20 2 ∷ e 0 ∷ s 0 ∷ s 0 ∷ r 0 ∷ []) ≡ 20 ∷ 20 ∷ 20 ∷ 20 ∷ 20 ∷ 20 ∷ [])

-- a released node off the list and free, 10..20, is held to the title like any other; a title of no frames is none
abbrev with_title : ℕ → Tables
with_title frames = tables false (0 ∷ 0 ∷ 0 ∷ frames ∷ 10 ∷ 20 ∷ 2 ∷ 0 ∷ 1 ∷ []) (0 ∷ 0 ∷ 0 ∷ 0 ∷ [])

abbrev pub DamagedTitle : Type 0
DamagedTitle =
    (sound (with_title 20) ≡ true)
    × (sound (with_title 19) ≡ false)
    × (free_count (with_title 20) ≡ counted 1)
    × (sound (fresh false 1 1 1) ≡ true)
    × (sound (fresh false 1 1 0) ≡ false)

pub title_has_an_end : BeyondTitle × TitleOnLineOne × ClearedWith × DamagedTitle
unfolding rules
title_has_an_end = ((refl, refl), (refl, refl, refl, refl, refl), (refl, refl, refl, refl, refl), (refl, refl, refl, refl, refl))

-- ---- 02 (iv): four writers hold, one behind the other, and every node is listed. Some are released; then the stores that take their nodes out, of the
-- head's link (0) and of nodes': one for each run of released nodes, wherever it lies
abbrev four_hold : List Call
four_hold =
    v 0 0 10 2 ∷ (replicate 3 (s 0) ++ (v 1 10 20 2 ∷ (replicate 5 (s 1) ++ (v 2 20 30 2 ∷ (replicate 7 (s 2) ++ (v 3 30 40 2 ∷ replicate 9 (s 3)))))))

abbrev released : List Call → Tables
released calls = after_all (after_all (cleared 4 4) four_hold) calls

abbrev pub FewerWrites : Type 0
FewerWrites =
    (list_of (released []) ≡ 1 ∷ 2 ∷ 3 ∷ 4 ∷ [])
    × (stores (released []) ≡ [])
    × (stores (released (r 0 ∷ r 2 ∷ [])) ≡ store 0 2 ∷ store 2 4 ∷ [])
    × (stores (released (r 1 ∷ [])) ≡ store 1 3 ∷ [])
    × (stores (released (r 2 ∷ r 1 ∷ [])) ≡ store 1 4 ∷ [])
    × (stores (released (r 3 ∷ [])) ≡ store 3 0 ∷ [])
    × (stores (released (r 0 ∷ r 1 ∷ r 2 ∷ r 3 ∷ [])) ≡ store 0 0 ∷ [])
    × (marked_listed (released (r 2 ∷ r 1 ∷ [])) ≡ 2)

-- and what reserve answers and leaves: node 1, with the two that stay on the list
abbrev pub AnswersStay : Type 0
AnswersStay =
    (answers (released (r 0 ∷ r 2 ∷ [])) (v 0 50 60 2 ∷ []) ≡ node 1 ∷ [])
    × (list_of (released (r 0 ∷ r 2 ∷ v 0 50 60 2 ∷ [])) ≡ 2 ∷ 4 ∷ [])

pub fewer_writes : FewerWrites × AnswersStay
unfolding rules
fewer_writes = ((refl, refl, refl, refl, refl, refl, refl, refl), (refl, refl))

-- ---- 02 (v): while writer 10..20 holds, each further claim is told what it shares with it: the end of it, its beginning, all of one's own, all of the
-- other, one frame, and, asked again, the same; 20..30 shares nothing with it and moves on
abbrev waiters : List Call
waiters =
    v 1 15 25 2 ∷ e 1 ∷ s 1 ∷ v 2 5 12 1 ∷ e 2 ∷ s 2 ∷ v 3 12 15 2 ∷ e 3 ∷ s 3 ∷ v 4 0 30 2 ∷ e 4 ∷ s 4 ∷ v 5 19 20 1 ∷ e 5 ∷ s 5 ∷ v 6 20 30 2 ∷ e 6 ∷ s 6 ∷ s 1 ∷ s 4 ∷ []

abbrev pub WhichFrames : Type 0
WhichFrames =
    (answers (after_all (cleared 8 8) (v 0 10 20 2 ∷ e 0 ∷ s 0 ∷ s 0 ∷ [])) waiters
    ≡ node 2 ∷ on ∷ wait 1 15 20 ∷ node 3 ∷ on ∷ wait 1 10 12 ∷ node 4 ∷ on ∷ wait 1 12 15 ∷ node 5 ∷ on ∷ wait 1 10 20 ∷ node 6 ∷ on ∷ wait 1 19 20 ∷ node 7 ∷ on ∷ on ∷ wait 1 15 20 ∷ wait 1 10 20 ∷ [])
    × (answers (after_all H9start (s 3 ∷ s 3 ∷ s 2 ∷ s 2 ∷ s 3 ∷ s 2 ∷ s 2 ∷ [])) (s 2 ∷ s 2 ∷ []) ≡ wait 4 15 20 ∷ wait 4 15 20 ∷ [])

-- in sound tables that no calls come to: the one seat is in this phase with claim start..end, at cur; node 1 is 10..20, and both claims are of this kind
abbrev never_reached : ℕ → ℕ → ℕ → ℕ → ℕ → Tables
never_reached phase cur start end kind =
    tables false (1 ∷ 0 ∷ 0 ∷ 100 ∷ 10 ∷ 20 ∷ kind ∷ 0 ∷ 0 ∷ start ∷ end ∷ kind ∷ 0 ∷ 0 ∷ []) (phase ∷ 2 ∷ 0 ∷ cur ∷ [])

-- 0 and 0 where the two share no frame, in phase 4 too, and where they only touch; readers are told what they share, and who waits at its own node its
-- own claim
abbrev pub NoFrames : Type 0
NoFrames =
    (answers (never_reached 2 1 30 40 2) (s 0 ∷ []) ≡ wait 1 0 0 ∷ [])
    × (answers (never_reached 4 1 30 40 2) (s 0 ∷ []) ≡ wait 1 0 0 ∷ [])
    × (answers (never_reached 2 1 20 30 2) (s 0 ∷ []) ≡ wait 1 0 0 ∷ [])
    × (answers (never_reached 4 1 0 10 2) (s 0 ∷ []) ≡ wait 1 0 0 ∷ [])
    × (answers (never_reached 2 1 15 30 1) (s 0 ∷ []) ≡ wait 1 15 20 ∷ [])
    × (answers (never_reached 4 1 0 11 1) (s 0 ∷ []) ≡ wait 1 10 11 ∷ [])
    × (answers (never_reached 2 2 30 40 2) (s 0 ∷ []) ≡ wait 2 30 40 ∷ [])

pub which_frames_clash : WhichFrames × NoFrames
unfolding rules
which_frames_clash = ((refl, refl), (refl, refl, refl, refl, refl, refl, refl))

-- ---- 02 (vii): workers reserve as they connect, and enter in another order: who enters first is on the list first. The one that entered last waits,
-- though its node was taken first
abbrev H1held : Tables
H1held = after_all (cleared 4 3) (v 0 10 20 2 ∷ e 0 ∷ s 0 ∷ s 0 ∷ [])

-- the nodes once seat 1 has reserved too, whether it has entered or not
abbrev H1nodes : List ℕ
H1nodes = 1 ∷ 0 ∷ 1 ∷ 4294967295 ∷ 10 ∷ 20 ∷ 2 ∷ 0 ∷ 0 ∷ 15 ∷ 25 ∷ 2 ∷ 0 ∷ 0 ∷ 0 ∷ 0 ∷ 0 ∷ 0 ∷ 0 ∷ 0 ∷ 0 ∷ 0 ∷ 0 ∷ 0 ∷ []

abbrev connected : Tables
connected = after_all (cleared 4 3) (v 0 10 20 2 ∷ v 1 15 25 2 ∷ [])

abbrev pub ReservedFirst : Type 0
ReservedFirst =
    (answers (cleared 4 3) (v 0 10 20 2 ∷ v 1 15 25 2 ∷ e 1 ∷ s 1 ∷ s 1 ∷ e 0 ∷ s 0 ∷ []) ≡ node 1 ∷ node 2 ∷ on ∷ on ∷ held ∷ on ∷ wait 2 15 20 ∷ [])
    × (connected.seats ≡ 7 ∷ 1 ∷ 0 ∷ 0 ∷ 7 ∷ 2 ∷ 0 ∷ 0 ∷ 0 ∷ 0 ∷ 0 ∷ 0 ∷ [])
    × (list_of connected ≡ [])
    × (free_count connected ≡ counted 2)
    × ((after_all H1held (v 1 15 25 2 ∷ [])).seats ≡ 5 ∷ 1 ∷ 0 ∷ 0 ∷ 7 ∷ 2 ∷ 0 ∷ 0 ∷ 0 ∷ 0 ∷ 0 ∷ 0 ∷ [])
    × ((after_all H1held (v 1 15 25 2 ∷ e 1 ∷ [])).seats ≡ 5 ∷ 1 ∷ 0 ∷ 0 ∷ 1 ∷ 2 ∷ 0 ∷ 1 ∷ 0 ∷ 0 ∷ 0 ∷ 0 ∷ [])
    × ((after_all H1held (v 1 15 25 2 ∷ s 1 ∷ [])).seats ≡ 5 ∷ 1 ∷ 0 ∷ 0 ∷ 1 ∷ 2 ∷ 0 ∷ 1 ∷ 0 ∷ 0 ∷ 0 ∷ 0 ∷ [])
    × ((after_all H1held (v 1 15 25 2 ∷ e 1 ∷ [])).nodes ≡ H1nodes)
    × ((after_all H1held (v 1 15 25 2 ∷ s 1 ∷ [])).nodes ≡ H1nodes)

-- "enter in any phase but 7 is 14": idle, walking, validating, holding; waiting to enter; waiting as a reader; withdrawn. 2 comes before 14, and a seat
-- enters only once. And what else is asked of a seat in phase 7: reserve is refused 5, release 7, and a step enters
abbrev pub EnterRefused : Type 0
EnterRefused =
    (answers (cleared 4 2) (e 0 ∷ e 2 ∷ v 0 10 20 2 ∷ v 0 10 20 2 ∷ r 0 ∷ e 0 ∷ e 0 ∷ s 0 ∷ e 0 ∷ s 0 ∷ e 0 ∷ r 0 ∷ e 0 ∷ v 0 10 20 2 ∷ s 0 ∷ e 0 ∷ [])
    ≡ refused 14 ∷ refused 2 ∷ node 1 ∷ refused 5 ∷ refused 7 ∷ on ∷ refused 14 ∷ on ∷ refused 14 ∷ held ∷ refused 14 ∷ out ∷ refused 14 ∷ node 2 ∷ on ∷ refused 14 ∷ [])
    × (answers (after_all H1held (v 1 15 25 2 ∷ e 1 ∷ s 1 ∷ [])) (e 1 ∷ []) ≡ refused 14 ∷ [])
    × (answers (after_all H9start (s 3 ∷ s 3 ∷ s 2 ∷ s 2 ∷ s 3 ∷ s 2 ∷ s 2 ∷ [])) (e 2 ∷ s 2 ∷ []) ≡ refused 14 ∷ wait 4 15 20 ∷ [])
    × (answers H9end (e 3 ∷ s 3 ∷ e 3 ∷ e 3 ∷ []) ≡ refused 14 ∷ on ∷ on ∷ refused 14 ∷ [])
    × ((after_all H9end (s 3 ∷ [])).seats ≡ 5 ∷ 1 ∷ 0 ∷ 0 ∷ 5 ∷ 2 ∷ 0 ∷ 0 ∷ 5 ∷ 3 ∷ 0 ∷ 0 ∷ 7 ∷ 4 ∷ 0 ∷ 0 ∷ [])

-- "sound shape allows 7 like 6": with an own node, and prev and cur 0. One node, 10..20, and a seat with these words
abbrev with_seat : List ℕ → Tables
with_seat words = tables false (0 ∷ 0 ∷ 0 ∷ 100 ∷ 10 ∷ 20 ∷ 2 ∷ 0 ∷ 0 ∷ []) words

abbrev pub AllowedLikeSix : Type 0
AllowedLikeSix =
    (sound (with_seat (7 ∷ 1 ∷ 0 ∷ 0 ∷ [])) ≡ true)
    × (sound (with_seat (7 ∷ 0 ∷ 0 ∷ 0 ∷ [])) ≡ false)
    × (sound (with_seat (7 ∷ 1 ∷ 1 ∷ 0 ∷ [])) ≡ false)
    × (sound (with_seat (7 ∷ 1 ∷ 0 ∷ 1 ∷ [])) ≡ false)
    × (sound (with_seat (8 ∷ 1 ∷ 0 ∷ 0 ∷ [])) ≡ false)

-- "Script lines `v` .. and `e seat` replace `b`": a step in phase 7 stands for an `e`; `b`, `e` with a further number and `v` without its last are wrong
abbrev pub LinesOfAScript : Type 0
LinesOfAScript =
    (play (ascii "1 2 5 9\ne 0\nv 0 0 9 1\nv 1 0 9 1\ns 0\ne 0\n") ≡ ascii "1 no 14\n2 node 1\n3 no 8\n4 on\n5 no 14\nlist\ncovered 0\n")
    × (play (ascii "1 1 1 9\nb 0 0 9 1\n") ≡ ascii "bad 2\n")
    × (play (ascii "1 1 2 9\nv 0 0 9 1\ne 0 1\n") ≡ ascii "bad 3\n")
    × (play (ascii "1 1 1 9\nv 0 0 9\n") ≡ ascii "bad 2\n")

pub reserved_before_entered : ReservedFirst × EnterRefused × AllowedLikeSix × LinesOfAScript
unfolding rules
reserved_before_entered =
    ((refl, refl, refl, refl, refl, refl, refl, refl, refl), (refl, refl, refl, refl, refl), (refl, refl, refl, refl, refl), (refl, refl, refl, refl))

-- ---- 02 (viii): writers' sheets
abbrev sheet : ℕ → ℕ → Tables
sheet N S = fresh true N S 4294967295

-- "a claim holds as soon as it is linked": a claim's life takes four messages, where a writer's on the ordinary table takes five
abbrev pub LifeOfAClaim : Type 0
LifeOfAClaim =
    (answers (sheet 4 3) (v 0 10 20 2 ∷ e 0 ∷ s 0 ∷ r 0 ∷ []) ≡ node 1 ∷ on ∷ held ∷ out ∷ [])
    × (answers (cleared 4 3) (v 0 10 20 2 ∷ e 0 ∷ s 0 ∷ s 0 ∷ r 0 ∷ []) ≡ node 1 ∷ on ∷ on ∷ held ∷ out ∷ [])
    × ((after_all (sheet 1 1) (v 0 10 20 2 ∷ s 0 ∷ s 0 ∷ [])).nodes ≡ 1 ∷ 0 ∷ 1 ∷ 4294967295 ∷ 10 ∷ 20 ∷ 2 ∷ 0 ∷ 0 ∷ [])
    × ((after_all (sheet 1 1) (v 0 10 20 2 ∷ s 0 ∷ s 0 ∷ [])).seats ≡ 5 ∷ 1 ∷ 0 ∷ 0 ∷ [])

-- H1 on a sheet: who waits is told where and for which frames, and holds once the other has released; readers 0, writers 1
abbrev H1calls : List Call
H1calls = v 0 10 20 2 ∷ e 0 ∷ s 0 ∷ v 1 15 25 2 ∷ e 1 ∷ s 1 ∷ r 0 ∷ s 1 ∷ s 1 ∷ s 1 ∷ []

abbrev pub H1onSheet : Type 0
H1onSheet =
    (answers (sheet 4 3) H1calls ≡ node 1 ∷ on ∷ held ∷ node 2 ∷ on ∷ wait 1 15 20 ∷ out ∷ on ∷ on ∷ held ∷ [])
    × (list_of (after_all (sheet 4 3) H1calls) ≡ 2 ∷ [])
    × (holders (after_all (sheet 4 3) H1calls) ≡ row 1 15 25 2 ∷ [])
    × (readers (after_all (sheet 4 3) H1calls) ≡ 0)
    × (writers (after_all (sheet 4 3) H1calls) ≡ 1)

-- a claim that ends where the other starts holds beside it; behind a marked prev a claim is not linked, it looks again from the head, nor where the link
-- has moved on; and a released node is taken again, but none where nodes have run out (H2, H6 and H7 on a sheet)
abbrev pub BesideAndBehind : Type 0
BesideAndBehind =
    (answers (sheet 4 4) (v 0 10 20 2 ∷ e 0 ∷ s 0 ∷ v 1 20 30 2 ∷ e 1 ∷ s 1 ∷ s 1 ∷ v 2 0 10 2 ∷ e 2 ∷ s 2 ∷ [])
    ≡ node 1 ∷ on ∷ held ∷ node 2 ∷ on ∷ on ∷ held ∷ node 3 ∷ on ∷ held ∷ [])
    × (answers (sheet 4 4) (v 0 0 10 2 ∷ e 0 ∷ s 0 ∷ v 1 20 30 2 ∷ e 1 ∷ s 1 ∷ r 0 ∷ s 1 ∷ s 1 ∷ s 1 ∷ [])
    ≡ node 1 ∷ on ∷ held ∷ node 2 ∷ on ∷ on ∷ out ∷ on ∷ on ∷ held ∷ [])
    × (answers (sheet 4 4) (v 0 10 20 2 ∷ e 0 ∷ v 1 15 25 2 ∷ e 1 ∷ s 1 ∷ s 0 ∷ s 0 ∷ []) ≡ node 1 ∷ on ∷ node 2 ∷ on ∷ held ∷ on ∷ wait 2 15 20 ∷ [])
    × (answers (sheet 1 2) (v 0 0 10 2 ∷ e 0 ∷ s 0 ∷ v 1 0 10 2 ∷ r 0 ∷ v 1 0 10 2 ∷ []) ≡ node 1 ∷ on ∷ held ∷ refused 8 ∷ out ∷ node 1 ∷ [])

-- "kind 1 is 4": after 2, 3 and 11 and before 5, like every kind that is none; the ordinary table takes it. A sheet that is cleared is a sheet
abbrev pub KindOneIsFour : Type 0
KindOneIsFour =
    (answers (fresh true 2 2 20) (v 2 10 10 1 ∷ v 0 10 10 1 ∷ v 0 10 21 1 ∷ v 0 10 20 1 ∷ v 0 10 20 3 ∷ v 0 10 20 2 ∷ v 0 0 5 1 ∷ v 0 0 5 2 ∷ [])
    ≡ refused 2 ∷ refused 3 ∷ refused 11 ∷ refused 4 ∷ refused 4 ∷ node 1 ∷ refused 4 ∷ refused 5 ∷ [])
    × (answers (fresh false 2 2 20) (v 0 10 20 1 ∷ []) ≡ node 1 ∷ [])
    × (answers (clear (fresh true 1 1 20) 30).after (v 0 10 30 1 ∷ v 0 10 30 2 ∷ s 0 ∷ s 0 ∷ []) ≡ refused 4 ∷ node 1 ∷ on ∷ held ∷ [])

-- "phases 0, 1, 2, 5 and 7 and kind 2 only": what else is sound in the ordinary tables is damage in a sheet. A seat in this phase, with its cur, and its node
abbrev with_phase : Bool → ℕ → ℕ → ℕ → Tables
with_phase sheet phase cur kind = tables sheet (0 ∷ 0 ∷ 0 ∷ 100 ∷ 10 ∷ 20 ∷ kind ∷ 0 ∷ 0 ∷ 0 ∷ 0 ∷ 0 ∷ 0 ∷ 0 ∷ []) (phase ∷ 1 ∷ 0 ∷ cur ∷ [])

abbrev soundness : Bool → ℕ → List Bool
soundness sheet kind = map (λ (phase : ℕ). sound (with_phase sheet phase 1 kind)) (1 ∷ 2 ∷ 3 ∷ 4 ∷ []) ++ map (λ (phase : ℕ). sound (with_phase sheet phase 0 kind)) (6 ∷ 7 ∷ 8 ∷ [])

abbrev pub PhasesAndKinds : Type 0
PhasesAndKinds =
    (soundness true 2 ≡ true ∷ true ∷ false ∷ false ∷ false ∷ true ∷ false ∷ [])
    × (soundness false 2 ≡ true ∷ true ∷ true ∷ true ∷ true ∷ true ∷ false ∷ [])
    × (soundness true 1 ≡ false ∷ false ∷ false ∷ false ∷ false ∷ false ∷ false ∷ [])
    × (soundness false 1 ≡ true ∷ true ∷ true ∷ true ∷ true ∷ true ∷ false ∷ [])
    × (sound (tables true (0 ∷ 0 ∷ 1 ∷ 100 ∷ 10 ∷ 20 ∷ 2 ∷ 0 ∷ 0 ∷ []) (5 ∷ 1 ∷ 0 ∷ 0 ∷ [])) ≡ true)
    × (sound (tables true (0 ∷ 0 ∷ 0 ∷ 100 ∷ 10 ∷ 20 ∷ 1 ∷ 0 ∷ 0 ∷ []) (0 ∷ 0 ∷ 0 ∷ 0 ∷ [])) ≡ false)
    × (sound (tables false (0 ∷ 0 ∷ 0 ∷ 100 ∷ 10 ∷ 20 ∷ 1 ∷ 0 ∷ 0 ∷ []) (0 ∷ 0 ∷ 0 ∷ 0 ∷ [])) ≡ true)

-- a sheet that no calls come to, where own is on the list already: the step that links it closes a circle, and the next entry of the run is refused 1
abbrev own_listed : Tables
own_listed = tables true (2 ∷ 0 ∷ 0 ∷ 100 ∷ 0 ∷ 10 ∷ 2 ∷ 0 ∷ 0 ∷ 20 ∷ 30 ∷ 2 ∷ 1 ∷ 0 ∷ []) (1 ∷ 1 ∷ 0 ∷ 2 ∷ [])

abbrev pub LinkedTwice : Type 0
LinkedTwice =
    ((run own_listed (0 ∷ 0 ∷ []) 1).answer ≡ ran 1 0)
    × ((run own_listed (0 ∷ 0 ∷ []) 2).answer ≡ ran 1 1)
    × ((run own_listed (0 ∷ 0 ∷ []) 2).after.seats ≡ 5 ∷ 1 ∷ 0 ∷ 0 ∷ [])

pub sheets : LifeOfAClaim × H1onSheet × BesideAndBehind × KindOneIsFour
unfolding rules
sheets = ((refl, refl, refl, refl), (refl, refl, refl, refl, refl), (refl, refl, refl, refl), (refl, refl, refl))

pub sheets_sound : PhasesAndKinds × LinkedTwice
unfolding rules
sheets_sound = ((refl, refl, refl, refl, refl, refl, refl), (refl, refl, refl))

-- ---- ours: seat 2 waits at node 1, and nodes 1 and 2 are released. Taken out, node 2 is at no seat's own, prev or cur; but
-- seat 2 still reaches it through node 1, so it is not free
abbrev pub ThroughRemoved : Type 0
ThroughRemoved =
    answers (cleared 3 3) (v 0 0 10 2 ∷ e 0 ∷ s 0 ∷ s 0 ∷ v 1 20 30 2 ∷ e 1 ∷ s 1 ∷ s 1 ∷ s 1 ∷ s 1 ∷ v 2 5 30 2 ∷ e 2 ∷ s 2 ∷ r 0 ∷ r 1 ∷ v 0 40 50 2 ∷ [])
    ≡ node 1 ∷ on ∷ on ∷ held ∷ node 2 ∷ on ∷ on ∷ on ∷ on ∷ held ∷ node 3 ∷ on ∷ wait 1 5 10 ∷ out ∷ out ∷ refused 8 ∷ []

-- ---- ours: seat 1 has passed node 1 when that is released, and seat 2 takes it out and holds 20..30. Seat 1 must not enter
-- behind node 1, where no one would see it: it starts again and waits at seat 2's node
abbrev pub BehindMarked : Type 0
BehindMarked =
    answers (cleared 4 3) (v 0 0 10 2 ∷ e 0 ∷ s 0 ∷ s 0 ∷ v 1 20 30 1 ∷ e 1 ∷ s 1 ∷ r 0 ∷ v 2 20 30 2 ∷ e 2 ∷ s 2 ∷ s 2 ∷ s 2 ∷ s 1 ∷ s 1 ∷ [])
    ≡ node 1 ∷ on ∷ on ∷ held ∷ node 2 ∷ on ∷ on ∷ out ∷ node 3 ∷ on ∷ on ∷ on ∷ held ∷ on ∷ wait 3 20 30 ∷ []

pub our_histories : ThroughRemoved × BehindMarked
unfolding rules
our_histories = (refl, refl)
