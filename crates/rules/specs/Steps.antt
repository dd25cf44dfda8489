-- The step rules: "The phase decides the step, by the first clause that fits".
use Rattle.std.specs.Prelude.{ℕ, ◌+◌, ◌-◌, Bool, not, ◌&&◌, ◌||◌, if◌then◌else◌}
use Rattle.rules.specs.Notation.{◌is◌, ◌≤?◌}
use Rattle.rules.specs.Tables.{Tables, count_word, set_count, start, end, kind, marked, link, next, head, phase, own, prev, cur, set_link, set_mark, set_phase, set_prev, set_cur, clear_seat}
use Rattle.rules.specs.Comparison.{claim_of, reads, compare, by_comparison}
use Rattle.rules.specs.Fetch.{Fetched, fetch}
use Rattle.rules.specs.Answers.{Answer, refused, Done, done, answered}

-- phase, prev and cur of a seat
abbrev pub move_to : Tables → ℕ → ℕ → ℕ → ℕ → Tables
move_to t s phase prev cur = set_cur (set_prev (set_phase t s phase) s prev) s cur

-- "if prev is 0 or unmarked, and its link is cur" (node 0 reads as unmarked)
unfoldable pub joined : Tables → ℕ → Bool
joined t s = not (marked t (prev t s)) && link t (prev t s) is cur t s

-- "Unlink: if prev is 0 or unmarked, and its link is cur, that link becomes cur's next; then, either way, the seat's cur
-- becomes cur's next."
unfoldable pub unlink : Tables → ℕ → Tables
unlink t s =
    if joined t s then set_cur (set_link t (prev t s) (next t (cur t s))) s (next t (cur t s))
    else set_cur t s (next t (cur t s))

-- "+1: prev becomes cur, cur its next"
unfoldable pub pass : Tables → ℕ → Tables
pass t s = set_cur (set_prev t s (cur t s)) s (next t (cur t s))

-- "own's next becomes cur, the link becomes own"
unfoldable pub link_in : Tables → ℕ → Tables
link_in t s = set_link (set_link t (own t s) (cur t s)) (prev t s) (own t s)

-- "phase 3, and validation starts: a reader at prev = own, cur = own's next; a writer at prev 0, cur = head (as it now is)."
unfoldable pub start_validating : Tables → ℕ → Tables
start_validating t s =
    if reads (claim_of t (own t s)) then move_to t s 3 (own t s) (next t (own t s))
    else move_to t s 3 0 (head t)

-- the kind of a seat's claim, by which it counts
abbrev pub kind_of : Tables → ℕ → ℕ
kind_of t s = kind t (own t s)

-- "Hold: phase 5, prev and cur 0", and the claim counts from now on
unfoldable pub hold : Tables → ℕ → Tables
hold t s = set_count (move_to t s 5 0 0) (kind_of t s) (count_word t (kind_of t s) + 1)

-- what an insert does once own is linked in: validation starts; on a sheet, 02 (viii): "a claim holds as soon as it is linked"
unfoldable pub once_linked : Tables → ℕ → Tables
once_linked t s =
    if t.sheet then hold t s
    else start_validating t s

-- "Otherwise no node changes: with prev marked, prev becomes 0 and cur head; else cur becomes the link of prev."
unfoldable pub look_again : Tables → ℕ → Tables
look_again t s =
    if marked t (prev t s) then set_cur (set_prev t s 0) s (head t)
    else set_cur t s (link t (prev t s))

-- "Insert: if prev is 0 or unmarked and its link is cur, .."
unfoldable pub insert : Tables → ℕ → Tables
insert t s =
    if joined t s then once_linked (link_in t s) s
    else look_again t s

-- "Withdraw: own is marked, phase 6, prev and cur 0, own kept."
unfoldable pub withdraw : Tables → ℕ → Tables
withdraw t s = move_to (set_mark t (own t s) 1) s 6 0 0

-- "Release: own is marked and the seat idle", and the claim counts no more
unfoldable pub leave : Tables → ℕ → Tables
leave t s = set_count (clear_seat (set_mark t (own t s) 1) s) (kind_of t s) (count_word t (kind_of t s) - 1)

-- | 1 walking | cur 0: insert. cur marked: unlink. Else compare cur with own: +1: prev becomes cur, cur its next; 0: phase 2;
-- −1: insert |
unfoldable pub walking : Tables → ℕ → Tables
walking t s =
    if cur t s is 0 then insert t s
    else if marked t (cur t s) then unlink t s
    else by_comparison (compare (claim_of t (cur t s)) (claim_of t (own t s))) (pass t s) (set_phase t s 2) (insert t s)

-- | 2 waiting to enter | cur marked: phase 1; else nothing |
unfoldable pub waiting_to_enter : Tables → ℕ → Tables
waiting_to_enter t s =
    if marked t (cur t s) then set_phase t s 1
    else t

-- | 3 validating, reader | cur 0 or cur.start ≥ own.end: hold. cur marked: unlink. cur reads: pass as for +1. Else phase 4 |
unfoldable pub reader_validating : Tables → ℕ → Tables
reader_validating t s =
    if cur t s is 0 || end t (own t s) ≤? start t (cur t s) then hold t s
    else if marked t (cur t s) then unlink t s
    else if reads (claim_of t (cur t s)) then pass t s
    else set_phase t s 4

-- | 3 validating, writer | cur is own: hold. cur 0: withdraw. cur marked: unlink. cur.end ≤ own.start: pass. Else withdraw |
unfoldable pub writer_validating : Tables → ℕ → Tables
writer_validating t s =
    if cur t s is own t s then hold t s
    else if cur t s is 0 then withdraw t s
    else if marked t (cur t s) then unlink t s
    else if end t (cur t s) ≤? start t (own t s) then pass t s
    else withdraw t s

unfoldable pub validating : Tables → ℕ → Tables
validating t s =
    if reads (claim_of t (own t s)) then reader_validating t s
    else writer_validating t s

-- | 4 reader waiting | cur marked: phase 3; else nothing |
unfoldable pub reader_waiting : Tables → ℕ → Tables
reader_waiting t s =
    if marked t (cur t s) then set_phase t s 3
    else t

-- | 6 withdrawn | fetch again with the same claim |, 02 (vii): "phase 6 fetches, goes to 7 and answers `on`", and "8: .. step in phase 6: fetch found none"
unfoldable pub refetched : Tables → ℕ → Fetched → Done Answer
refetched t s f =
    if f.node is 0 then done (refused 8) t
    else answered f.after s

unfoldable pub withdrawn : Tables → ℕ → Done Answer
withdrawn t s = refetched t s (fetch t s (claim_of t (own t s)))

-- 02 (vii): "enter reads the head and goes to phase 1". In phase 7 prev is 0, where a walk starts
unfoldable pub entering : Tables → ℕ → Tables
entering t s = set_cur (set_phase t s 1) s (head t)

-- 02 (vii): "a step in phase 7 enters". | 5 holding | nothing |, and no other phase is stepped
unfoldable pub step_by_phase : Tables → ℕ → Done Answer
step_by_phase t s =
    if phase t s is 1 then answered (walking t s) s
    else if phase t s is 2 then answered (waiting_to_enter t s) s
    else if phase t s is 3 then answered (validating t s) s
    else if phase t s is 4 then answered (reader_waiting t s) s
    else if phase t s is 6 then withdrawn t s
    else if phase t s is 7 then answered (entering t s) s
    else answered t s
