-- The two tables: where each word stands, and how it is read and stored. No other definition knows an index.
-- A read past the end is 0 and a store past the end does nothing. Node 0 is no node: its words read 0 and take no store, but
-- for its link, which is the head of the list.
use Rattle.std.specs.Prelude.{ℕ, zero, suc, ◌+◌, ◌-◌, ◌*◌, ◌/◌, Bool, true, false, List, length, get_or, set, replicate, if◌then◌else◌}
use Rattle.rules.specs.Notation.{◌is◌}

-- "Both are lent slices of 32-bit unsigned words." With them goes their profile: whether they are a writers' sheet or the ordinary tables. It is no
-- word of theirs: whoever lends them says it, by the set of calls that is used, and no call changes it
pub record Tables : Type 0 where
  pub sheet : Bool
  pub nodes : List ℕ
  pub seats : List ℕ

abbrev pub tables : Bool → List ℕ → List ℕ → Tables
tables sheet nodes seats = record { sheet = sheet; nodes = nodes; seats = seats }

-- ---- where a word stands follows from the profile: how many words there are beside those named below, before node 1 and in a seat. 02 (viii): a sheet
-- is "over the same layout", so there are none in either
abbrev pub more_before : Bool → ℕ
more_before true = 0
more_before false = 0

abbrev pub more_words : Bool → ℕ
more_words true = 0
more_words false = 0

-- ---- "Nodes: one head word, then N nodes of five words: start, end, kind, next, mark". Between them, from 02, "the two counts, readers first, in
-- two words after the head word", and "the title's frame count .. in a word of its own" after these: the length is 4 + 5·N
abbrev pub head_at : ℕ
head_at = 0

abbrev pub readers_at : ℕ
readers_at = 1

abbrev pub writers_at : ℕ
writers_at = 2

-- which of the two counts a holder's claim is in, by its kind: "Kind 1 reads, 2 writes."
abbrev pub count_at : ℕ → ℕ
count_at k = if k is 1 then readers_at else writers_at

abbrev pub title_at : ℕ
title_at = 3

abbrev pub before_nodes : Bool → ℕ
before_nodes sheet = 4 + more_before sheet

abbrev pub start_at : ℕ
start_at = 0

abbrev pub end_at : ℕ
end_at = 1

abbrev pub kind_at : ℕ
kind_at = 2

abbrev pub next_at : ℕ
next_at = 3

abbrev pub mark_at : ℕ
mark_at = 4

abbrev pub node_width : ℕ
node_width = 5

-- a word before node 1, by its place
abbrev pub top_word : List ℕ → ℕ → ℕ
top_word nodes place = get_or nodes place 0

abbrev pub put_top : List ℕ → ℕ → ℕ → List ℕ
put_top nodes place value = set nodes place value

-- "Nodes are numbered 1 to N."
unfoldable pub node_word : Bool → List ℕ → ℕ → ℕ → ℕ
node_word sheet nodes zero field = 0
node_word sheet nodes (suc m) field = get_or nodes (before_nodes sheet + node_width * m + field) 0

unfoldable pub put_node : Bool → List ℕ → ℕ → ℕ → ℕ → List ℕ
put_node sheet nodes zero field value = nodes
put_node sheet nodes (suc m) field value = set nodes (before_nodes sheet + node_width * m + field) value

-- "The link of prev" is head if prev is 0, else prev's next.
unfoldable pub link_word : Bool → List ℕ → ℕ → ℕ
link_word sheet nodes zero = top_word nodes head_at
link_word sheet nodes (suc m) = node_word sheet nodes (suc m) next_at

unfoldable pub put_link : Bool → List ℕ → ℕ → ℕ → List ℕ
put_link sheet nodes zero value = put_top nodes head_at value
put_link sheet nodes (suc m) value = put_node sheet nodes (suc m) next_at value

-- ---- "Seats: S seats of four words: phase, own, prev, cur. S is 1 to 64, numbered from 0."
abbrev pub phase_at : ℕ
phase_at = 0

abbrev pub own_at : ℕ
own_at = 1

abbrev pub prev_at : ℕ
prev_at = 2

abbrev pub cur_at : ℕ
cur_at = 3

abbrev pub seat_width : Bool → ℕ
seat_width sheet = 4 + more_words sheet

unfoldable pub seat_word : Bool → List ℕ → ℕ → ℕ → ℕ
seat_word sheet seats s field = get_or seats (seat_width sheet * s + field) 0

unfoldable pub put_seat : Bool → List ℕ → ℕ → ℕ → ℕ → List ℕ
put_seat sheet seats s field value = set seats (seat_width sheet * s + field) value

-- the first words of a seat become 0
unfoldable pub clear_words : Bool → ℕ → List ℕ → ℕ → List ℕ
clear_words sheet zero seats s = seats
clear_words sheet (suc field) seats s = put_seat sheet (clear_words sheet field seats s) s field 0

-- ---- N and S, from the lengths
unfoldable pub node_count_of : Bool → List ℕ → ℕ
node_count_of sheet nodes = (length nodes - before_nodes sheet) / node_width

unfoldable pub seat_count_of : Bool → List ℕ → ℕ
seat_count_of sheet seats = length seats / seat_width sheet

abbrev pub node_count : Tables → ℕ
node_count t = node_count_of t.sheet t.nodes

abbrev pub seat_count : Tables → ℕ
seat_count t = seat_count_of t.sheet t.seats

-- ---- reading by name
-- "the numbers of holding readers and holding writers"
abbrev pub readers : Tables → ℕ
readers t = top_word t.nodes readers_at

abbrev pub writers : Tables → ℕ
writers t = top_word t.nodes writers_at

abbrev pub count_word : Tables → ℕ → ℕ
count_word t k = top_word t.nodes (count_at k)

-- "the title's frame count", which "the table remembers"
abbrev pub title : Tables → ℕ
title t = top_word t.nodes title_at

abbrev pub start : Tables → ℕ → ℕ
start t a = node_word t.sheet t.nodes a start_at

abbrev pub end : Tables → ℕ → ℕ
end t a = node_word t.sheet t.nodes a end_at

abbrev pub kind : Tables → ℕ → ℕ
kind t a = node_word t.sheet t.nodes a kind_at

abbrev pub mark : Tables → ℕ → ℕ
mark t a = node_word t.sheet t.nodes a mark_at

-- "Mark 1 means released or withdrawn."
abbrev pub marked : Tables → ℕ → Bool
marked t a = mark t a is 1

abbrev pub link : Tables → ℕ → ℕ
link t a = link_word t.sheet t.nodes a

abbrev pub head : Tables → ℕ
head t = link t 0

-- of a node that is not 0
abbrev pub next : Tables → ℕ → ℕ
next t a = link t a

abbrev pub phase : Tables → ℕ → ℕ
phase t s = seat_word t.sheet t.seats s phase_at

abbrev pub own : Tables → ℕ → ℕ
own t s = seat_word t.sheet t.seats s own_at

abbrev pub prev : Tables → ℕ → ℕ
prev t s = seat_word t.sheet t.seats s prev_at

abbrev pub cur : Tables → ℕ → ℕ
cur t s = seat_word t.sheet t.seats s cur_at

-- ---- storing by name
abbrev pub set_count : Tables → ℕ → ℕ → Tables
set_count t k value = tables t.sheet (put_top t.nodes (count_at k) value) t.seats

abbrev pub set_node : ℕ → Tables → ℕ → ℕ → Tables
set_node field t a value = tables t.sheet (put_node t.sheet t.nodes a field value) t.seats

abbrev pub set_link : Tables → ℕ → ℕ → Tables
set_link t a value = tables t.sheet (put_link t.sheet t.nodes a value) t.seats

abbrev pub set_mark : Tables → ℕ → ℕ → Tables
set_mark = set_node mark_at

abbrev pub set_seat : ℕ → Tables → ℕ → ℕ → Tables
set_seat field t s value = tables t.sheet t.nodes (put_seat t.sheet t.seats s field value)

abbrev pub set_phase : Tables → ℕ → ℕ → Tables
set_phase = set_seat phase_at

abbrev pub set_own : Tables → ℕ → ℕ → Tables
set_own = set_seat own_at

abbrev pub set_prev : Tables → ℕ → ℕ → Tables
set_prev = set_seat prev_at

abbrev pub set_cur : Tables → ℕ → ℕ → Tables
set_cur = set_seat cur_at

-- 0 in every word of a seat
abbrev pub clear_seat : Tables → ℕ → Tables
clear_seat t s = tables t.sheet t.nodes (clear_words t.sheet (seat_width t.sheet) t.seats s)

-- ---- "Clear writes 0 everywhere; that table is fresh", but for what 02 (iii) adds: "Clear takes the title's frame count .. and the table remembers
-- it"
abbrev pub zeros : ℕ → List ℕ
zeros n = replicate n 0

unfoldable pub fresh : Bool → ℕ → ℕ → ℕ → Tables
fresh sheet n s frames =
    tables sheet (put_top (zeros (before_nodes sheet + node_width * n)) title_at frames) (zeros (seat_width sheet * s))
