-- Sound shape, clause by clause. "Any other table is damaged."
use Rattle.std.specs.Prelude.{ℕ, zero, suc, ◌+◌, ◌*◌, Bool, true, false, not, ◌&&◌, ◌||◌, length, if◌then◌else◌}
use Rattle.rules.specs.Notation.{◌is◌, ◌≤?◌, ◌<?◌, all, count}
use Rattle.rules.specs.Tables.{Tables, node_count, seat_count, before_nodes, node_width, seat_width, seat_word, readers, writers, title, start, end, kind, mark, next, head, phase, own, prev, cur}

-- "lengths fit", where "N is 1 to 256" and "S is 1 to 64"
unfoldable pub nodes_fit : Tables → Bool
nodes_fit t = length t.nodes is before_nodes t.sheet + node_width * node_count t && 1 ≤? node_count t && node_count t ≤? 256

unfoldable pub seats_fit : Tables → Bool
seats_fit t = length t.seats is seat_width t.sheet * seat_count t && 1 ≤? seat_count t && seat_count t ≤? 64

unfoldable pub lengths_fit : Tables → Bool
lengths_fit t = nodes_fit t && seats_fit t

-- "Kind 1 reads, 2 writes."
unfoldable pub is_kind : ℕ → Bool
is_kind k = k is 1 || k is 2

-- the kinds that a claim may have; of a sheet, 02 (viii): "kind 2 only"
unfoldable pub may_claim : Bool → ℕ → Bool
may_claim true k = k is 2
may_claim false k = is_kind k

-- "each node is all zeros (kind 0), or has kind 1 or 2, start < end, next at most N, mark 0 or 1"
unfoldable pub zero_node : Tables → ℕ → Bool
zero_node t a = start t a is 0 && end t a is 0 && kind t a is 0 && next t a is 0 && mark t a is 0

unfoldable pub claim_node : Tables → ℕ → Bool
claim_node t a = may_claim t.sheet (kind t a) && start t a <? end t a && next t a ≤? node_count t && mark t a ≤? 1

-- "each nonzero head, next, own, prev and cur names a node of kind 1 or 2"
unfoldable pub names : Tables → ℕ → Bool
names t a = a is 0 || a ≤? node_count t && may_claim t.sheet (kind t a)

unfoldable pub node_sound : Tables → ℕ → Bool
node_sound t a = (zero_node t a || claim_node t a) && names t (next t a)

-- "phase is 0 to 6", and 02 (vii): "sound shape allows 7 like 6"; of a sheet, 02 (viii): "phases 0, 1, 2, 5 and 7"
unfoldable pub may_be_in : Bool → ℕ → Bool
may_be_in true p = p is 0 || p is 1 || p is 2 || p is 5 || p is 7
may_be_in false p = p ≤? 7

unfoldable pub is_phase : Tables → ℕ → Bool
is_phase t s = may_be_in t.sheet (phase t s)

-- "an idle seat (0) has zeros in all four words, any other has own nonzero"
unfoldable pub zero_seat : Tables → ℕ → Bool
zero_seat t s = all (seat_width t.sheet) (λ field. seat_word t.sheet t.seats s field is 0)

unfoldable pub idle_or_owning : Tables → ℕ → Bool
idle_or_owning t s = if phase t s is 0 then zero_seat t s else not (own t s is 0)

-- "in phases 5 and 6 prev and cur are 0", and in 7 like 6
unfoldable pub resting_at_zero : Tables → ℕ → Bool
resting_at_zero t s = not (phase t s is 5 || phase t s is 6 || phase t s is 7) || prev t s is 0 && cur t s is 0

-- "in 2 and 4 cur is nonzero"
unfoldable pub waiting_at_cur : Tables → ℕ → Bool
waiting_at_cur t s = not (phase t s is 2 || phase t s is 4) || not (cur t s is 0)

unfoldable pub seat_sound : Tables → ℕ → Bool
seat_sound t s =
    is_phase t s && idle_or_owning t s && resting_at_zero t s && waiting_at_cur t s
    && names t (own t s) && names t (prev t s) && names t (cur t s)

-- the seat holds with a claim of this kind
abbrev pub holds_with : Tables → ℕ → ℕ → Bool
holds_with t k s = phase t s is 5 && kind t (own t s) is k

-- "the count over the seats"
unfoldable pub holders_of_kind : Tables → ℕ → ℕ
holders_of_kind t k = count (seat_count t) (holds_with t k)

-- "a table whose two words differ from the count is damaged"
unfoldable pub counts_fit : Tables → Bool
counts_fit t = readers t is holders_of_kind t 1 && writers t is holders_of_kind t 2

-- 02 (iii): "a table whose remembered count is 0 or below a node's end is damaged". Of every node, the free ones too
unfoldable pub ends_by : Tables → ℕ → Bool
ends_by t frames = all (node_count t) (λ m. end t (m + 1) ≤? frames)

unfoldable pub title_fits : Tables → Bool
title_fits t = 1 ≤? title t && ends_by t (title t)

-- "from the head, 0 is met after at most N nodes"
unfoldable pub ends_within : ℕ → Tables → ℕ → Bool
ends_within zero t a = a is 0
ends_within (suc hops) t a = a is 0 || ends_within hops t (next t a)

unfoldable pub nodes_sound : Tables → Bool
nodes_sound t = all (node_count t) (λ m. node_sound t (m + 1))

unfoldable pub seats_sound : Tables → Bool
seats_sound t = all (seat_count t) (seat_sound t)

unfoldable pub sound : Tables → Bool
sound t =
    lengths_fit t && title_fits t && nodes_sound t && names t (head t) && seats_sound t && counts_fit t && ends_within (node_count t) t (head t)
