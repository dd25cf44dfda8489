-- Parts of the step rules that are functions of their own in the code. Each stands word for word in the rule it is a part of.
use Rattle.std.specs.Prelude.{ℕ, Bool, ◌||◌, if◌then◌else◌}
use Rattle.rules.specs.Notation.{◌is◌, ◌≤?◌}
use Rattle.rules.specs.Tables.{Tables, count_word, start, end, marked, next, own, prev, cur, set_link, set_mark, set_phase, set_cur, clear_seat}
use Rattle.rules.specs.Comparison.{claim_of, reads, compare, by_comparison}
use Rattle.rules.specs.Steps.{unlink, pass, insert, kind_of, withdraw}

-- of unlink: cur becomes cur's next, without and with the link of prev
abbrev pub skip : Tables → ℕ → Tables
skip t s = set_cur t s (next t (cur t s))

abbrev pub skip_and_link : Tables → ℕ → Tables
skip_and_link t s = set_cur (set_link t (prev t s) (next t (cur t s))) s (next t (cur t s))

-- of walking: cur is an unmarked node
unfoldable pub walk_by_comparison : Tables → ℕ → Tables
walk_by_comparison t s = by_comparison (compare (claim_of t (cur t s)) (claim_of t (own t s))) (pass t s) (set_phase t s 2) (insert t s)

-- of both kinds of waiting
unfoldable pub wake_to : ℕ → Tables → ℕ → Tables
wake_to to t s =
    if marked t (cur t s) then set_phase t s to
    else t

-- of a validating reader
unfoldable pub is_past : Tables → ℕ → Bool
is_past t s = cur t s is 0 || end t (own t s) ≤? start t (cur t s)

unfoldable pub read_on : Tables → ℕ → Tables
read_on t s =
    if marked t (cur t s) then unlink t s
    else if reads (claim_of t (cur t s)) then pass t s
    else set_phase t s 4

-- of a validating writer
unfoldable pub ends_before : Tables → ℕ → Bool
ends_before t s = end t (cur t s) ≤? start t (own t s)

unfoldable pub write_on : Tables → ℕ → Tables
write_on t s =
    if marked t (cur t s) then unlink t s
    else if end t (cur t s) ≤? start t (own t s) then pass t s
    else withdraw t s

-- of hold and release: how many hold with a claim of the seat's kind
abbrev pub count_of_kind : Tables → ℕ → ℕ
count_of_kind t s = count_word t (kind_of t s)

-- of release
abbrev pub mark_and_clear : Tables → ℕ → Tables
mark_and_clear t s = clear_seat (set_mark t (own t s) 1) s
