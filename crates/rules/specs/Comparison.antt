-- A claim, the comparison of a listed node's claim c with one's own claim o, and what the two share.
use Rattle.std.specs.Prelude.{ℕ, zero, suc, Bool, ◌&&◌, ◌||◌, ℤ, pos, negsuc, if◌then◌else◌}
use Rattle.rules.specs.Notation.{◌is◌, ◌≤?◌, ◌<?◌}
use Rattle.rules.specs.Tables as tables
use Rattle.rules.specs.Tables.{Tables}
use Rattle.rules.specs.declared.SharedRun.{SharedRun}

-- "A claim covers frames start up to but not including end"
pub record Claim : Type 0 where
  pub start : ℕ
  pub end : ℕ
  pub kind : ℕ

abbrev pub claim : ℕ → ℕ → ℕ → Claim
claim start end kind = record { start = start; end = end; kind = kind }

abbrev pub claim_of : Tables → ℕ → Claim
claim_of t a = claim (tables.start t a) (tables.end t a) (tables.kind t a)

-- "Kind 1 reads, 2 writes."
abbrev pub reads : Claim → Bool
reads c = c.kind is 1

abbrev pub both_read : Claim → Claim → Bool
both_read c o = reads c && reads o

-- "+1 (o lies after): c.end ≤ o.start; or both read and c.start ≤ o.start."
unfoldable pub lies_after : Claim → Claim → Bool
lies_after c o = c.end ≤? o.start || both_read c o && c.start ≤? o.start

-- "−1 (o lies before): o.end ≤ c.start; or both read and o.start ≤ c.start."
unfoldable pub lies_before : Claim → Claim → Bool
lies_before c o = o.end ≤? c.start || both_read c o && o.start ≤? c.start

-- "The comparison gives a signed number .. by the first rule that holds", and "0: they clash."
unfoldable pub compare : Claim → Claim → ℤ
compare c o =
    if lies_after c o then pos 1
    else if lies_before c o then negsuc 0
    else pos 0

-- what is done at +1, at 0 and at −1
abbrev pub by_comparison : {A : Type 0} → ℤ → A → A → A → A
by_comparison (pos (suc n)) after clash before = after
by_comparison (pos zero) after clash before = clash
by_comparison (negsuc n) after clash before = before

-- ---- 02 (v): "The comparison shall give, when it gives 0, the first shared frame and the end of the shared run". It stands beside the number, as a
-- definition of its own, since a wait in phase 4 comes from no comparison
abbrev pub shared_run : ℕ → ℕ → SharedRun
shared_run first end = record { first = first; end = end }

abbrev pub later : ℕ → ℕ → ℕ
later a b = if a ≤? b then b else a

abbrev pub earlier : ℕ → ℕ → ℕ
earlier a b = if b ≤? a then b else a

-- "where .. the claim waited at shares no frame, both are 0"
unfoldable pub run_or_none : ℕ → ℕ → SharedRun
run_or_none first end =
    if first <? end then shared_run first end
    else shared_run 0 0

-- "The pair is the whole of what both claims cover": from the later of their starts up to but not including the earlier of their ends
abbrev pub shared : Claim → Claim → SharedRun
shared c o = run_or_none (later c.start o.start) (earlier c.end o.end)
