-- What is left of each call once its first refusals are past: functions of their own in the code.
use Rattle.std.specs.Prelude.{ℕ, not, [], ◌∷◌}
use Rattle.rules.specs.Notation.{◌is◌, ◌≤?◌, ◌<?◌}
use Rattle.rules.specs.Tables.{Tables, title, phase}
use Rattle.rules.specs.Comparison.{Claim}
use Rattle.rules.specs.Shape.{may_claim}
use Rattle.rules.specs.Fetch.{fetch}
use Rattle.rules.specs.Answers.{Answer, out, refused, Done, done, ◌when◌, refusing, answered}
use Rattle.rules.specs.Steps.{entering, leave}
use Rattle.rules.specs.Calls.{reserved}

-- of reserve, past 5 and past 2
abbrev pub reserve_fetching : Tables → ℕ → Claim → Done Answer
reserve_fetching t s c = reserved t (fetch t s c)

abbrev pub reserve_claim : Tables → ℕ → Claim → Done Answer
reserve_claim t s c =
    refusing refused
    ((3 when c.end ≤? c.start) ∷ (11 when title t <? c.end) ∷ (4 when not (may_claim t.sheet c.kind)) ∷ (5 when not (phase t s is 0)) ∷ [])
    t
    (reserve_fetching t s c)

-- of enter, past 2
abbrev pub enter_seat : Tables → ℕ → Done Answer
enter_seat t s = refusing refused ((14 when not (phase t s is 7)) ∷ []) t (answered (entering t s) s)

-- of release, past 2
abbrev pub release_seat : Tables → ℕ → Done Answer
release_seat t s = refusing refused ((7 when not (phase t s is 5)) ∷ []) t (done out (leave t s))
