-- The calls on the tables, each total: any tables, any numbers. A refused call gives its number and the tables as found.
use Rattle.std.specs.Prelude.{ℕ, Bool, not, [], ◌∷◌, if◌then◌else◌}
use Rattle.rules.specs.Notation.{◌is◌, ◌≤?◌, ◌<?◌}
use Rattle.rules.specs.Tables.{Tables, node_count, seat_count, title, phase, fresh}
use Rattle.rules.specs.Comparison.{Claim}
use Rattle.rules.specs.Shape.{lengths_fit, sound, may_claim}
use Rattle.rules.specs.Fetch.{Fetched, fetch}
use Rattle.rules.specs.Answers.{Answer, node, out, refused, Done, done, ◌when◌, refusing, answered}
use Rattle.rules.specs.Steps.{entering, leave, step_by_phase}

-- | 1 | tables damaged |
abbrev pub damaged : Tables → Bool
damaged t = not (sound t)

-- | 2 | seat number not below S |
abbrev pub no_seat : Tables → ℕ → Bool
no_seat t s = seat_count t ≤? s

-- ---- clear: "Clear writes 0 everywhere", and 02 (iii): "Clear takes the title's frame count". | 1 | .. for clear: only lengths wrong |, then
-- "clear with count 0 is refused 3". "An accepted call with no other stated answer returns 0."
unfoldable pub clear : Tables → ℕ → Done ℕ
clear t frames =
    refusing (λ number. number) ((1 when not (lengths_fit t)) ∷ (3 when frames is 0) ∷ []) t
    (done 0 (fresh t.sheet (node_count t) (seat_count t) frames))

-- ---- reserve: 02 (vii): "reserve takes a node for a range and kind", "Reserve answers `node n`", "reserve has begin's" refusals, "in begin's order".
-- "A claim may end at it" (the title's frame count) "and not beyond": "11, end beyond the title, stands after 3 and before 4". Of a sheet, 02 (viii):
-- "kind 1 is 4"
unfoldable pub reserved : Tables → Fetched → Done Answer
reserved t f =
    if f.node is 0 then done (refused 8) t
    else done (node f.node) f.after

unfoldable pub reserve : Tables → ℕ → Claim → Done Answer
reserve t s c =
    refusing refused
    ((1 when damaged t)
    ∷ (2 when no_seat t s)
    ∷ (3 when c.end ≤? c.start)
    ∷ (11 when title t <? c.end)
    ∷ (4 when not (may_claim t.sheet c.kind))
    ∷ (5 when not (phase t s is 0))
    ∷ [])
    t
    (reserved t (fetch t s c))

-- ---- enter: 02 (vii): "enter `on`"; "enter in any phase but 7 is 14, after 7". An idle seat is in phase 0, so it too is refused 14
unfoldable pub enter : Tables → ℕ → Done Answer
enter t s =
    refusing refused ((1 when damaged t) ∷ (2 when no_seat t s) ∷ (14 when not (phase t s is 7)) ∷ []) t
    (answered (entering t s) s)

-- ---- step
unfoldable pub step : Tables → ℕ → Done Answer
step t s =
    refusing refused ((1 when damaged t) ∷ (2 when no_seat t s) ∷ (6 when phase t s is 0) ∷ []) t
    (step_by_phase t s)

-- ---- release: "Release: `out`."
unfoldable pub release : Tables → ℕ → Done Answer
release t s =
    refusing refused ((1 when damaged t) ∷ (2 when no_seat t s) ∷ (7 when not (phase t s is 5)) ∷ []) t
    (done out (leave t s))
