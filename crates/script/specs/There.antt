-- What the code gives back of a thing at a place: the thing, or None where it is not there. The rules say that by the place after it, which is then
-- nowhere.
use Rattle.std.specs.Prelude.{ℕ, ◌+◌, ◌*◌, ◌&&◌, List, Option, Some, None, if◌then◌else◌}
use Rattle.rules.specs.Notation.{◌is◌, ◌≤?◌}
use Rattle.rules.specs.Script.{found, nowhere, is_digit, digit_at}
use Rattle.rules.specs.declared.Found.{Found}
use Rattle.rules.specs.declared.Body.{Body}
use Rattle.rules.specs.declared.Contents.{Contents}

-- a thing, by the place after it
unfoldable pub there : {A : Type 0} → List ℕ → ℕ → A → Option A
there src next thing =
    if next is nowhere src then None
    else Some thing

abbrev pub found_there : List ℕ → Found → Option Found
found_there src f = there src f.next f

abbrev pub place_there : List ℕ → ℕ → Option ℕ
place_there src next = there src next next

abbrev pub body_there : List ℕ → Body → Option Body
body_there src b = there src b.next b

abbrev pub contents_there : List ℕ → Contents → Option Contents
contents_there src top = there src top.next top

-- the digit at a place
unfoldable pub digit_there : List ℕ → ℕ → Option ℕ
digit_there src at =
    if is_digit src at then Some (digit_at src at)
    else None

-- one digit more of a number, where `digits_from` takes one
unfoldable pub longer_there : List ℕ → Found → Option Found
longer_there src f =
    if is_digit src f.next && f.value * 10 + digit_at src f.next ≤? 4294967295 then Some (found (f.value * 10 + digit_at src f.next) (f.next + 1))
    else None
