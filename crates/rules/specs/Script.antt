-- What a script is: its bytes, read from left to right. A reader is given a place and says what stands there and the place
-- after it. There is one way to say that a thing is not there: the place after it is `nowhere`, past the end of the script. No
-- byte stands there, so whatever is looked for next is not there either, and the line ends nowhere: it is wrong.
use Rattle.std.specs.Prelude.{ℕ, zero, suc, ◌+◌, ◌*◌, ◌-◌, List, Bool, not, ◌&&◌, get_or, set, replicate, length, if◌then◌else◌}
use Rattle.rules.specs.Notation.{◌is◌, ◌≤?◌, ◌<?◌}
use Rattle.rules.specs.declared.Line.{Line}
use Rattle.rules.specs.declared.Found.{Found}
use Rattle.rules.specs.declared.Body.{Body}
use Rattle.rules.specs.declared.Contents.{Contents}

-- a script as read: refusal 10 and the line that is wrong, or N, S, K, the title's frame count and the rows. What a script does not fill is 0
pub record Script : Type 0 where
  pub refusal : ℕ
  pub wrong : ℕ
  pub n : ℕ
  pub s : ℕ
  pub k : ℕ
  pub title : ℕ
  pub rows : List Line

abbrev pub found : ℕ → ℕ → Found
found value next = record { value = value; next = next }

abbrev pub line : ℕ → ℕ → ℕ → ℕ → ℕ → Line
line code seat start end kind = record { code = code; seat = seat; start = start; end = end; kind = kind }

abbrev pub nowhere : List ℕ → ℕ
nowhere src = length src + 1

-- the byte at a place; past the end 0, which is no digit, space, letter or LF
unfoldable pub byte_at : List ℕ → ℕ → ℕ
byte_at src at = get_or src at 0

-- ---- "Decimal numbers up to 4,294,967,295, no leading zeros except 0 alone"

unfoldable pub is_digit : List ℕ → ℕ → Bool
is_digit src at = 48 ≤? byte_at src at && byte_at src at ≤? 57

unfoldable pub digit_at : List ℕ → ℕ → ℕ
digit_at src at = byte_at src at - 48

-- up to `left` digits more, after a value already read. A number ends before what is no digit, and before a digit that would
-- bring it above 4,294,967,295: the line is then wrong, since neither a space nor LF follows.
unfoldable pub digits_from : List ℕ → ℕ → ℕ → ℕ → Found
digits_from src zero at value = found value at
digits_from src (suc left) at value =
    if is_digit src at && value * 10 + digit_at src at ≤? 4294967295 then digits_from src left (at + 1) (value * 10 + digit_at src at)
    else found value at

-- 0 alone, or a first digit and up to nine more
unfoldable pub number_at : List ℕ → ℕ → Found
number_at src at =
    if not (is_digit src at) then found 0 (nowhere src)
    else if digit_at src at is 0 then found 0 (at + 1)
    else digits_from src 9 (at + 1) (digit_at src at)

-- ---- "single spaces; each line ends in LF"

-- a space and a number
unfoldable pub field_at : List ℕ → ℕ → Found
field_at src at =
    if byte_at src at is 32 then number_at src (at + 1)
    else found 0 (nowhere src)

-- the place after LF
unfoldable pub line_end : List ℕ → ℕ → ℕ
line_end src at =
    if byte_at src at is 10 then at + 1
    else nowhere src

-- ---- "Line 1 is the contents: N S K, N and S within their bounds, K from 0 to 1,000.", and 02 (iii): "the script's first line gets" the title's
-- frame count, "1 to 4,294,967,295", "as a fourth number". A number of a script is never above that
unfoldable pub in_bounds : ℕ → ℕ → ℕ → ℕ → Bool
in_bounds n s k title = 1 ≤? n && n ≤? 256 && 1 ≤? s && s ≤? 64 && k ≤? 1000 && 1 ≤? title

unfoldable pub contents_of : List ℕ → Contents
contents_of src =
    let n = number_at src 0 in
    let s = field_at src n.next in
    let k = field_at src s.next in
    let title = field_at src k.next in
    record {
      n = n.value;
      s = s.value;
      k = k.value;
      title = title.value;
      next = if in_bounds n.value s.value k.value title.value then line_end src title.next else nowhere src;
    }

-- ---- "Then K bodies: .. `s seat`, `r seat`." 02 (vii): "`v`, fields as in `b`, and `e seat` replace `b`", which was `b seat start end kind`. "each a code
-- (b 1, s 2, r 3) and four numbers": `v` has b's code, and `e` the next, 4
abbrev pub body : Line → ℕ → Body
body line next = record { line = line; next = next }

unfoldable pub reserve_line : List ℕ → ℕ → Body
reserve_line src at =
    let seat = field_at src at in
    let start = field_at src seat.next in
    let end = field_at src start.next in
    let kind = field_at src end.next in
    body (line 1 seat.value start.value end.value kind.value) (line_end src kind.next)

unfoldable pub seat_line : List ℕ → ℕ → ℕ → Body
seat_line src code at =
    let seat = field_at src at in
    body (line code seat.value 0 0 0) (line_end src seat.next)

abbrev pub no_line : Line
no_line = line 0 0 0 0 0

-- 118 is `v`, 115 is `s`, 114 is `r`, 101 is `e`
unfoldable pub body_at : List ℕ → ℕ → Body
body_at src at =
    if byte_at src at is 118 then reserve_line src (at + 1)
    else if byte_at src at is 115 then seat_line src 2 (at + 1)
    else if byte_at src at is 114 then seat_line src 3 (at + 1)
    else if byte_at src at is 101 then seat_line src 4 (at + 1)
    else body no_line (nowhere src)

-- ---- the whole: "gives N, S, K and 1,000 rows by value .. what a script does not fill is 0"; the title's frame count stands after K, as on line 1
abbrev pub no_lines : List Line
no_lines = replicate 1000 no_line

-- | 10 | script not well formed |, and the line
unfoldable pub bad_at : ℕ → Script
bad_at wrong = record { refusal = 10; wrong = wrong; n = 0; s = 0; k = 0; title = 0; rows = no_lines }

unfoldable pub good_script : Contents → List Line → Script
good_script top rows = record { refusal = 0; wrong = 0; n = top.n; s = top.s; k = top.k; title = top.title; rows = rows }

-- `left` bodies are still to be read from a place on, i are read and stand in `rows`. "L the first wrong line from 1 (a missing
-- line has the number it would have, an extra one K + 2)": body i, from 0, is line i + 2. "nothing follows"
unfoldable pub bodies_from : List ℕ → Contents → ℕ → ℕ → ℕ → List Line → Script
bodies_from src top zero i at rows =
    if at is length src then good_script top rows
    else bad_at (i + 2)
bodies_from src top (suc left) i at rows =
    if (body_at src at).next is nowhere src then bad_at (i + 2)
    else bodies_from src top left (i + 1) (body_at src at).next (set rows i (body_at src at).line)

-- "At most 16,384 bytes. .. `bad 0` if too long, which is looked at first."
unfoldable pub read_script : List ℕ → Script
read_script src =
    if 16384 <? length src then bad_at 0
    else if (contents_of src).next is nowhere src then bad_at 1
    else bodies_from src (contents_of src) (contents_of src).k 0 (contents_of src).next no_lines
