-- What `soodhiqune_read` returns and leaves tells the whole script: N, S, K, the title and every row, or the line that is wrong.
use Prim.Native.Nat.{ℕ, zero, suc, ◌+◌, ◌≤◌, ◌<◌}
use native.Mathlib.Omega.{arith}
use mathlib.Core.List.{List, [], ◌∷◌}
use mathlib.Core.Logic.{◌≢◌}
use mathlib.Core.Path.{◌≡◌, refl, sym, ap, ◌∙◌}
use lib.ListN.{length, get_or, set, take, length-set}
use lib.Seq.{get_or-set_same, get_or-set_other, take-suc, take_all}
use Rattle.rules.specs.Notation.{◌is◌, ◌<?◌}
use Rattle.rules.specs.Script.{nowhere, no_line, body_at, contents_of, bad_at, good_script, bodies_from, read_script}
use Rattle.rules.specs.declared.Line.{Line}
use Rattle.rules.specs.declared.Contents.{Contents}
use Rattle.rules.specs.Script.{Script}
use Rattle.rules.proofs.Ground.Logic.{branch}
use Rattle.script.proofs.Bounds.{read_rows}
use Rattle.boundary.specs.Encoded.{halves, halves_of, put_line, put_top_line, row_at, lines_after, script_numbers, ReadAs, read_as, encode_script}
use Rattle.boundary.specs.Decoded.{line_at, lines_in, script_in, decode_script}
use Rattle.boundary.proofs.Codes.{lines_length, top_length, script_length}
use Rattle.boundary.proofs.Told.{Tells}
use Rattle.boundary.proofs.soodhiqune_read.Reads as read
use Rattle.boundary.proofs.soodhiqune_read.Kinds as kinds

-- a number that was put, in a list whose length is known from before
put_back : (n : ℕ) (l : List ℕ) (i v : ℕ) → length l ≡ n → i < n → get_or (set l i v) i 0 ≡ v
put_back n l i v e h = get_or-set_same l i v 0 (rw e h)

-- ---- a row that was put is read back, and no number before it has changed
module _ (l : List ℕ) (at : ℕ) (line : Line) where
  kept : (j : ℕ) → j < at → get_or (put_line l at line) j 0 ≡ get_or l j 0
  unfolding put_line
  kept j h =
      let h0 : j ≢ at = λ e. omega arith in
      let h1 : j ≢ at + 1 = λ e. omega arith in
      let h2 : j ≢ at + 2 = λ e. omega arith in
      let h3 : j ≢ at + 3 = λ e. omega arith in
      let h4 : j ≢ at + 4 = λ e. omega arith in
      simp get_or-set_other

  row_kept : (at' : ℕ) → at' + 4 < at → line_at (put_line l at line) at' ≡ line_at l at'
  unfolding line_at
  row_kept at' h =
      rw (kept at' (omega arith), kept (at' + 1) (omega arith), kept (at' + 2) (omega arith), kept (at' + 3) (omega arith), kept (at' + 4) h)

  row_back : at + 5 ≤ length l → line_at (put_line l at line) at ≡ line
  unfolding line_at put_line
  row_back h =
      let f0 : at < length l = omega arith in
      let f1 : at + 1 < length l = omega arith in
      let f2 : at + 2 < length l = omega arith in
      let f3 : at + 3 < length l = omega arith in
      let f4 : at + 4 < length l = omega arith in
      let h01 : at ≢ at + 1 = λ e. omega arith in
      let h02 : at ≢ at + 2 = λ e. omega arith in
      let h03 : at ≢ at + 3 = λ e. omega arith in
      let h04 : at ≢ at + 4 = λ e. omega arith in
      let h12 : at + 1 ≢ at + 2 = λ e. omega arith in
      let h13 : at + 1 ≢ at + 3 = λ e. omega arith in
      let h14 : at + 1 ≢ at + 4 = λ e. omega arith in
      let h23 : at + 2 ≢ at + 3 = λ e. omega arith in
      let h24 : at + 2 ≢ at + 4 = λ e. omega arith in
      let h34 : at + 3 ≢ at + 4 = λ e. omega arith in
      simp (get_or-set_other, put_back (length l), length-set)

-- ---- so are all of them
rows_kept : (n k : ℕ) (l : List ℕ) (line : Line) → n ≤ k → lines_in n (put_line l (row_at k) line) ≡ lines_in n l
unfolding lines_in
rows_kept zero k l line h = refl
rows_kept (suc n) k l line h = rw (rows_kept n k l line (omega arith), row_kept l (row_at k) line (row_at n) (omega arith))

rows_back : (n : ℕ) (l : List ℕ) (rows : List Line) → row_at n ≤ length l → n ≤ length rows → lines_in n (lines_after n l rows) ≡ take n rows
unfolding lines_in lines_after
rows_back zero l rows h k = refl
rows_back (suc n) l rows h k =
    let fits : row_at n + 5 ≤ length (lines_after n l rows) = rw (lines_length n l rows) (omega arith) in
    rw (
      rows_kept n n (lines_after n l rows) (get_or rows n no_line) (omega arith),
      row_back (lines_after n l rows) (row_at n) (get_or rows n no_line) fits,
      rows_back n l rows (omega arith) (omega arith),
      take-suc rows n no_line,
    )

top_kept : (n : ℕ) (l : List ℕ) (rows : List Line) (j : ℕ) → j < 4 → get_or (lines_after n l rows) j 0 ≡ get_or l j 0
unfolding lines_after
top_kept zero l rows j h = refl
top_kept (suc n) l rows j h = kept (lines_after n l rows) (row_at n) (get_or rows n no_line) j (omega arith) ∙ top_kept n l rows j h

top_back : (l : List ℕ) (a b c d : ℕ) → 4 ≤ length l → (get_or (put_top_line l a b c d) 0 0 ≡ a) × (get_or (put_top_line l a b c d) 1 0 ≡ b) × (get_or (put_top_line l a b c d) 2 0 ≡ c) × (get_or (put_top_line l a b c d) 3 0 ≡ d)
unfolding put_top_line
top_back [] a b c d h = absurd (omega arith)
top_back (x ∷ []) a b c d h = absurd (omega arith)
top_back (x ∷ y ∷ []) a b c d h = absurd (omega arith)
top_back (x ∷ y ∷ z ∷ []) a b c d h = absurd (omega arith)
top_back (x ∷ y ∷ z ∷ v ∷ l) a b c d h = (refl, refl, refl, refl)

-- ---- a script as read has no wrong line, or nothing but one
data AsRead : Script → Type 0 where
  good : {script : Script} → script.refusal ≡ 0 → script.wrong ≡ 0 → AsRead script
  bad : (wrong : ℕ) → AsRead (bad_at wrong)

bodies_read : (src : List ℕ) (top : Contents) (left i at : ℕ) (rows : List Line) → AsRead (bodies_from src top left i at rows)
unfolding bodies_from good_script
bodies_read src top zero i at rows = branch AsRead (at is length src) (λ e. good refl refl) (λ e. bad (i + 2))
bodies_read src top (suc left) i at rows =
    branch AsRead ((body_at src at).next is nowhere src) (λ e. bad (i + 2))
    (λ e. bodies_read src top left (i + 1) (body_at src at).next (set rows i (body_at src at).line))

as_read : (src : List ℕ) → AsRead (read_script src)
unfolding read_script
as_read src =
    branch AsRead (16384 <? length src) (λ e. bad 0)
    (λ e. branch AsRead ((contents_of src).next is nowhere src) (λ f. bad 1) (λ f. bodies_read src (contents_of src) _ _ _ _))

-- ---- so the whole script is read back
same_script : (x y : Script) → x.refusal ≡ y.refusal → x.wrong ≡ y.wrong → x.n ≡ y.n → x.s ≡ y.s → x.k ≡ y.k → x.title ≡ y.title → x.rows ≡ y.rows → x ≡ y
same_script x y p q a b c d e = λ i. record { refusal = p i; wrong = q i; n = a i; s = b i; k = c i; title = d i; rows = e i }

numbers_back : (script : Script) (lent : List ℕ) → script.refusal ≡ 0 → script.wrong ≡ 0 → length script.rows ≡ 1000 → length lent ≡ 5004 → script_in (script_numbers script lent) ≡ script
unfolding script_in script_numbers
numbers_back script lent r w n m =
    let l = put_top_line lent script.n script.s script.k script.title in
    let long : length l ≡ 5004 = top_length lent script.n script.s script.k script.title ∙ m in
    let top = top_back lent script.n script.s script.k script.title (omega arith) in
    same_script _ script (sym r) (sym w)
    (top_kept 1000 l script.rows 0 (omega arith) ∙ top.0)
    (top_kept 1000 l script.rows 1 (omega arith) ∙ top.1)
    (top_kept 1000 l script.rows 2 (omega arith) ∙ top.2)
    (top_kept 1000 l script.rows 3 (omega arith) ∙ top.3)
    (rows_back 1000 l script.rows (omega arith) (omega arith) ∙ take_all 1000 script.rows (omega arith))

script_back : {script : Script} (lent numbers : List ℕ) (r : ℕ) → AsRead script → (script.refusal ≡ 0 → length script.rows ≡ 1000) → read_as (halves_of r) numbers ≡ encode_script script lent → length numbers ≡ 5004 → decode_script (halves_of r) numbers ≡ script
unfolding decode_script encode_script script_numbers bad_at
script_back {script} lent numbers r (good e w) n p m =
    let q : read_as (halves_of r) numbers ≡ read_as (halves 0 0) (script_numbers script lent) = rw e at p in
    let k : length numbers ≡ length lent = script_length lent numbers script.rows _ _ _ _ (ap (λ (x : ReadAs). x.numbers) q) in
    ap (λ (x : ReadAs). decode_script x.number x.numbers) q ∙ numbers_back script lent e w (n e) (omega arith)
script_back lent numbers r (bad wrong) n p m = ap (λ (x : ReadAs). decode_script x.number x.numbers) p

pub read_told : Tells kinds.ps kinds.r read.Post (λ κs args. read_script args.0.now) (λ κs r s. decode_script (halves_of r) s.1.0.now)
read_told κs args r s p = script_back _ _ r (as_read args.0.now) (read_rows args.0.now) p.0 p.1
