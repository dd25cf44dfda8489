-- N, S, K and the title of what is read are within their bounds, and there are 1,000 rows, whatever the bytes.
use Rattle.std.specs.Prelude.{Some, Ok, if◌then◌else◌}
use Prim.Native.Nat.{ℕ, zero, suc, ◌+◌, ◌≤◌}
use native.Mathlib.Omega.{arith}
use mathlib.Core.List.{List}
use mathlib.Core.Bool.{Bool, true, false}
use mathlib.Core.Path.{◌≡◌, refl, sym, subst, ◌∙◌}
use lib.ListN.{set, length, length-set, length-replicate}
use borrow.Author.Tests.{leb-true, eqb-false}
use Rattle.rules.specs.Notation.{◌is◌, ◌≤?◌, ◌<?◌}
use Rattle.rules.specs.declared.Line.{Line}
use Rattle.rules.specs.declared.Contents.{Contents}
use Rattle.rules.specs.declared.Script.{Script}
use Rattle.rules.specs.Means.{means_script}
use Rattle.rules.specs.Script.{nowhere, no_line, no_lines, body_at, in_bounds, contents_of, bad_at, good_script, bodies_from, read_script}
use Rattle.rules.proofs.Ground.Logic.{all6, branch}
use Rattle.script.specs.Bounded.{Bounded, ReadOrRefused}
use Rattle.script.specs.There.{contents_there}
use Rattle.script.proofs.Reading.{found_it}

-- line 1 found right
record Top (n s k title : ℕ) : Type 0 where
  some_nodes : 1 ≤ n
  nodes : n ≤ 256
  some_seats : 1 ≤ s
  seats : s ≤ 64
  calls : k ≤ 1000
  some_frames : 1 ≤ title

in_bounds_law : (n s k title next w : ℕ) (b : Bool) → in_bounds n s k title ≡ b → ((if b then next else w) ≡ w → ⊥) → Top n s k title
unfolding in_bounds
in_bounds_law n s k title next w true e h =
    let w = all6 (1 ≤? n) (n ≤? 256) (1 ≤? s) (s ≤? 64) (k ≤? 1000) (1 ≤? title) e in
    record {
      some_nodes = leb-true 1 n w.0;
      nodes = leb-true n 256 w.1;
      some_seats = leb-true 1 s w.2;
      seats = leb-true s 64 w.3;
      calls = leb-true k 1000 w.4;
      some_frames = leb-true 1 title w.5;
    }
in_bounds_law n s k title next w false e h = absurd (h refl)

abbrev Right : Contents → Type 0
Right top = Top top.n top.s top.k top.title

contents_bounded : (src : List ℕ) → ((contents_of src).next ≡ nowhere src → ⊥) → Right (contents_of src)
unfolding contents_of
contents_bounded src h = in_bounds_law _ _ _ _ _ _ _ refl h

-- the form in which `read` asks it
pub contents_calls : (src : List ℕ) (top : Contents) → Some top ≡ contents_there src (contents_of src) → top.k ≤ 1000
contents_calls src top e = let w = found_it src _ _ top e in rw w.0 (contents_bounded src w.1).calls

-- ---- what is read of any bytes
no_lines_length : length no_lines ≡ 1000
no_lines_length = length-replicate 1000 no_line

bad_within : (wrong : ℕ) → ReadOrRefused (bad_at wrong)
unfolding bad_at
bad_within wrong = record {
  nodes = omega arith;
  seats = omega arith;
  calls = omega arith;
  rows = no_lines_length;
  some_nodes = λ e. absurd (omega arith);
  some_seats = λ e. absurd (omega arith);
  some_frames = λ e. absurd (omega arith);
}

good_within : (top : Contents) (rows : List Line) → Right top → length rows ≡ 1000 → ReadOrRefused (good_script top rows)
unfolding good_script
good_within top rows h e = record {
  nodes = h.nodes;
  seats = h.seats;
  calls = h.calls;
  rows = e;
  some_nodes = λ z. h.some_nodes;
  some_seats = λ z. h.some_seats;
  some_frames = λ z. h.some_frames;
}

bodies_within : (src : List ℕ) (top : Contents) (left i at : ℕ) (rows : List Line) → Right top → length rows ≡ 1000 → ReadOrRefused (bodies_from src top left i at rows)
unfolding bodies_from
bodies_within src top zero i at rows h e =
    branch ReadOrRefused (at is length src) (λ f. good_within top rows h e) (λ f. bad_within (i + 2))
bodies_within src top (suc left) i at rows h e =
    branch ReadOrRefused ((body_at src at).next is nowhere src) (λ f. bad_within (i + 2))
    (λ f. bodies_within src top left (i + 1) (body_at src at).next (set rows i (body_at src at).line) h (length-set rows i (body_at src at).line ∙ e))

pub read_or_refused : (src : List ℕ) → ReadOrRefused (read_script src)
unfolding read_script
read_or_refused src =
    branch ReadOrRefused (16384 <? length src) (λ f. bad_within 0)
    (λ f. branch ReadOrRefused ((contents_of src).next is nowhere src) (λ f. bad_within 1)
    (λ f. bodies_within src (contents_of src) _ _ _ _ (contents_bounded src (eqb-false (contents_of src).next (nowhere src) f)) no_lines_length))

pub read_rows : (src : List ℕ) → (read_script src).refusal ≡ 0 → length (read_script src).rows ≡ 1000
read_rows src e = (read_or_refused src).rows

-- ---- a script that is not refused, as the code gives it
pub read_bounded : (src : List ℕ) (script : Script) → means_script (Ok script) ≡ read_script src → Bounded script
read_bounded src script e =
    let w = subst ReadOrRefused (sym e) (read_or_refused src) in
    record {
      nodes = w.nodes;
      seats = w.seats;
      calls = w.calls;
      rows = w.rows;
      some_nodes = w.some_nodes refl;
      some_seats = w.some_seats refl;
      some_frames = w.some_frames refl;
    }
