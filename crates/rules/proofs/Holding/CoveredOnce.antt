-- Why covered frames fit 32 bits where the tables' words do, why holders stay before the title's end and what that is in per cent, and why no two
-- of them share a frame where all of them write.
use Prim.Native.Nat.{ℕ, zero, suc, ◌≤◌, ◌<◌}
use mathlib.Core.Path.{◌≡◌}
use mathlib.Core.Bool.{Bool}
use mathlib.Core.List.{List}
use mathlib.Core.Logic.{◌≢◌}
use native.Mathlib.Nat.{div-le_of_le-mul, mul-div_cancel}
use native.Mathlib.Omega.{arith}
use Rattle.rules.specs.Tables.{Tables, node_word, title, own, end_at}
use Rattle.rules.specs.Reached.{Reached}
use Rattle.rules.specs.Apart.{claim_of_seat, Holds}
use Rattle.rules.specs.Covered.{HolderCovers, In32Bits}
use Rattle.rules.specs.Title.{AllWithin, per_cent}
use Rattle.rules.proofs.Keeping.CallKeeps.{good}
use Rattle.rules.proofs.Holding.Exclusion.{both_read_law}

word_fits : (sheet : Bool) (words : List ℕ) → In32Bits words → (a f : ℕ) → node_word sheet words a f ≤ 4294967295
unfolding node_word
word_fits sheet words fit zero f = omega arith
word_fits sheet words fit (suc a) f = fit _

pub ends_in_32_bits : (t : Tables) → In32Bits t.nodes → (s frame : ℕ) → HolderCovers t s frame → frame < 4294967295
ends_in_32_bits t words s frame h =
    let e = word_fits t.sheet t.nodes words (own t s) end_at in
    let c = h.2.1 in
    omega arith

pub ends_in_title : (t : Tables) → AllWithin t → (s frame : ℕ) → HolderCovers t s frame → frame < title t
ends_in_title t w s frame h =
    let e = w.within (own t s) in
    let c = h.2.1 in
    omega arith

pub per_cent_small : (covered frames : ℕ) → covered ≤ frames → per_cent covered frames ≤ 100
per_cent_small covered frames h = div-le_of_le-mul frames (omega arith)

pub per_cent_whole : (frames : ℕ) → 1 ≤ frames → per_cent frames frames ≡ 100
per_cent_whole frames h = mul-div_cancel 100 h

pub writers_apart : {N S : ℕ} {t : Tables} → Reached N S t → ((s : ℕ) → Holds t s → (claim_of_seat t s).kind ≡ 2)
    → (i j frame : ℕ) → i ≢ j → HolderCovers t i frame → HolderCovers t j frame → ⊥
writers_apart r writers i j frame d hi hj =
    let read = (both_read_law (good r).inv i j frame d hi.1 hj.1 hi.2.0 hi.2.1 hj.2.0 hj.2.1).0 in
    let write = writers i hi.1 in
    omega arith
