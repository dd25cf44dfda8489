-- A place is made for a run: the law of the way along which runs move back, once for both sides; and where `put_below` and `put_above` are
-- on theirs.
use Prim.Native.Nat.{ℕ, suc, ◌+◌, ◌-◌, ◌≤◌, ◌<◌}
use mathlib.Core.Path.{◌≡◌, refl, ap, ◌∙◌}
use mathlib.Core.List.{List}
use native.Mathlib.Omega.{arith}
use native.Mathlib.Decide.{ℕ_discrete}
use lib.ListN.{get_or, set, length, length-set}
use lib.Seq.{get_or-set_same, get_or-set_other}
use Rattle.covering.specs.Moving.{up_from, down_from, Lower, Higher, Ends, Moved, Put}

moved_none : (place : ℕ → ℕ) (InWay : ℕ → Type 0) (runs : List ℕ) → Moved place InWay runs 0 runs
moved_none place InWay runs = record {
  same_length = refl;
  in_way = λ j h. absurd (omega arith);
  back = λ j h. absurd (omega arith);
  rest = λ i d. refl;
}

module _ (place : ℕ → ℕ) (InWay : ℕ → Type 0) (before : List ℕ) (long : length before ≡ 128) (ends : Ends place InWay before)
    (moved : ℕ) (runs : List ℕ) (m : Moved place InWay before moved runs) where
  -- the one that is not in the way has not been passed
  moved_few : moved ≤ ends.at
  moved_few =
      let passed : ends.at < moved → ⊥ = λ h. ends.not_in_way (m.in_way ends.at h) in
      omega (arith, passed)

  open_there : place moved < length runs
  open_there = let h = moved_few in let l = m.same_length in let w = ends.there moved (omega arith) in omega arith

  -- the next one stands where it stood
  next_stays : get_or runs (place (suc moved)) 0 ≡ get_or before (place (suc moved)) 0
  next_stays =
      let h = moved_few in
      m.rest (place (suc moved)) (λ j k e. let z = ends.differ (suc moved) j (omega arith) (omega arith) e in omega arith)

  -- a store in the open place touches none that has moved, and none of the others
  stored : (v : ℕ) → Moved place InWay before moved (set runs (place moved) v)
  stored v =
      let h = moved_few in
      record {
        same_length = length-set runs (place moved) v ∙ m.same_length;
        in_way = m.in_way;
        back = λ j k.
            get_or-set_other runs (place moved) (place j) v 0 (λ e. let z = ends.differ j moved (omega arith) (omega arith) e in omega arith)
            ∙ m.back j k;
        rest = λ i d. get_or-set_other runs (place moved) i v 0 (λ e. d moved (omega arith) e) ∙ m.rest i d;
      }

  module _ (next : ℕ) (is_next_here : next ≡ get_or runs (place (suc moved)) 0) where
    -- it moves back, and leaves its own place open
    moved_more : InWay next → Moved place InWay before (suc moved) (set runs (place moved) next)
    moved_more w = record {
      same_length = (stored next).same_length;
      in_way = λ j h. elim (ℕ_discrete j moved) [
        | yes z ↦ rw (z, ← next_stays, ← is_next_here) w
        | no z ↦ m.in_way j (omega arith)
      ];
      back = λ j h. elim (ℕ_discrete j moved) [
        | yes z ↦ rw z (get_or-set_same runs (place moved) next 0 open_there ∙ is_next_here ∙ next_stays)
        | no z ↦ (stored next).back j (omega arith)
      ];
      rest = λ i d. (stored next).rest i (λ j k. d j (omega arith));
    }

    -- or it is not in the way, and the run is put before it
    moved_done : (run : ℕ) → (InWay next → ⊥) → Put place InWay before run (set runs (place moved) run)
    moved_done run w = record {
      moved = moved;
      way = stored run;
      put = get_or-set_same runs (place moved) run 0 open_there;
      next_to = λ h. w (rw (is_next_here, next_stays) h);
    }

-- ---- upwards: the place before `at` is open
pub record Lowering (before : List ℕ) (low run : ℕ) (runs : List ℕ) (at : ℕ) : Type 0 where
  pub from_low : low ≤ at
  pub there : at < 128
  pub way : Moved (up_from low) (Lower run) before (at - low) runs

module _ (before : List ℕ) (low run : ℕ) (first : 1 ≤ low) (long : length before ≡ 128) (ends : Ends (up_from low) (Lower run) before) where
  lowering : (runs : List ℕ) (at : ℕ) → low ≤ at → Moved (up_from low) (Lower run) before (at - low) runs → Lowering before low run runs at
  lowering runs at a m =
      let few = moved_few (up_from low) (Lower run) before long ends (at - low) runs m in
      let w = ends.there (suc (at - low)) (omega arith) in
      record { from_low = a; there = omega arith; way = m }

  pub lowering_none : Lowering before low run before low
  lowering_none =
      let z : low - low ≡ 0 = omega arith in
      lowering before low (omega arith) (rw z (moved_none (up_from low) (Lower run) before))

  module _ (runs : List ℕ) (at : ℕ) (l : Lowering before low run runs at) (next : ℕ) (is_next_here : next ≡ get_or runs at 0) where
    open_below : at - 1 ≡ up_from low (at - low)
    open_below = let a = l.from_low in omega arith

    is_next : next ≡ get_or runs (up_from low (suc (at - low))) 0
    is_next = let a = l.from_low in let e : at ≡ up_from low (suc (at - low)) = omega arith in is_next_here ∙ ap (λ (i : ℕ). get_or runs i 0) e

    pub lowering_more : next < run → Lowering before low run (set runs (at - 1) next) (at + 1)
    lowering_more h =
        let a = l.from_low in
        let e : at + 1 - low ≡ suc (at - low) = omega arith in
        lowering (set runs (at - 1) next) (at + 1) (omega arith)
        (rw (e, open_below) (moved_more (up_from low) (Lower run) before long ends (at - low) runs l.way next is_next h))

    pub lowering_done : run ≤ next → Put (up_from low) (Lower run) before run (set runs (at - 1) run)
    lowering_done h = rw open_below (moved_done (up_from low) (Lower run) before long ends (at - low) runs l.way next is_next run (λ k. omega arith))

-- ---- downwards: `at` is open
pub record Raising (before : List ℕ) (high run : ℕ) (runs : List ℕ) (at : ℕ) : Type 0 where
  pub from_high : at ≤ high
  pub some : 1 ≤ at
  pub way : Moved (down_from high) (Higher run) before (high - at) runs

module _ (before : List ℕ) (high run : ℕ) (last : high < 128) (long : length before ≡ 128) (ends : Ends (down_from high) (Higher run) before) where
  -- below the lowest place there would be no next one to differ from it
  raising : (runs : List ℕ) (at : ℕ) → at ≤ high → Moved (down_from high) (Higher run) before (high - at) runs → Raising before high run runs at
  raising runs at a m =
      let few = moved_few (down_from high) (Higher run) before long ends (high - at) runs m in
      let lowest : at ≡ 0 → ⊥ = λ z. let d = ends.differ (suc (high - at)) (high - at) (omega arith) (omega arith) (omega arith) in omega arith in
      record { from_high = a; some = omega (arith, lowest); way = m }

  pub raising_none : Raising before high run before high
  raising_none =
      let z : high - high ≡ 0 = omega arith in
      raising before high (omega arith) (rw z (moved_none (down_from high) (Higher run) before))

  module _ (runs : List ℕ) (at : ℕ) (l : Raising before high run runs at) (next : ℕ) (is_next_here : next ≡ get_or runs (at - 1) 0) where
    open_here : at ≡ down_from high (high - at)
    open_here = let a = l.from_high in omega arith

    is_below : next ≡ get_or runs (down_from high (suc (high - at))) 0
    is_below =
        let a = l.from_high in
        let s = l.some in
        let e : at - 1 ≡ down_from high (suc (high - at)) = omega arith in
        is_next_here ∙ ap (λ (i : ℕ). get_or runs i 0) e

    pub raising_more : run < next → Raising before high run (set runs at next) (at - 1)
    raising_more h =
        let a = l.from_high in
        let s = l.some in
        let e : high - (at - 1) ≡ suc (high - at) = omega arith in
        raising (set runs at next) (at - 1) (omega arith)
        (rw (e, ap (λ (i : ℕ). set runs i next) open_here) (moved_more (down_from high) (Higher run) before long ends (high - at) runs l.way next is_below h))

    pub raising_done : next ≤ run → Put (down_from high) (Higher run) before run (set runs at run)
    raising_done h =
        rw (ap (λ (i : ℕ). set runs i run) open_here)
        (moved_done (down_from high) (Higher run) before long ends (high - at) runs l.way next is_below run (λ k. omega arith))
