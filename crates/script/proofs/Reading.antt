-- Reading, one law for each way through the code: from what the code has seen at a place to what the definition says there.
-- Assumes nothing but the definitions of Script.
use Prim.Native.Nat.{ℕ, zero, suc, ◌+◌, ◌*◌, ◌-◌, ◌<◌, ◌≤◌}
use native.Mathlib.Omega.{arith}
use mathlib.Core.List.{List}
use mathlib.Core.Bool.{Bool, true, false, ◌&&◌}
use mathlib.Core.Path.{◌≡◌, refl, sym, ◌∙◌}
use lib.Dec.{leb}
use lib.ListN.{get_or, set, length, get_or-eq_default}
use borrow.Author.Tests.{lt-ltb, le-ltb, le-leb, lt-leb, eq-eqb, ne_eqb, eqb-true, eqb-false, ltb-true, ltb-false}
use Rattle.std.proofs.Common.{◌⊎◌, inl, inr}
use Rattle.std.specs.Prelude.{Option, Some, None, Ok, Err, slice_get, if◌then◌else◌}
use Rattle.std.specs.Option.{ok_or}
use Rattle.std.proofs.lemmas.Option.{slice_get_within, slice_get-get_or, get_or_from_slice_get}
use Rattle.rules.specs.Notation.{◌is◌, ◌≤?◌, ◌<?◌}
use Rattle.rules.specs.Script.{Script}
use Rattle.rules.specs.declared.Line.{Line}
use Rattle.rules.specs.declared.Wrong.{Wrong}
use Rattle.rules.specs.declared.Found.{Found}
use Rattle.rules.specs.declared.Body.{Body}
use Rattle.rules.specs.declared.Contents.{Contents}
use Rattle.rules.specs.Script.{found, nowhere, byte_at, is_digit, digit_at, digits_from, number_at, field_at, line_end, reserve_line, seat_line, body_at, body, line, in_bounds, contents_of, no_lines, bad_at, good_script, bodies_from, read_script}
use Rattle.rules.proofs.Ground.Logic.{branch, and_left}
use Rattle.script.specs.There.{there, found_there, place_there, body_there, contents_there, digit_there, longer_there}

-- ---- what is there, and what is not
module _ {A : Type 0} (src : List ℕ) (next : ℕ) (thing : A) where
  pub is_there : (next ≡ nowhere src → ⊥) → Some thing ≡ there src next thing
  unfolding there
  is_there h = rw (ne_eqb next (nowhere src) h)

  pub not_there : next ≡ nowhere src → None ≡ there src next thing
  unfolding there
  not_there e = rw (eq-eqb next (nowhere src) e)

  pub missing : None ≡ there src next thing → next ≡ nowhere src
  unfolding there
  missing = go (next is nowhere src) refl
    where
      go : (b : Bool) → (next is nowhere src) ≡ b → None ≡ (if b then None else Some thing) → next ≡ nowhere src
      go true e h = eqb-true next (nowhere src) e
      go false e h = absurd (cc)

  pub found_it : (x : A) → Some x ≡ there src next thing → (x ≡ thing) × (next ≡ nowhere src → ⊥)
  unfolding there
  found_it x = go (next is nowhere src) refl
    where
      go : (b : Bool) → (next is nowhere src) ≡ b → Some x ≡ (if b then None else Some thing) → (x ≡ thing) × (next ≡ nowhere src → ⊥)
      go true e h = absurd (cc)
      go false e h = (cc, eqb-false next (nowhere src) e)

-- ---- a byte
-- past the end there is none, and the rules read 0
past : (src : List ℕ) (at : ℕ) → None ≡ slice_get src at → byte_at src at ≡ 0
unfolding byte_at
past src at e = go (at <? length src) refl
  where
    go : (b : Bool) → (at <? length src) ≡ b → get_or src at 0 ≡ 0
    go true f = let h = slice_get-get_or src at 0 (ltb-true at (length src) f) in absurd (cc)
    go false f = get_or-eq_default src 0 (ltb-false at (length src) f)

module _ (src : List ℕ) (at : ℕ) (none : None ≡ slice_get src at) where
  pub digit_past : None ≡ digit_there src at
  unfolding digit_there is_digit
  digit_past = rw (past src at none)

  pub field_past : None ≡ found_there src (field_at src at)
  unfolding field_at
  field_past = rw (past src at none) (not_there src _ _ refl)

  pub end_past : None ≡ place_there src (line_end src at)
  unfolding line_end
  end_past = rw (past src at none) (not_there src _ _ refl)

  pub body_past : None ≡ body_there src (body_at src at)
  unfolding body_at
  body_past = rw (past src at none) (not_there src _ _ refl)

module _ (src : List ℕ) (at b : ℕ) (some : Some b ≡ slice_get src at) where
  pub byte_inside : at < length src
  byte_inside = slice_get_within src at b (sym some)

  is_byte : byte_at src at ≡ b
  unfolding byte_at
  is_byte = get_or_from_slice_get src at b 0 (sym some)

  pub digit_none : (b < 48) ⊎ (57 < b) → None ≡ digit_there src at
  unfolding digit_there is_digit
  digit_none (inl h) = rw (is_byte, lt-leb 48 b h)
  digit_none (inr h) = rw (is_byte, lt-leb b 57 h, le-leb 48 b (omega arith))

  pub digit_here : 48 ≤ b → b ≤ 57 → Some (b - 48) ≡ digit_there src at
  unfolding digit_there is_digit digit_at
  digit_here h i = rw (is_byte, le-leb b 57 i, le-leb 48 b h)

  pub field_here : (r : Option Found) → b ≡ 32 → r ≡ found_there src (number_at src (at + 1)) → r ≡ found_there src (field_at src at)
  unfolding field_at
  field_here r h e = rw (is_byte, eq-eqb b 32 h) e

  pub field_none : (b ≡ 32 → ⊥) → None ≡ found_there src (field_at src at)
  unfolding field_at
  field_none h = rw (is_byte, ne_eqb b 32 h) (not_there src _ _ refl)

  pub end_here : b ≡ 10 → Some (at + 1) ≡ place_there src (line_end src at)
  unfolding line_end
  end_here h = rw (is_byte, eq-eqb b 10 h) (is_there src _ _ (λ e. let i = byte_inside in omega arith))

  pub end_none : (b ≡ 10 → ⊥) → None ≡ place_there src (line_end src at)
  unfolding line_end
  end_none h = rw (is_byte, ne_eqb b 10 h) (not_there src _ _ refl)

  pub body_reserve : (r : Option Body) → b ≡ 118 → r ≡ body_there src (reserve_line src (at + 1)) → r ≡ body_there src (body_at src at)
  unfolding body_at
  body_reserve r h e = rw (is_byte, eq-eqb b 118 h) e

  pub body_step : (r : Option Body) → b ≡ 115 → r ≡ body_there src (seat_line src 2 (at + 1)) → r ≡ body_there src (body_at src at)
  unfolding body_at
  body_step r h e = rw (is_byte, ne_eqb b 118 (λ g. omega arith), eq-eqb b 115 h) e

  pub body_release : (r : Option Body) → b ≡ 114 → r ≡ body_there src (seat_line src 3 (at + 1)) → r ≡ body_there src (body_at src at)
  unfolding body_at
  body_release r h e = rw (is_byte, ne_eqb b 118 (λ g. omega arith), ne_eqb b 115 (λ g. omega arith), eq-eqb b 114 h) e

  pub body_enter : (r : Option Body) → b ≡ 101 → r ≡ body_there src (seat_line src 4 (at + 1)) → r ≡ body_there src (body_at src at)
  unfolding body_at
  body_enter r h e = rw (is_byte, ne_eqb b 118 (λ g. omega arith), ne_eqb b 115 (λ g. omega arith), ne_eqb b 114 (λ g. omega arith), eq-eqb b 101 h) e

  pub body_none : (b ≡ 118 → ⊥) → (b ≡ 115 → ⊥) → (b ≡ 114 → ⊥) → (b ≡ 101 → ⊥) → None ≡ body_there src (body_at src at)
  unfolding body_at
  body_none f g h i = rw (is_byte, ne_eqb b 118 f, ne_eqb b 115 g, ne_eqb b 114 h, ne_eqb b 101 i) (not_there src _ _ refl)

-- ---- a number
module _ (src : List ℕ) (at d : ℕ) (some : Some d ≡ digit_there src at) where
  stands : (is_digit src at ≡ true) × (d ≡ digit_at src at)
  unfolding digit_there
  stands = go (is_digit src at) refl some
    where
      go : (b : Bool) → is_digit src at ≡ b → Some d ≡ (if b then Some (digit_at src at) else None) → (is_digit src at ≡ true) × (d ≡ digit_at src at)
      go true e h = (e, cc)
      go false e h = absurd (cc)

-- ---- the digits of a number, and where they end
module _ (src : List ℕ) where
  no_digit : (at : ℕ) → None ≡ digit_there src at → is_digit src at ≡ false
  unfolding digit_there
  no_digit at = go (is_digit src at) refl
    where
      go : (b : Bool) → is_digit src at ≡ b → None ≡ (if b then Some (digit_at src at) else None) → is_digit src at ≡ false
      go true e h = absurd (cc)
      go false e h = e

  module _ (f : Found) where
    pub longer_none : None ≡ digit_there src f.next → None ≡ longer_there src f
    unfolding longer_there
    longer_none h = rw (no_digit f.next h)

    pub longer_big : (d : ℕ) → Some d ≡ digit_there src f.next → 4294967295 < f.value * 10 + d → None ≡ longer_there src f
    unfolding longer_there
    longer_big d h k = let s = stands src f.next d h in rw (s.0, ← s.1, lt-leb (f.value * 10 + d) 4294967295 k)

    pub longer_here : (d : ℕ) → Some d ≡ digit_there src f.next → f.value * 10 + d ≤ 4294967295 → Some (found (f.value * 10 + d) (f.next + 1)) ≡ longer_there src f
    unfolding longer_there
    longer_here d h k = let s = stands src f.next d h in rw (s.0, ← s.1, le-leb (f.value * 10 + d) 4294967295 k)

    digits_end : (left : ℕ) → None ≡ longer_there src f → f ≡ digits_from src left f.next f.value
    unfolding digits_from longer_there
    digits_end zero h = refl
    digits_end (suc left) h = go (is_digit src f.next && f.value * 10 + digit_at src f.next ≤? 4294967295) h
      where
        go : (b : Bool) → None ≡ (if b then Some (found (f.value * 10 + digit_at src f.next) (f.next + 1)) else None) → f ≡ (if b then digits_from src left (f.next + 1) (f.value * 10 + digit_at src f.next) else f)
        go true h = absurd (cc)
        go false h = refl

    digits_more : (left : ℕ) (more : Found) → Some more ≡ longer_there src f → digits_from src (suc left) f.next f.value ≡ digits_from src left more.next more.value
    unfolding digits_from longer_there
    digits_more left more h = go (is_digit src f.next && f.value * 10 + digit_at src f.next ≤? 4294967295) h
      where
        go : (b : Bool) → Some more ≡ (if b then Some (found (f.value * 10 + digit_at src f.next) (f.next + 1)) else None) → (if b then digits_from src left (f.next + 1) (f.value * 10 + digit_at src f.next) else f) ≡ digits_from src left more.next more.value
        go true h = let e : more ≡ found (f.value * 10 + digit_at src f.next) (f.next + 1) = cc in rw e refl
        go false h = absurd (cc)

  -- what is still to be read, of `all` digits, gives the whole, q
  module _ (q f : Found) (i all : ℕ) (rest : digits_from src (all - i) f.next f.value ≡ q) where
    pub digits_stop : None ≡ longer_there src f → f ≡ q
    digits_stop h = digits_end f (all - i) h ∙ rest

    pub digits_go : (more : Found) → Some more ≡ longer_there src f → i < all → digits_from src (all - (i + 1)) more.next more.value ≡ q
    digits_go more h k = let e : all - i ≡ suc (all - (i + 1)) = omega arith in sym (digits_more f _ more h) ∙ rw e at rest

    pub digits_full : all ≤ i → f ≡ q
    unfolding digits_from
    digits_full k = let e : all - i ≡ 0 = omega arith in rw e at rest

  -- where a digit stands, the script goes on
  pub digit_inside : (at d : ℕ) → Some d ≡ digit_there src at → at < length src
  unfolding is_digit byte_at
  digit_inside at d h = go (at <? length src) refl
    where
      go : (b : Bool) → (at <? length src) ≡ b → at < length src
      go true f = ltb-true at (length src) f
      go false f =
          let z : is_digit src at ≡ false = rw (get_or-eq_default src 0 (ltb-false at (length src) f)) in
          let s = stands src at d h in
          absurd (cc)

  digit_stands : (at : ℕ) → is_digit src at ≡ true → Some (digit_at src at) ≡ digit_there src at
  unfolding digit_there
  digit_stands at e = rw e

  -- so a number that begins ends no later than the script
  digits_within : (left at value : ℕ) → at ≤ length src → (digits_from src left at value).next ≤ length src
  unfolding digits_from
  digits_within zero at value h = h
  digits_within (suc left) at value h =
      branch (λ (f : Found). f.next ≤ length src) (is_digit src at && leb (value * 10 + digit_at src at) 4294967295)
      (λ e. digits_within left (at + 1) (value * 10 + digit_at src at)
      (let i = digit_inside at (digit_at src at) (digit_stands at (and_left (is_digit src at) (leb (value * 10 + digit_at src at) 4294967295) e)) in omega arith))
      (λ e. h)

  pub number_past : (at : ℕ) → None ≡ digit_there src at → None ≡ found_there src (number_at src at)
  unfolding number_at
  number_past at h = rw (no_digit at h) (not_there src _ _ refl)

  pub number_zero : (at d : ℕ) → Some d ≡ digit_there src at → d ≡ 0 → Some (found d (at + 1)) ≡ found_there src (number_at src at)
  unfolding number_at
  number_zero at d h e =
      let s = stands src at d h in
      let i = digit_inside at d h in
      rw (s.0, ← s.1, eq-eqb d 0 e, e) (is_there src _ _ (λ w. omega arith))

  pub number_digits : (at d : ℕ) (r : Found) → Some d ≡ digit_there src at → (d ≡ 0 → ⊥) → r ≡ digits_from src 9 (at + 1) d → Some r ≡ found_there src (number_at src at)
  unfolding number_at
  number_digits at d r h n e =
      let s = stands src at d h in
      let i = digit_inside at d h in
      let w = digits_within 9 (at + 1) d (omega arith) in
      rw (e, s.0, ← s.1, ne_eqb d 0 n) (is_there src _ _ (λ q. omega arith))

-- ---- lines: where a field is missing, so is what follows it, since nothing stands past the end
nothing_past : (src : List ℕ) (at : ℕ) → at ≡ nowhere src → byte_at src at ≡ 0
unfolding byte_at
nothing_past src at e = get_or-eq_default src 0 (omega arith)

field_on : (src : List ℕ) (at : ℕ) → at ≡ nowhere src → (field_at src at).next ≡ nowhere src
unfolding field_at
field_on src at e = rw (nothing_past src at e) refl

end_on : (src : List ℕ) (at : ℕ) → at ≡ nowhere src → line_end src at ≡ nowhere src
unfolding line_end
end_on src at e = rw (nothing_past src at e) refl

-- ---- four numbers one after another, of which the code has found the first ones, and the place after the line
module _ (src : List ℕ) (first : Found) where
  abbrev second : Found
  second = field_at src first.next

  abbrev third : Found
  third = field_at src second.next

  abbrev fourth : Found
  fourth = field_at src third.next

  abbrev last : ℕ
  last = line_end src fourth.next

  no_first : None ≡ found_there src first → last ≡ nowhere src
  no_first a = end_on src _ (field_on src _ (field_on src _ (field_on src _ (missing src _ _ a))))

  module _ (f : Found) (a : Some f ≡ found_there src first) where
    is_first : f ≡ first
    is_first = (found_it src _ _ f a).0

    no_second : None ≡ found_there src (field_at src f.next) → last ≡ nowhere src
    no_second b = end_on src _ (field_on src _ (field_on src _ (rw is_first at (missing src _ _ b))))

    module _ (g : Found) (b : Some g ≡ found_there src (field_at src f.next)) where
      is_second : g ≡ second
      is_second = (found_it src _ _ g b).0 ∙ rw is_first

      no_third : None ≡ found_there src (field_at src g.next) → last ≡ nowhere src
      no_third c = end_on src _ (field_on src _ (rw is_second at (missing src _ _ c)))

      module _ (h : Found) (c : Some h ≡ found_there src (field_at src g.next)) where
        is_third : h ≡ third
        is_third = (found_it src _ _ h c).0 ∙ rw is_second

        no_fourth : None ≡ found_there src (field_at src h.next) → last ≡ nowhere src
        no_fourth d = end_on src _ (rw is_third at (missing src _ _ d))

        module _ (k : Found) (d : Some k ≡ found_there src (field_at src h.next)) where
          is_fourth : k ≡ fourth
          is_fourth = (found_it src _ _ k d).0 ∙ rw is_third

          no_last : None ≡ place_there src (line_end src k.next) → last ≡ nowhere src
          no_last e = rw is_fourth at (missing src _ _ e)

          is_last : (next : ℕ) → Some next ≡ place_there src (line_end src k.next) → (next ≡ last) × (last ≡ nowhere src → ⊥)
          is_last next e = rw is_fourth at (found_it src _ _ next e)

-- ---- `reserve seat start end kind`
module _ (src : List ℕ) (at : ℕ) where
  reserve_lost : last src (field_at src at) ≡ nowhere src → None ≡ body_there src (reserve_line src at)
  unfolding reserve_line
  reserve_lost e = not_there src _ _ e

  pub reserve_no_seat : None ≡ found_there src (field_at src at) → None ≡ body_there src (reserve_line src at)
  reserve_no_seat a = reserve_lost (no_first src (field_at src at) a)

  module _ (seat : Found) (a : Some seat ≡ found_there src (field_at src at)) where
    pub reserve_no_start : None ≡ found_there src (field_at src seat.next) → None ≡ body_there src (reserve_line src at)
    reserve_no_start b = reserve_lost (no_second src _ seat a b)

    module _ (start : Found) (b : Some start ≡ found_there src (field_at src seat.next)) where
      pub reserve_no_end : None ≡ found_there src (field_at src start.next) → None ≡ body_there src (reserve_line src at)
      reserve_no_end c = reserve_lost (no_third src _ seat a start b c)

      module _ (end : Found) (c : Some end ≡ found_there src (field_at src start.next)) where
        pub reserve_no_kind : None ≡ found_there src (field_at src end.next) → None ≡ body_there src (reserve_line src at)
        reserve_no_kind d = reserve_lost (no_fourth src _ seat a start b end c d)

        module _ (kind : Found) (d : Some kind ≡ found_there src (field_at src end.next)) where
          pub reserve_no_last : None ≡ place_there src (line_end src kind.next) → None ≡ body_there src (reserve_line src at)
          reserve_no_last e = reserve_lost (no_last src _ seat a start b end c kind d e)

          pub reserve_here : (next : ℕ) → Some next ≡ place_there src (line_end src kind.next) → Some (body (line 1 seat.value start.value end.value kind.value) next) ≡ body_there src (reserve_line src at)
          unfolding reserve_line
          reserve_here next e =
              let w = is_last src _ seat a start b end c kind d next e in
              rw (is_first src _ seat a, is_second src _ seat a start b, is_third src _ seat a start b end c, is_fourth src _ seat a start b end c kind d, w.0) (is_there src _ _ w.1)

-- ---- `step seat` and its like
module _ (src : List ℕ) (code at : ℕ) where
  pub seat_none : None ≡ found_there src (field_at src at) → None ≡ body_there src (seat_line src code at)
  unfolding seat_line
  seat_none a = not_there src _ _ (end_on src _ (missing src _ _ a))

  module _ (seat : Found) (a : Some seat ≡ found_there src (field_at src at)) where
    is_seat : seat ≡ field_at src at
    is_seat = (found_it src _ _ seat a).0

    pub seat_no_last : None ≡ place_there src (line_end src seat.next) → None ≡ body_there src (seat_line src code at)
    unfolding seat_line
    seat_no_last b = not_there src _ _ (rw is_seat at (missing src _ _ b))

    pub seat_here : (next : ℕ) → Some next ≡ place_there src (line_end src seat.next) → Some (body (line code seat.value 0 0 0) next) ≡ body_there src (seat_line src code at)
    unfolding seat_line
    seat_here next b =
        let w = rw is_seat at (found_it src _ _ next b) in
        rw (is_seat, w.0) (is_there src _ _ w.1)

-- ---- line 1
abbrev contents : ℕ → ℕ → ℕ → ℕ → ℕ → Contents
contents n s k title next = record { n = n; s = s; k = k; title = title; next = next }

module _ (src : List ℕ) where
  off : (b : Bool) (next : ℕ) → next ≡ nowhere src → (if b then next else nowhere src) ≡ nowhere src
  off true next e = e
  off false next e = refl

  contents_lost : last src (number_at src 0) ≡ nowhere src → None ≡ contents_there src (contents_of src)
  unfolding contents_of
  contents_lost e = not_there src _ _ (off _ _ e)

  pub contents_no_n : None ≡ found_there src (number_at src 0) → None ≡ contents_there src (contents_of src)
  contents_no_n a = contents_lost (no_first src (number_at src 0) a)

  module _ (n : Found) (a : Some n ≡ found_there src (number_at src 0)) where
    pub contents_no_s : None ≡ found_there src (field_at src n.next) → None ≡ contents_there src (contents_of src)
    contents_no_s b = contents_lost (no_second src _ n a b)

    module _ (s : Found) (b : Some s ≡ found_there src (field_at src n.next)) where
      pub contents_no_k : None ≡ found_there src (field_at src s.next) → None ≡ contents_there src (contents_of src)
      contents_no_k c = contents_lost (no_third src _ n a s b c)

      module _ (k : Found) (c : Some k ≡ found_there src (field_at src s.next)) where
        pub contents_no_title : None ≡ found_there src (field_at src k.next) → None ≡ contents_there src (contents_of src)
        contents_no_title d = contents_lost (no_fourth src _ n a s b k c d)

        module _ (title : Found) (d : Some title ≡ found_there src (field_at src k.next)) where
          pub contents_out : (t : Bool) → t ≡ in_bounds n.value s.value k.value title.value → t ≡ false → None ≡ contents_there src (contents_of src)
          unfolding contents_of
          contents_out t e f =
              rw (← is_first src _ n a, ← (found_it src _ _ s b).0, ← (found_it src _ _ k c).0, ← (found_it src _ _ title d).0, ← e, f) (not_there src _ _ refl)

          pub contents_no_last : None ≡ place_there src (line_end src title.next) → None ≡ contents_there src (contents_of src)
          contents_no_last e = contents_lost (no_last src _ n a s b k c title d e)

          pub contents_here : (next : ℕ) (t : Bool) → t ≡ in_bounds n.value s.value k.value title.value → t ≡ true → Some next ≡ place_there src (line_end src title.next) → Some (contents n.value s.value k.value title.value next) ≡ contents_there src (contents_of src)
          unfolding contents_of
          contents_here next t e f g =
              let w = found_it src _ _ next g in
              rw (← is_first src _ n a, ← (found_it src _ _ s b).0, ← (found_it src _ _ k c).0, ← (found_it src _ _ title d).0, ← e, f, w.0) (is_there src _ _ w.1)

-- ---- what `ok_or` makes of a thing that may be missing
module _ {A : Type 0} (o : Option A) (w : Wrong) where
  pub or_none : (v : Wrong) → Err v ≡ ok_or o w → (None ≡ o) × (v ≡ w)
  or_none v = go o
    where
      go : (o : Option A) → Err v ≡ ok_or o w → (None ≡ o) × (v ≡ w)
      go None h = (refl, cc)
      go (Some a) h = absurd (cc)

  pub or_some : (a : A) → Ok a ≡ ok_or o w → Some a ≡ o
  or_some a = go o
    where
      go : (o : Option A) → Ok a ≡ ok_or o w → Some a ≡ o
      go None h = absurd (cc)
      go (Some b) h = cc

-- ---- the bodies: what is still to be read gives the whole, q
pub bodies_start : (src : List ℕ) (top : Contents) (at : ℕ) (rows : List Line) (k : ℕ) → bodies_from src top (k - 0) 0 at rows ≡ bodies_from src top k 0 at rows
bodies_start src top at rows k = let f : k - 0 ≡ k = omega arith in rw f

module _ (q : Script) (src : List ℕ) (top : Contents) (i at : ℕ) (rows : List Line) (k : ℕ) (rest : bodies_from src top (k - i) i at rows ≡ q) where
  module _ (more : i < k) where
    one_more : k - i ≡ suc (k - (i + 1))
    one_more = omega arith

    pub bodies_again : (b : Body) → Some b ≡ body_there src (body_at src at) → bodies_from src top (k - (i + 1)) (i + 1) b.next (set rows i b.line) ≡ q
    unfolding bodies_from
    bodies_again b e =
        let w = found_it src _ _ b e in
        rw w.0 (rw (one_more, ne_eqb (body_at src at).next (nowhere src) w.1) at rest)

    pub bodies_wrong : None ≡ body_there src (body_at src at) → bad_at (i + 2) ≡ q
    unfolding bodies_from
    bodies_wrong e = rw (one_more, eq-eqb (body_at src at).next (nowhere src) (missing src _ _ e)) at rest

  module _ (all : i ≡ k) where
    no_more : k - i ≡ 0
    no_more = omega arith

    pub bodies_extra : (at ≡ length src → ⊥) → bad_at (k + 2) ≡ q
    unfolding bodies_from
    bodies_extra n = rw (← all) (rw (no_more, ne_eqb at (length src) n) at rest)

    pub bodies_done : at ≡ length src → good_script top rows ≡ q
    unfolding bodies_from
    bodies_done e = rw (no_more, eq-eqb at (length src) e) at rest

-- ---- the whole
module _ (src : List ℕ) where
  pub read_long : 16384 < length src → bad_at 0 ≡ read_script src
  unfolding read_script
  read_long h = rw (lt-ltb 16384 (length src) h)

  module _ (short : length src ≤ 16384) where
    pub read_wrong : None ≡ contents_there src (contents_of src) → bad_at 1 ≡ read_script src
    unfolding read_script
    read_wrong e = rw (le-ltb 16384 (length src) short, eq-eqb (contents_of src).next (nowhere src) (missing src _ _ e))

    pub read_bodies : (top : Contents) → Some top ≡ contents_there src (contents_of src) → bodies_from src top top.k 0 top.next no_lines ≡ read_script src
    unfolding read_script
    read_bodies top e =
        let w = found_it src _ _ top e in
        rw (w.0, le-ltb 16384 (length src) short, ne_eqb (contents_of src).next (nowhere src) w.1)

-- ---- the ways through the code that the check finds by itself
pub ruleset ways = (digit_past, digit_none, digit_here, longer_none, longer_big, longer_here, digit_inside, number_past, number_zero, number_digits, field_past, field_here, field_none, byte_inside, end_past, end_here, end_none, reserve_no_seat, reserve_no_start, reserve_no_end, reserve_no_kind, reserve_no_last, seat_none, seat_no_last, seat_here, body_past, body_reserve, body_step, body_release, body_enter, body_none, contents_no_n, contents_no_s, contents_no_k, contents_no_title, contents_out, contents_no_last, read_long)
