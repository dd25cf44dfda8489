-- What reads the node table alone reads the same beside any seats, and what stores there leaves every seat, and the profile.
use Prim.Native.Nat.{ℕ, zero, suc}
use mathlib.Core.Path.{◌≡◌, refl, ap}
use mathlib.Core.Bool.{Bool, ◌||◌}
use mathlib.Core.List.{List, [], ◌∷◌}
use Rattle.rules.specs.Notation.{◌is◌}
use Rattle.rules.specs.Tables.{Tables, tables, set_link, link_word, put_link, node_count_of}
use Rattle.rules.specs.Shape.{zero_node, claim_node, names, node_sound, ends_by, ends_within, nodes_sound}
use Rattle.rules.specs.Fetch.{kept_from, kept, link_through, taken_out}

pub ends_alone : (sheet : Bool) (h : ℕ) (nodes seats : List ℕ) (a : ℕ) → ends_within h (tables sheet nodes []) a ≡ ends_within h (tables sheet nodes seats) a
unfolding ends_within
ends_alone sheet zero nodes seats a = refl
ends_alone sheet (suc h) nodes seats a = ap (λ (b : Bool). a is 0 || b) (ends_alone sheet h nodes seats (link_word sheet nodes a))

pub nodes_alone : (sheet : Bool) (nodes seats : List ℕ) → nodes_sound (tables sheet nodes []) ≡ nodes_sound (tables sheet nodes seats)
unfolding nodes_sound node_sound zero_node claim_node names
nodes_alone sheet nodes seats = refl

pub ends_by_alone : (sheet : Bool) (nodes seats : List ℕ) (frames : ℕ) → ends_by (tables sheet nodes []) frames ≡ ends_by (tables sheet nodes seats) frames
unfolding ends_by
ends_by_alone sheet nodes seats frames = refl

kept_from_alone : (sheet : Bool) (h : ℕ) (nodes seats : List ℕ) (a : ℕ) → kept_from h (tables sheet nodes []) a ≡ kept_from h (tables sheet nodes seats) a
unfolding kept_from
kept_from_alone sheet zero nodes seats a = refl
kept_from_alone sheet (suc h) nodes seats a = rw (kept_from_alone sheet h nodes seats (link_word sheet nodes a))

pub kept_alone : (sheet : Bool) (nodes seats : List ℕ) → kept (tables sheet nodes []) ≡ kept (tables sheet nodes seats)
unfolding kept
kept_alone sheet nodes seats = kept_from_alone sheet (node_count_of sheet nodes) nodes seats (link_word sheet nodes 0)

through_alone : (sheet : Bool) (ks nodes seats : List ℕ) (p : ℕ) → tables sheet (link_through (tables sheet nodes []) p ks).nodes seats ≡ link_through (tables sheet nodes seats) p ks
unfolding link_through
through_alone sheet [] nodes seats p = refl
through_alone sheet (a ∷ ks) nodes seats p = through_alone sheet ks (put_link sheet nodes p a) seats a

pub taken_out_alone : (sheet : Bool) (nodes seats : List ℕ) → tables sheet (taken_out (tables sheet nodes [])).nodes seats ≡ taken_out (tables sheet nodes seats)
unfolding taken_out
taken_out_alone sheet nodes seats = rw (kept_alone sheet nodes seats) (through_alone sheet (kept (tables sheet nodes seats)) nodes seats 0)

-- ---- and changes none
through_seats : (ks : List ℕ) (t : Tables) (p : ℕ) → (link_through t p ks).seats ≡ t.seats
unfolding link_through
through_seats [] t p = refl
through_seats (a ∷ ks) t p = through_seats ks (set_link t p a) a

pub taken_out_seats : (t : Tables) → (taken_out t).seats ≡ t.seats
unfolding taken_out
taken_out_seats t = through_seats (kept t) t 0

through_profile : (ks : List ℕ) (t : Tables) (p : ℕ) → (link_through t p ks).sheet ≡ t.sheet
unfolding link_through
through_profile [] t p = refl
through_profile (a ∷ ks) t p = through_profile ks (set_link t p a) a

pub taken_out_profile : (t : Tables) → (taken_out t).sheet ≡ t.sheet
unfolding taken_out
taken_out_profile t = through_profile (kept t) t 0
