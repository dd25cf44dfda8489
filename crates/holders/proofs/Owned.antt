-- What sound tables say of a holder: the seat is there, and it owns a node of the table.
use Prim.Native.Nat.{ℕ, ◌≤◌, ◌<◌}
use native.Mathlib.Omega.{arith}
use mathlib.Core.Bool.{true}
use mathlib.Core.Logic.{◌≢◌}
use mathlib.Core.Path.{◌≡◌, sym, ◌∙◌}
use Rattle.rules.specs.Tables.{Tables, node_count, seat_count, seat_word, own, phase_at, own_at}
use Rattle.rules.specs.Shape.{sound}
use Rattle.rules.specs.Apart.{Holds}
use Rattle.rules.proofs.Laws.Shape.{is_sound, name_small}
use Rattle.rules.proofs.Laws.Words.{seat_past}

module _ (t : Tables) (s : ℕ) (is_sound_here : sound t ≡ true) (holds : Holds t s) where
  pub held_seat : s < seat_count t
  held_seat =
      let w = is_sound t is_sound_here in
      let past : seat_count t ≤ s → ⊥ = λ h. let z = seat_past t s phase_at w.seats_length h in omega arith in
      omega (arith, past)

  own_some : own t s ≢ 0
  own_some = ((is_sound t is_sound_here).seat s).owning (λ z. let h = holds in omega arith)

  module _ (o : ℕ) (is_own : o ≡ seat_word t.sheet t.seats s own_at) where
    pub held_node : o ≢ 0
    held_node z = own_some (sym is_own ∙ z)

    pub held_within : o ≤ node_count t
    held_within = rw is_own (name_small t (own t s) ((is_sound t is_sound_here).seat s).own_names)
