-- What the tests say of the part of the node table from node 1 on is what they say of the table: each looks at nodes alone, and none at the
-- words before node 1.
use Rattle.std.proofs.Common.{◌≡◌, ℕ, ◌+◌, Bool, List, [], drop, arith}
use Rattle.rules.specs.Tables.{tables, before_nodes, node_word, link_word, seat_word, node_count_of, seat_count_of, start_at, end_at, kind_at, mark_at, own_at, prev_at, cur_at}
use Rattle.rules.specs.Notation.{◌≤?◌}
use Rattle.rules.specs.Shape.{zero_node, claim_node, names, node_sound, is_phase, zero_seat, idle_or_owning, resting_at_zero, waiting_at_cur, seat_sound, holds_with, holders_of_kind, ends_by, nodes_sound, seats_sound}
use Rattle.rules.proofs.Ground.Logic.{all_alike}
use Rattle.rules.proofs.Ground.Counting.{count_alike}
use Rattle.words.specs.Parts.{with_zeros}
use Rattle.words.proofs.Places.{same_node, same_next, same_count}

module _ (sheet : Bool) (l : List ℕ) where
  pub same_names : (a : ℕ) → names (tables sheet (with_zeros sheet (drop (before_nodes sheet) l)) []) a ≡ names (tables sheet l []) a
  unfolding names
  same_names a = rw (same_count sheet l, same_node sheet l a kind_at)

  same_node_sound : (m : ℕ) → node_sound (tables sheet (with_zeros sheet (drop (before_nodes sheet) l)) []) (m + 1) ≡ node_sound (tables sheet l []) (m + 1)
  unfolding node_sound zero_node claim_node
  same_node_sound m =
      rw (
        same_node sheet l (m + 1) start_at,
        same_node sheet l (m + 1) end_at,
        same_node sheet l (m + 1) kind_at,
        same_node sheet l (m + 1) mark_at,
        same_next sheet l (m + 1) (λ z. omega arith),
        same_count sheet l,
        same_names (link_word sheet l (m + 1)),
      )

  pub same_nodes : nodes_sound (tables sheet (with_zeros sheet (drop (before_nodes sheet) l)) []) ≡ nodes_sound (tables sheet l [])
  unfolding nodes_sound
  same_nodes =
      rw (same_count sheet l) (all_alike (node_count_of sheet l) (λ m. node_sound (tables sheet (with_zeros sheet (drop (before_nodes sheet) l)) []) (m + 1)) (λ m. node_sound (tables sheet l []) (m + 1)) same_node_sound)

  pub same_ends : (frames : ℕ) → ends_by (tables sheet (with_zeros sheet (drop (before_nodes sheet) l)) []) frames ≡ ends_by (tables sheet l []) frames
  unfolding ends_by
  same_ends frames =
      rw (same_count sheet l) (all_alike (node_count_of sheet l) (λ m. node_word sheet (with_zeros sheet (drop (before_nodes sheet) l)) (m + 1) end_at ≤? frames) (λ m. node_word sheet l (m + 1) end_at ≤? frames)
      (λ m. rw (same_node sheet l (m + 1) end_at)))

  module _ (t : List ℕ) where
    same_seat : (s : ℕ) → seat_sound (tables sheet (with_zeros sheet (drop (before_nodes sheet) l)) t) s ≡ seat_sound (tables sheet l t) s
    unfolding seat_sound is_phase zero_seat idle_or_owning resting_at_zero waiting_at_cur names
    same_seat s = rw (same_count sheet l, same_node sheet l (seat_word sheet t s own_at) kind_at, same_node sheet l (seat_word sheet t s prev_at) kind_at, same_node sheet l (seat_word sheet t s cur_at) kind_at)

    pub same_seats : seats_sound (tables sheet (with_zeros sheet (drop (before_nodes sheet) l)) t) ≡ seats_sound (tables sheet l t)
    unfolding seats_sound
    same_seats = all_alike (seat_count_of sheet t) (seat_sound (tables sheet (with_zeros sheet (drop (before_nodes sheet) l)) t)) (seat_sound (tables sheet l t)) same_seat

    pub same_holders : (k : ℕ) → holders_of_kind (tables sheet (with_zeros sheet (drop (before_nodes sheet) l)) t) k ≡ holders_of_kind (tables sheet l t) k
    unfolding holders_of_kind
    same_holders k =
        count_alike (seat_count_of sheet t) (holds_with (tables sheet (with_zeros sheet (drop (before_nodes sheet) l)) t) k) (holds_with (tables sheet l t) k)
        (λ s h. rw (same_node sheet l (seat_word sheet t s own_at) kind_at))
