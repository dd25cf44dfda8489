-- What has sound shape in the theory's words, within the bounds, counts that are right and claims within the title, passes the test `sound`. Every
-- table that is reached has all of it.
use Prim.Native.Nat.{ℕ, ◌≤◌}
use mathlib.Core.Path.{◌≡◌}
use mathlib.Core.Bool.{true}
use mathlib.Core.Logic.{◌≢◌, ◌⊎◌, inl, inr}
use native.Mathlib.Omega.{arith}
use Rattle.rules.specs.Tables.{Tables, node_count}
use Rattle.rules.specs.Shape.{sound}
use Rattle.rules.specs.Reached.{Reached, cleared, asked}
use Rattle.rules.specs.Title.{AllWithin}
use Rattle.rules.proofs.Laws.Shape.{Names, ZeroNode, ClaimNode, SeatSound, Counts, Sound, sound_is}
use Rattle.rules.proofs.Laws.Listed.{ends_within_law}
use Rattle.rules.proofs.Laws.Words.{node_count_law, seat_count_law}
use Rattle.rules.proofs.Ground.Pigeonhole.{short}
use Rattle.rules.proofs.Invariant.View.{nodes_of, claim_at}
use Rattle.rules.proofs.Invariant.Clauses.{Named, nothing, node}
use Rattle.rules.proofs.Invariant.Known.{known_head, known_ends, named_in}
use Rattle.rules.proofs.Frames.CountFrames.{reached_counts}
use Rattle.rules.proofs.Frames.TitleFrames.{reached_within}
use Rattle.rules.proofs.Keeping.Good.{Good}
use Rattle.rules.proofs.Soundness.SoundShape.{Shaped}
use Rattle.rules.proofs.Keeping.CallKeeps.{good}

-- "N is 1 to 256", "S is 1 to 64"
pub record Bounds (N S : ℕ) : Type 0 where
  pub some_nodes : 1 ≤ N
  pub few_nodes : N ≤ 256
  pub some_seats : 1 ≤ S
  pub few_seats : S ≤ 64

pub bounds : {N S : ℕ} {t : Tables} → Reached N S t → Bounds N S
bounds (cleared a b c d sheet e) = record { some_nodes = a; few_nodes = b; some_seats = c; few_seats = d }
bounds (asked r request) = bounds r

module _ {N S : ℕ} {t : Tables} (g : Shaped N S t) where
  count : node_count t ≡ N
  count = node_count_law t N g.aside.nodes_long

  names : {a : ℕ} → Named N (claim_at (nodes_of t)) a → Names t a
  names (nothing e) = inl e
  names {a} (node p l c) = inr (rw count l, (c.reads_or_writes, λ q. g.aside.kinds q a))

  node_shape : (a : ℕ) → a ≢ 0 → ZeroNode t a ⊎ ClaimNode t a
  node_shape a z = elim (g.view.nodes.blank_or_proper a (omega arith)) [
    | inl b ↦ inl (record { start_zero = b.start_0; end_zero = b.end_0; kind_zero = b.kind_0; next_zero = b.link_0; mark_zero = b.mark_0 })
    | inr c ↦ inr (record {
      a_kind = (c.reads_or_writes, λ q. g.aside.kinds q a);
      some = c.some;
      next_small = rw count (named_in (g.view.nodes.links a));
      mark_small = g.view.nodes.marks a;
    })
  ]

  seat_shape : (s : ℕ) → SeatSound t s
  seat_shape s = let h = g.view.seats s in record {
    may_be_in_law = (h.has_phase, (g.aside.seat s).phases);
    idle = (g.aside.seat s).idle;
    owning = λ b. let o = h.owning b in omega arith;
    resting = h.resting;
    waiting = λ p. let c = h.at_cur p in omega arith;
    own_names = names h.own_named;
    prev_names = names h.prev_named;
    cur_names = names h.cur_named;
  }

  pub shaped_sound : Bounds N S → Counts t → AllWithin t → Sound t
  shaped_sound b c w =
      let seats = seat_count_law t S g.aside.seats_long in
      let ends = g.view.ends in
      let few = short N (λ a. named_in (g.view.nodes.links a)) (named_in (g.view.nodes.links 0)) ends.1 in
      record {
        nodes_length = rw count g.aside.nodes_long;
        some_nodes = rw count b.some_nodes;
        few_nodes = rw count b.few_nodes;
        seats_length = rw seats g.aside.seats_long;
        some_seats = rw seats b.some_seats;
        few_seats = rw seats b.few_seats;
        all_within = w;
        node = λ a z l. node_shape a z;
        link_names = λ a. names (g.view.nodes.links a);
        seat = seat_shape;
        counts = c;
        ends = ends_within_law t ends.1 (node_count t) (rw count few);
      }

good_shaped : {N S : ℕ} {t : Tables} → Good N S t → Shaped N S t
good_shaped g = record {
  aside = g.aside;
  view = record { nodes = g.inv.nodes; seats = g.inv.seats; ends = known_ends g.inv known_head };
}

pub reached_sound : {N S : ℕ} {t : Tables} → Reached N S t → sound t ≡ true
reached_sound {t = t} r = sound_is t (shaped_sound (good_shaped (good r)) (bounds r) (reached_counts r) (reached_within r))
