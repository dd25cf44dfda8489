-- Fetch leaves good tables good, whether it finds a node or none.
use Prim.Native.Nat.{ℕ, ◌+◌, ◌*◌, ◌≤◌, ◌<◌}
use mathlib.Core.Path.{◌≡◌, ◌∙◌, refl}
use mathlib.Core.Bool.{true}
use mathlib.Core.Logic.{◌≢◌, ◌⊎◌}
use native.Mathlib.Omega.{arith}
use lib.ListN.{length}
use Rattle.rules.specs.Tables.{Tables, before_nodes, node_width, node_count, node_word, start_at, end_at, kind_at, mark_at, next_at, phase}
use Rattle.rules.specs.Comparison.{Claim}
use Rattle.rules.specs.Reach.{free, lowest_free}
use Rattle.rules.specs.Fetch.{Fetched, write_claim, reserve_for, take_node}
use Rattle.rules.proofs.Laws.Words.{link_node, node_count_law}
use Rattle.rules.proofs.Ground.Counting.{lowest_has}
use Rattle.rules.proofs.Invariant.View.{nodes_of}
use Rattle.rules.specs.Refusing.{Proper, WritesOnSheet}
use Rattle.rules.proofs.Invariant.Take.{Written, take_keeps}
use Rattle.rules.proofs.Rules.Effects.{stored, reseated, Noded, node_as_found, put_word, put_next}
use Rattle.rules.proofs.Rules.RuleEffects.{reserve_stored}
use Rattle.rules.proofs.Rules.Reasons.{Fetching, found, found_then, none}
use Rattle.rules.proofs.Keeping.Aside.{busy, seat_put, node_room, seat_room, claim_put}
use Rattle.rules.proofs.Keeping.Good.{Good}
use Rattle.rules.proofs.Laws.NodesAlone.{taken_out_profile, taken_out_seats}
use Rattle.rules.proofs.Keeping.TakeOut.{taken_out_good}
use Rattle.rules.proofs.Keeping.Hops.{is_free}

-- ---- the words of the node taken
abbrev claim_words : (ℕ → ℕ) → Claim → ℕ → ℕ
claim_words words c = stored (stored (stored (stored (stored words start_at c.start) end_at c.end) kind_at c.kind) next_at 0) mark_at 0

pub claim_written : (t : Tables) (a : ℕ) (c : Claim) → a ≢ 0 → before_nodes t.sheet + node_width * a ≤ length t.nodes
    → Noded t.sheet t.nodes (write_claim t a c).nodes a (claim_words (node_word t.sheet t.nodes a) c)
unfolding write_claim
claim_written t a c z r =
    let w₁ = put_word z r (node_as_found t.sheet t.nodes a) start_at c.start (omega arith) in
    let w₂ = put_word z r w₁ end_at c.end (omega arith) in
    let w₃ = put_word z r w₂ kind_at c.kind (omega arith) in
    put_word z r (put_next z r w₃ 0) mark_at 0 (omega arith)

pub written : (t : Tables) (a : ℕ) (c : Claim) → a ≢ 0 → before_nodes t.sheet + node_width * a ≤ length t.nodes → Proper c
    → Written (nodes_of t) (nodes_of (write_claim t a c)) a
unfolding write_claim
written t a c z r p =
    let w = claim_written t a c z r in
    record {
      proper = rw (w.at_a start_at (omega arith), w.at_a end_at (omega arith), w.at_a kind_at (omega arith)) p;
      link_o = link_node t.sheet (write_claim t a c).nodes a z ∙ w.at_a next_at (omega arith);
      mark_o = w.at_a mark_at (omega arith);
      start_a = λ b d. w.others b start_at d (omega arith);
      end_a = λ b d. w.others b end_at d (omega arith);
      kind_a = λ b d. w.others b kind_at d (omega arith);
      link_a = λ b d. w.links b d;
      mark_a = λ b d. w.others b mark_at d (omega arith);
    }

module _ {N S : ℕ} {t : Tables} (g : Good N S t) (s : ℕ) (s_in : s < S) (c : Claim) (proper : Proper c) (writes : WritesOnSheet t c) (may : (phase t s ≡ 0) ⊎ (phase t s ≡ 6)) where
  take_good : (a : ℕ) → free t s a ≡ true → a ≢ 0 → a ≤ N → Good N S (take_node t s a c)
  unfolding take_node reserve_for write_claim
  take_good a f z h =
      let u = write_claim t a c in
      let sat = reserve_stored u s (seat_room g.aside s s_in) a in
      record {
        aside = seat_put (claim_put g.aside a c writes) sat (busy (omega arith) (omega arith) (omega arith) (omega arith));
        inv = take_keeps g.inv (is_free g s a f z h) (written t a c z (node_room g.aside a h) proper) (reseated t (reserve_for u s a) refl sat) h may;
      }

  -- the lowest free node is free
  lowest_good : (a : ℕ) → lowest_free t s ≡ a → a ≢ 0 → Good N S (take_node t s a c)
  unfolding lowest_free
  lowest_good a e z =
      let w = lowest_has (node_count t) (free t s) a e z in
      take_good a w.0 z (rw (node_count_law t N g.aside.nodes_long) at w.1)

pub fetch_keeps : {N S : ℕ} {t : Tables} → Good N S t → (s : ℕ) → s < S → (c : Claim) → Proper c → WritesOnSheet t c → (phase t s ≡ 0) ⊎ (phase t s ≡ 6)
    → {f : Fetched} → Fetching t s c f → Good N S f.after
fetch_keeps g s s_in c p k may (found a e z) = lowest_good g s s_in c p k may a e z
fetch_keeps {t = t} g s s_in c p k may (found_then a e e' z) =
    lowest_good (taken_out_good g) s s_in c p (rw (taken_out_profile t) k) (rw (taken_out_profile t, taken_out_seats t) may) a e' z
fetch_keeps g s s_in c p k may (none e e') = g
