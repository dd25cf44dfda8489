-- What is known of the tables beside their view, of good tables and of those of sound shape alike: their lengths, for N nodes and S seats,
-- and what holds of a seat's words by their number, those among them that the view does not show. Each store of the rules keeps it.
use Prim.Native.Nat.{ℕ, ◌+◌, ◌*◌, ◌≤◌, ◌<◌}
use mathlib.Core.Path.{◌≡◌, refl, sym, ◌∙◌}
use mathlib.Core.Bool.{Bool, true, false}
use mathlib.Core.List.{List}
use mathlib.Core.Logic.{◌≢◌}
use native.Mathlib.Omega.{arith}
use lib.ListN.{length}
use Rattle.rules.specs.Tables.{Tables, tables, before_nodes, node_width, seat_width, start_at, end_at, kind_at, mark_at, phase_at, count_at, seat_word, kind, phase, own, prev, cur, set_count, set_node, set_link}
use Rattle.rules.specs.Comparison.{Claim}
use Rattle.rules.specs.Fetch.{write_claim}
use Rattle.rules.specs.Steps.{link_in}
use Rattle.rules.proofs.Ground.Deciding.{if_same}
use Rattle.rules.proofs.Laws.Words.{put_link_length, put_node_length, put_top_length, node_put_link, node_put_field, node_put_has, node_put_top, count_low, seat_within}
use Rattle.rules.proofs.Rules.Effects.{Room, Seated}
use Rattle.rules.specs.Refusing.{WritesOnSheet}
use Rattle.rules.proofs.Ground.Logic.{clash, not_of}
use Rattle.rules.proofs.Laws.Shape.{NoneOfSheet}

-- of a seat with these words, by the profile: idle it has zeros in all of them, and on a sheet it is in none of the phases that a sheet lacks
pub record SeatAside (sheet : Bool) (words : ℕ → ℕ) : Type 0 where
  pub phases : NoneOfSheet sheet (words phase_at)
  pub idle : words phase_at ≡ 0 → (f : ℕ) → f < seat_width sheet → words f ≡ 0

-- in a phase that is not 0: one that both profiles have
pub busy : {sheet : Bool} {words : ℕ → ℕ} → words phase_at ≢ 0 → words phase_at ≢ 3 → words phase_at ≢ 4 → words phase_at ≢ 6 → SeatAside sheet words
busy d d₃ d₄ d₆ = record { phases = λ q. (d₃, d₄, d₆); idle = λ z. absurd (d z) }

-- any, of ordinary tables
pub busy_ordinary : {sheet : Bool} {words : ℕ → ℕ} → sheet ≡ false → words phase_at ≢ 0 → SeatAside sheet words
busy_ordinary {sheet} n d = record { phases = λ q. absurd (clash sheet q n); idle = λ z. absurd (d z) }

-- the one that it was in
pub busy_still : {sheet : Bool} {words new : ℕ → ℕ} → SeatAside sheet words → new phase_at ≡ words phase_at → words phase_at ≢ 0 → SeatAside sheet new
busy_still k e d = record { phases = rw e k.phases; idle = λ z. absurd (d (sym e ∙ z)) }

pub all_zero : {sheet : Bool} → SeatAside sheet (λ f. 0)
all_zero = record { phases = λ q. (omega arith, omega arith, omega arith); idle = λ z f h. refl }

same_words : {sheet : Bool} {words new : ℕ → ℕ} → SeatAside sheet words → ((f : ℕ) → f < seat_width sheet → new f ≡ words f) → SeatAside sheet new
same_words k e = record { phases = rw (e phase_at (omega arith)) k.phases; idle = λ z f h. e f h ∙ k.idle (sym (e phase_at (omega arith)) ∙ z) f h }

pub record Aside (N S : ℕ) (t : Tables) : Type 0 where
  pub nodes_long : length t.nodes ≡ before_nodes t.sheet + node_width * N
  pub seats_long : length t.seats ≡ seat_width t.sheet * S
  pub seat : (s : ℕ) → SeatAside t.sheet (seat_word t.sheet t.seats s)
  -- on a sheet no node's claim reads, and a node of none does not either
  pub kinds : t.sheet ≡ true → (a : ℕ) → kind t a ≢ 1

module _ {N S : ℕ} {t : Tables} (w : Aside N S t) where
  pub link_put : (a v : ℕ) → Aside N S (set_link t a v)
  link_put a v = record {
    nodes_long = put_link_length t.sheet t.nodes a v ∙ w.nodes_long;
    seats_long = w.seats_long;
    seat = w.seat;
    kinds = λ q b. rw (node_put_link t.sheet t.nodes a b kind_at v (omega arith) (omega arith)) (w.kinds q b);
  }

  node_put : (f a v : ℕ) → ((b : ℕ) → t.sheet ≡ true → kind (set_node f t a v) b ≢ 1) → Aside N S (set_node f t a v)
  node_put f a v k =
      record { nodes_long = put_node_length t.sheet t.nodes a f v ∙ w.nodes_long; seats_long = w.seats_long; seat = w.seat; kinds = λ q b. k b q }

  -- any word of a node but its kind, and its kind where on a sheet it does not read
  pub word_put : (f a v : ℕ) → f < node_width → f ≢ kind_at → Aside N S (set_node f t a v)
  word_put f a v h d = node_put f a v (λ b q. rw (node_put_field t.sheet t.nodes a b f kind_at v h (omega arith) d) (w.kinds q b))

  pub kind_put : (a v : ℕ) → (t.sheet ≡ true → v ≢ 1) → Aside N S (set_node kind_at t a v)
  kind_put a v k = node_put kind_at a v (λ b q. node_put_has (λ x. x ≢ 1) t.sheet t.nodes a b kind_at v (k q) (w.kinds q b))

  pub count_put : (k v : ℕ) → Aside N S (set_count t k v)
  count_put k v = record {
    nodes_long = put_top_length t.nodes (count_at k) v ∙ w.nodes_long;
    seats_long = w.seats_long;
    seat = w.seat;
    kinds = λ q b. rw (node_put_top t.sheet t.nodes (count_at k) b kind_at v (count_low t.sheet k)) (w.kinds q b);
  }

  pub seat_put : {s : ℕ} {words : ℕ → ℕ} {seats : List ℕ} → Seated t.sheet t.seats seats s words → SeatAside t.sheet words → Aside N S (tables t.sheet t.nodes seats)
  seat_put {s} {seats = seats} h k = record {
    nodes_long = w.nodes_long;
    seats_long = h.long ∙ w.seats_long;
    seat = λ r. if_same r s
        (λ e. same_words k (rw e h.at_s))
        (λ d. same_words (w.seat r) (λ f. h.others r f d));
    kinds = w.kinds;
  }

  -- in the phases that a sheet lacks, the tables are ordinary
  pub ordinary_in_3 : (s : ℕ) → phase t s ≡ 3 → t.sheet ≡ false
  ordinary_in_3 s e = not_of t.sheet (λ q. ((w.seat s).phases q).0 e)

  pub ordinary_in_4 : (s : ℕ) → phase t s ≡ 4 → t.sheet ≡ false
  ordinary_in_4 s e = not_of t.sheet (λ q. ((w.seat s).phases q).1 e)

  pub ordinary_in_6 : (s : ℕ) → phase t s ≡ 6 → t.sheet ≡ false
  ordinary_in_6 s e = not_of t.sheet (λ q. ((w.seat s).phases q).2 e)

  -- ---- there is room for every node and every seat
  pub node_room : (a : ℕ) → a ≤ N → before_nodes t.sheet + node_width * a ≤ length t.nodes
  node_room a h = let l = w.nodes_long in omega arith

  pub seat_room : (s : ℕ) → s < S → Room t s
  seat_room s h = let l = w.seats_long in let b = seat_within t.sheet s S h in omega arith

-- ---- stores one after the other
pub claim_put : {N S : ℕ} {t : Tables} → Aside N S t → (a : ℕ) (c : Claim) → WritesOnSheet t c → Aside N S (write_claim t a c)
unfolding write_claim
claim_put w a c k =
    let w₁ = word_put w start_at a c.start (omega arith) (omega arith) in
    let w₂ = word_put w₁ end_at a c.end (omega arith) (omega arith) in
    word_put (link_put (kind_put w₂ a c.kind k) a 0) mark_at a 0 (omega arith) (omega arith)

pub linked_in : {N S : ℕ} {t : Tables} → Aside N S t → (s : ℕ) → Aside N S (link_in t s)
unfolding link_in
linked_in {t = t} w s = link_put (link_put w (own t s) (cur t s)) (prev t s) (own t s)
