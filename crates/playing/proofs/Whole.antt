-- From the bytes of a script to everything that is printed: fresh tables, the calls, the end; or `bad L`.
use Prim.Native.Nat.{ℕ, zero, suc, ◌+◌, ◌*◌, ◌≤◌, ◌<◌}
use native.Mathlib.Omega.{arith}
use mathlib.Core.Bool.{true, false}
use mathlib.Core.List.{List, ◌∷◌, ◌++◌}
use mathlib.Core.Path.{◌≡◌, refl, sym, ap, ◌∙◌}
use Rattle.std.specs.Prelude.{Ok, Err}
use lib.ListN.{length, take, drop, replicate, length-replicate, length-drop}
use lib.Seq.{length-take-le, take-set-lt}
use Rattle.rules.specs.Tables.{Tables, tables, title_at, before_nodes, node_width, seat_width, put_top, zeros, fresh, node_count, seat_count}
use Rattle.rules.specs.Shape.{sound}
use Rattle.rules.specs.Reached.{Reached, cleared}
use Rattle.rules.specs.Means.{means_script}
use Rattle.rules.proofs.Laws.Words.{put_top_length}
use Rattle.rules.proofs.Laws.Shape.{is_sound}
use Rattle.rules.proofs.Laws.RunSteps.{calls_reached}
use Rattle.rules.proofs.Apart.{always_sound}
use Rattle.rules.specs.Script.{read_script, bad_at}
use Rattle.rules.specs.Play.{Call, calls_of, trace, after_all, turns_text, end_text, ascii, decimal, start_of, script_text, play}
use Rattle.rules.specs.declared.Script.{Script}
use Rattle.rules.specs.declared.Wrong.{Wrong}
use Rattle.script.specs.Bounded.{Bounded}
use Rattle.text.specs.Page.{page, puts, Prints}
use Rattle.text.specs.declared.Page.{Page}
use Rattle.text.proofs.Pages.{then, written}
use Rattle.playing.specs.Played.{read, played_text}

-- ---- the part of a fresh table that is lent
take_same : (m n : ℕ) → n ≤ m → take {A = ℕ} n (replicate m 0) ≡ replicate n 0
take_same m zero h = refl
take_same zero (suc n) h = absurd (omega arith)
take_same (suc m) (suc n) h = ap (λ (l : List ℕ). 0 ∷ l) (take_same m n (omega arith))

take_zeros : (m n : ℕ) (l : List ℕ) → l ≡ zeros m → n ≤ m → take n l ≡ zeros n
take_zeros m n l e h = rw e (take_same m n h)

-- the title is in the part
take_titled : (m n frames : ℕ) (l : List ℕ) → l ≡ put_top (zeros m) title_at frames → title_at < n → n ≤ m → take n l ≡ put_top (zeros n) title_at frames
take_titled m n frames l e i h = rw e (take-set-lt n (zeros m) title_at frames i ∙ ap (λ (k : List ℕ). put_top k title_at frames) (take_same m n h))

-- the tables that are lent are fresh ones of N nodes and S seats, for the script's title
module _ (script : Script) (w v : ℕ) (nodes seats : List ℕ) (bounded : Bounded script)
    (no_nodes : nodes ≡ put_top (zeros (before_nodes false + node_width * 256)) title_at script.title)
    (is_nodes : w ≡ before_nodes false + node_width * script.n) (no_seats : seats ≡ zeros (seat_width false * 64)) (is_seats : v ≡ seat_width false * script.s) where
  few_nodes : w ≤ before_nodes false + node_width * 256
  few_nodes = let n = bounded.nodes in omega arith

  few_seats : v ≤ seat_width false * 64
  few_seats = let s = bounded.seats in omega arith

  these_nodes : take w nodes ≡ put_top (zeros w) title_at script.title
  these_nodes = take_titled (before_nodes false + node_width * 256) w script.title nodes no_nodes (omega arith) few_nodes

  these_seats : take v seats ≡ zeros v
  these_seats = take_zeros (seat_width false * 64) v seats no_seats few_seats

  pub nodes_lent : w ≡ length (take w nodes)
  nodes_lent = rw these_nodes (sym (put_top_length (zeros w) title_at script.title ∙ length-replicate w 0))

  pub seats_lent : v ≡ length (take v seats)
  seats_lent = rw these_seats (sym (length-replicate v 0))

  lent_fresh : tables false (take w nodes) (take v seats) ≡ start_of (read script)
  unfolding start_of fresh
  lent_fresh = rw (these_nodes, these_seats, is_nodes, is_seats)

  pub lent_reached : Reached script.n script.s (tables false (take w nodes) (take v seats))
  unfolding start_of
  lent_reached = rw lent_fresh (cleared bounded.some_nodes bounded.nodes bounded.some_seats bounded.seats false bounded.some_frames)

  pub script_played : (p q : Page) → Prints p q (played_text (tables false (take w nodes) (take v seats)) (calls_of (read script))) → Prints p q (script_text (read script))
  unfolding played_text script_text
  script_played p q e = rw lent_fresh at e

-- ---- the calls, then the end
pub played_sound : (t u : Tables) (calls : List Call) {n s : ℕ} → u ≡ after_all t calls → Reached n s t → sound u ≡ true
played_sound t u calls e r = rw e (always_sound (calls_reached r calls))

pub tables_played : (t u : Tables) (script : Script) (p q r : Page) → u ≡ after_all t (calls_of (read script)) → Prints p q (turns_text 1 (trace t (calls_of (read script)))) → Prints q r (end_text u) → Prints p r (played_text t (calls_of (read script)))
unfolding played_text
tables_played t u script p q r e a b = then a (rw e at b)

-- what is printed of 1,000 calls on the longest tables
pub played_short : (u : Tables) → sound u ≡ true → (at next end calls : ℕ) → end ≤ next + 11 * node_count u + 49 * seat_count u + 34 → next ≤ at + 43 * calls → calls ≤ 1000 → end ≤ at + 48986
played_short u s at next end calls e a k =
    let w = is_sound u s in
    let x = w.few_nodes in
    let y = w.few_seats in
    omega arith

-- ---- the bytes
module _ (src : List ℕ) where
  pub play_bad : (wrong : Wrong) → means_script (Err wrong) ≡ read_script src → play src ≡ ascii "bad " ++ decimal wrong.line ++ ascii "\n"
  unfolding play bad_at
  play_bad wrong e = rw (← e)

  pub play_good : (script : Script) → means_script (Ok script) ≡ read_script src → play src ≡ script_text (read script)
  unfolding play
  play_good script e = rw (← e)

-- a text that ends before the buffer does stands whole in it, and what stood behind it stays
pub whole : (src l l' : List ℕ) (r : ℕ) → page l' r ≡ puts (page l 0) (play src) → r ≤ 48986 → length l ≡ 49152 → (take r l' ≡ play src) × ((drop r l' ≡ drop r l) × ((r ≤ length l') × (r ≡ length (take r l'))))
whole src l l' r e h m =
    let w = written l l' (play src) r e (omega arith) in
    let rest = ap length w.1 in
    let k : length l' ≡ length l = omega (arith, length-drop r l', length-drop r l) in
    (w.0, (w.1, (omega arith, sym (length-take-le r l' (omega arith)))))
