-- Each rule over a seat's own words is the rule over the whole seat table, since it reads and stores the words of its own seat alone. The seat's words
-- are a table of one seat, 0; `before` and `behind` are what stands around them in the whole table, where the seat's number is s.
use Rattle.std.specs.Prelude.{if◌then◌else◌}
use Prim.Native.Nat.{ℕ, zero, suc, ◌+◌, ◌-◌, ◌*◌, ◌≤◌, ◌<◌}
use mathlib.Core.Path.{◌≡◌, refl, sym, ap, ◌∙◌}
use mathlib.Core.Bool.{Bool, true, false, ◌||◌}
use mathlib.Core.List.{List, [], ◌∷◌, ◌++◌}
use native.Mathlib.Omega.{arith}
use lib.IntN.{ℤ, pos, negsuc}
use lib.ListN.{length, get_or, set, take, drop, length-drop, take-append-drop, get_or-append}
use lib.Seq.{length-take-le, get_or-append-add, set-append_left}
use Rattle.rules.specs.Notation.{◌is◌, ◌≤?◌}
use Rattle.rules.specs.Tables.{Tables, tables, seat_width, phase_at, own_at, prev_at, cur_at, seat_word, put_seat, clear_words, seat_count_of, kind, start, end, marked, link, next, head, own, prev, cur, set_link, set_mark, set_phase, set_prev, set_cur, count_word, set_count}
use Rattle.rules.specs.Comparison.{claim_of, reads, compare, by_comparison}
use Rattle.rules.specs.Answers.{answer_of}
use Rattle.rules.specs.Steps.{entering, move_to, joined, unlink, pass, link_in, start_validating, once_linked, look_again, insert, kind_of, hold, withdraw, leave, walking, waiting_to_enter, reader_validating, writer_validating, validating, reader_waiting}
use Rattle.rules.proofs.Laws.Words.{put_seat_length, seat_within}
use Rattle.words.proofs.Places.{seats_within}

-- ---- lists
set_behind : (x l : List ℕ) (i v : ℕ) → set (x ++ l) (length x + i) v ≡ x ++ set l i v
set_behind [] l i v = ap (λ k. set l k v) (omega arith)
set_behind (a ∷ x) l i v =
    let e : length (a ∷ x) + i ≡ suc (length x + i) = omega arith in
    ap (λ k. set (a ∷ (x ++ l)) k v) e ∙ ap (λ r. a ∷ r) (set_behind x l i v)

module _ (before behind : List ℕ) (s : ℕ) where
  abbrev whole : List ℕ → List ℕ
  whole l = before ++ (l ++ behind)

  -- with the seat's words in their place
  abbrev pub placed : Tables → Tables
  placed u = tables u.sheet u.nodes (whole u.seats)

  pub record Placed (t u : Tables) : Type 0 where
    pub same : t ≡ placed u

  -- that place is the seat's, and all of its words are there
  abbrev pub Full : Tables → Type 0
  Full u = (length before ≡ seat_width u.sheet * s) × (seat_width u.sheet ≤ length u.seats)

  -- ---- reads and stores
  read : (u : Tables) → Full u → (f : ℕ) → f < seat_width u.sheet → seat_word u.sheet (whole u.seats) s f ≡ seat_word u.sheet u.seats 0 f
  unfolding seat_word
  read u (at_seat, long) f i =
      let l = u.seats in
      let e : f ≡ seat_width u.sheet * 0 + f = omega arith in
      ap (λ k. get_or (whole l) (k + f) 0) (sym at_seat) ∙ get_or-append-add before (l ++ behind) f 0 ∙ get_or-append l behind 0 f (omega arith)
      ∙ ap (λ k. get_or l k 0) e

  put : (u : Tables) → Full u → (f v : ℕ) → f < seat_width u.sheet → put_seat u.sheet (whole u.seats) s f v ≡ whole (put_seat u.sheet u.seats 0 f v)
  unfolding put_seat
  put u (at_seat, long) f v i =
      let l = u.seats in
      let e : f ≡ seat_width u.sheet * 0 + f = omega arith in
      ap (λ k. set (whole l) (k + f) v) (sym at_seat) ∙ set_behind before (l ++ behind) f v ∙ ap (λ r. before ++ r) (set-append_left l behind f v (omega arith))
      ∙ ap (λ k. whole (set l k v)) e

  still : (u : Tables) → Full u → (f v : ℕ) → Full (tables u.sheet u.nodes (put_seat u.sheet u.seats 0 f v))
  still u (at_seat, long) f v = (at_seat, rw (put_seat_length u.sheet u.seats 0 f v) long)

  -- ---- the seat alone
  phase_same : (u : Tables) → Full u → (p : ℕ) → set_phase (placed u) s p ≡ placed (set_phase u 0 p)
  phase_same u h p = rw (put u h phase_at p (omega arith))

  cur_same : (u : Tables) → Full u → (c : ℕ) → set_cur (placed u) s c ≡ placed (set_cur u 0 c)
  cur_same u h c = rw (put u h cur_at c (omega arith))

  place_same : (u : Tables) → Full u → (q c : ℕ) → set_cur (set_prev (placed u) s q) s c ≡ placed (set_cur (set_prev u 0 q) 0 c)
  place_same u h q c = rw (put u h prev_at q (omega arith), put (set_prev u 0 q) (still u h prev_at q) cur_at c (omega arith))

  move_same : (u : Tables) → Full u → (p q c : ℕ) → move_to (placed u) s p q c ≡ placed (move_to u 0 p q c)
  move_same u h p q c = rw (put u h phase_at p (omega arith)) (place_same (set_phase u 0 p) (still u h phase_at p) q c)

  clear_same : (u : Tables) → Full u → (n : ℕ) → n ≤ seat_width u.sheet → clear_words u.sheet n (whole u.seats) s ≡ whole (clear_words u.sheet n u.seats 0)
  unfolding clear_words
  clear_same u h zero i = refl
  clear_same u h (suc n) i = rw (clear_same u h n (omega arith)) (put (cleared n) (full_still n) n 0 (omega arith))
    where
      cleared : ℕ → Tables
      cleared n = tables u.sheet u.nodes (clear_words u.sheet n u.seats 0)

      full_still : (n : ℕ) → Full (cleared n)
      full_still zero = h
      full_still (suc n) = still (cleared n) (full_still n) n 0

  -- ---- either way
  if_placed : (b : Bool) {t u x y : Tables} → Placed t x → Placed u y → Placed (if b then t else u) (if b then x else y)
  if_placed true e f = e
  if_placed false e f = f

  comparison_placed : (z : ℤ) {t u v x y w : Tables} → Placed t x → Placed u y → Placed v w → Placed (by_comparison z t u v) (by_comparison z x y w)
  comparison_placed (pos (suc n)) e f g = e
  comparison_placed (pos zero) e f g = f
  comparison_placed (negsuc n) e f g = g

  -- ---- the rules
  module _ (u : Tables) (h : Full u) where
    phase_placed : (p : ℕ) → Placed (set_phase (placed u) s p) (set_phase u 0 p)
    phase_placed p = record { same = phase_same u h p }

    cur_placed : (c : ℕ) → Placed (set_cur (placed u) s c) (set_cur u 0 c)
    cur_placed c = record { same = cur_same u h c }

    place_placed : (q c : ℕ) → Placed (set_cur (set_prev (placed u) s q) s c) (set_cur (set_prev u 0 q) 0 c)
    place_placed q c = record { same = place_same u h q c }

    move_placed : (p q c : ℕ) → Placed (move_to (placed u) s p q c) (move_to u 0 p q c)
    move_placed p q c = record { same = move_same u h p q c }

    read_own : own (placed u) s ≡ own u 0
    read_own = read u h own_at (omega arith)

    read_prev : prev (placed u) s ≡ prev u 0
    read_prev = read u h prev_at (omega arith)

    read_cur : cur (placed u) s ≡ cur u 0
    read_cur = read u h cur_at (omega arith)

    joined_same : joined (placed u) s ≡ joined u 0
    unfolding joined
    joined_same = rw (read_prev, read_cur)

    pass_placed : Placed (pass (placed u) s) (pass u 0)
    unfolding pass
    pass_placed = rw read_cur (place_placed (cur u 0) (next u (cur u 0)))

    link_in_same : link_in (placed u) s ≡ placed (link_in u 0)
    unfolding link_in
    link_in_same = rw (read_own, read_prev, read_cur)

    start_placed : Placed (start_validating (placed u) s) (start_validating u 0)
    unfolding start_validating
    start_placed = rw read_own (if_placed (reads (claim_of u (own u 0))) (move_placed 3 (own u 0) (next u (own u 0))) (move_placed 3 0 (head u)))

    again_placed : Placed (look_again (placed u) s) (look_again u 0)
    unfolding look_again
    again_placed = rw read_prev (if_placed (marked u (prev u 0)) (place_placed 0 (head u)) (cur_placed (link u (prev u 0))))

    hold_placed : Placed (hold (placed u) s) (hold u 0)
    unfolding hold
    hold_placed = record { same = rw read_own (ap (λ t. set_count t (kind_of u 0) (count_word u (kind_of u 0) + 1)) (move_same u h 5 0 0)) }

    pub leave_placed : Placed (leave (placed u) s) (leave u 0)
    unfolding leave
    leave_placed = record { same = rw (read_own, clear_same u h (seat_width u.sheet) (omega arith)) }

  module _ (u : Tables) (h : Full u) where
    unlink_placed : Placed (unlink (placed u) s) (unlink u 0)
    unfolding unlink
    unlink_placed =
        rw (joined_same u h, read_prev u h, read_cur u h)
        (if_placed (joined u 0) (cur_placed (set_link u (prev u 0) (next u (cur u 0))) h (next u (cur u 0))) (cur_placed u h (next u (cur u 0))))

    withdraw_placed : Placed (withdraw (placed u) s) (withdraw u 0)
    unfolding withdraw
    withdraw_placed = rw (read_own u h) (move_placed (set_mark u (own u 0) 1) h 6 0 0)

    once_placed : Placed (once_linked (placed u) s) (once_linked u 0)
    unfolding once_linked
    once_placed = if_placed u.sheet (hold_placed u h) (start_placed u h)

  module _ (u : Tables) (h : Full u) where
    insert_placed : Placed (insert (placed u) s) (insert u 0)
    unfolding insert link_in
    insert_placed =
        rw (joined_same u h)
        (if_placed (joined u 0) (rw (link_in_same u h) (once_placed (link_in u 0) h)) (again_placed u h))

    reader_placed : Placed (reader_validating (placed u) s) (reader_validating u 0)
    unfolding reader_validating
    reader_placed =
        rw (read_cur u h, read_own u h)
        (if_placed (cur u 0 is 0 || end u (own u 0) ≤? start u (cur u 0)) (hold_placed u h)
        (if_placed (marked u (cur u 0)) (unlink_placed u h)
        (if_placed (reads (claim_of u (cur u 0))) (pass_placed u h) (phase_placed u h 4))))

    writer_placed : Placed (writer_validating (placed u) s) (writer_validating u 0)
    unfolding writer_validating
    writer_placed =
        rw (read_cur u h, read_own u h)
        (if_placed (cur u 0 is own u 0) (hold_placed u h)
        (if_placed (cur u 0 is 0) (withdraw_placed u h)
        (if_placed (marked u (cur u 0)) (unlink_placed u h)
        (if_placed (end u (cur u 0) ≤? start u (own u 0)) (pass_placed u h) (withdraw_placed u h)))))

    pub walking_placed : Placed (walking (placed u) s) (walking u 0)
    unfolding walking
    walking_placed =
        rw (read_cur u h, read_own u h)
        (if_placed (cur u 0 is 0) insert_placed
        (if_placed (marked u (cur u 0)) (unlink_placed u h)
        (comparison_placed (compare (claim_of u (cur u 0)) (claim_of u (own u 0))) (pass_placed u h) (phase_placed u h 2) insert_placed)))

    pub waiting_placed : Placed (waiting_to_enter (placed u) s) (waiting_to_enter u 0)
    unfolding waiting_to_enter
    waiting_placed = rw (read_cur u h) (if_placed (marked u (cur u 0)) (phase_placed u h 1) (record { same = refl }))

    pub validating_placed : Placed (validating (placed u) s) (validating u 0)
    unfolding validating
    validating_placed = rw (read_own u h) (if_placed (reads (claim_of u (own u 0))) reader_placed writer_placed)

    pub reader_waiting_placed : Placed (reader_waiting (placed u) s) (reader_waiting u 0)
    unfolding reader_waiting
    reader_waiting_placed = rw (read_cur u h) (if_placed (marked u (cur u 0)) (phase_placed u h 3) (record { same = refl }))

    pub entering_placed : Placed (entering (placed u) s) (entering u 0)
    unfolding entering
    entering_placed =
        record { same = ap (λ t. set_cur t s (head u)) (phase_same u h 1) ∙ cur_same (set_phase u 0 1) (still u h phase_at 1) (head u) }

    pub answer_placed : answer_of (placed u) s ≡ answer_of u 0
    unfolding answer_of
    answer_placed = rw (read u h phase_at (omega arith), read_own u h, read_cur u h)

-- ---- the part of a whole seat table in which the seat's words stand, from a up to e, is lent to a rule and comes back with these words
abbrev pub part : List ℕ → ℕ → ℕ → List ℕ
part t a e = take (e - a) (drop a t)

abbrev pub back : List ℕ → ℕ → ℕ → List ℕ → List ℕ
back t a e words = take a t ++ (words ++ drop (e - a) (drop a t))

module _ (sheet : Bool) (t : List ℕ) (s a e : ℕ) (starts : a ≡ seat_width sheet * s) (ends : e ≡ seat_width sheet * s + seat_width sheet) (is_seat : s < seat_count_of sheet t) where
  abbrev front : List ℕ
  front = take a t

  abbrev rear : List ℕ
  rear = drop (e - a) (drop a t)

  pub part_within : e ≤ length t
  part_within =
      let b = seat_within sheet s (seat_count_of sheet t) is_seat in
      let w = seats_within sheet t (seat_count_of sheet t) (seat_width sheet) refl refl in
      omega arith

  front_long : length front ≡ seat_width sheet * s
  front_long = length-take-le a t (let h = part_within in omega arith) ∙ starts

  pub part_full : seat_width sheet ≤ length (part t a e)
  part_full =
      let h = part_within in
      let d = length-drop a t in
      let l = length-take-le (e - a) (drop a t) (omega arith) in
      omega arith

  pub together : back t a e (part t a e) ≡ t
  together = ap (λ l. front ++ l) (take-append-drop (e - a) (drop a t)) ∙ take-append-drop a t

  -- what a rule does to the part, it does to the whole
  as_whole : (rule : Tables → ℕ → Tables)
      → ((u : Tables) → Full front rear s u → Placed front rear s (rule (placed front rear s u) s) (rule u 0))
      → (n n' l' : List ℕ) → tables sheet n' l' ≡ rule (tables sheet n (part t a e)) 0 → tables sheet n' (back t a e l') ≡ rule (tables sheet n t) s
  as_whole rule in_place n n' l' w =
      ap (λ (u : Tables). tables u.sheet u.nodes (back t a e u.seats)) w ∙ sym (in_place (tables sheet n (part t a e)) (front_long, part_full)).same ∙ ap (λ l. rule (tables sheet n l) s) together

  module _ (n n' l' : List ℕ) where
    pub walks : tables sheet n' l' ≡ walking (tables sheet n (part t a e)) 0 → tables sheet n' (back t a e l') ≡ walking (tables sheet n t) s
    walks = as_whole walking (walking_placed front rear s) n n' l'

    pub waits_to_enter : tables sheet n' l' ≡ waiting_to_enter (tables sheet n (part t a e)) 0 → tables sheet n' (back t a e l') ≡ waiting_to_enter (tables sheet n t) s
    waits_to_enter = as_whole waiting_to_enter (waiting_placed front rear s) n n' l'

    pub validates : tables sheet n' l' ≡ validating (tables sheet n (part t a e)) 0 → tables sheet n' (back t a e l') ≡ validating (tables sheet n t) s
    validates = as_whole validating (validating_placed front rear s) n n' l'

    pub waits_as_reader : tables sheet n' l' ≡ reader_waiting (tables sheet n (part t a e)) 0 → tables sheet n' (back t a e l') ≡ reader_waiting (tables sheet n t) s
    waits_as_reader = as_whole reader_waiting (reader_waiting_placed front rear s) n n' l'

    pub enters : tables sheet n' l' ≡ entering (tables sheet n (part t a e)) 0 → tables sheet n' (back t a e l') ≡ entering (tables sheet n t) s
    enters = as_whole entering (entering_placed front rear s) n n' l'

    pub leaves : tables sheet n' l' ≡ leave (tables sheet n (part t a e)) 0 → tables sheet n' (back t a e l') ≡ leave (tables sheet n t) s
    leaves = as_whole leave (leave_placed front rear s) n n' l'

  -- what is read of the part, is read of the whole
  pub same_answer : (n : List ℕ) → answer_of (tables sheet n (part t a e)) 0 ≡ answer_of (tables sheet n t) s
  same_answer n =
      sym (answer_placed front rear s (tables sheet n (part t a e)) (front_long, part_full)) ∙ ap (λ l. answer_of (tables sheet n l) s) together

  pub same_kind : (n : List ℕ) → kind_of (tables sheet n (part t a e)) 0 ≡ kind_of (tables sheet n t) s
  same_kind n =
      ap (λ o. kind (tables sheet n []) o)
      (sym (read_own front rear s (tables sheet n (part t a e)) (front_long, part_full)) ∙ ap (λ l. own (tables sheet n l) s) together)
