-- The public calls as one law for each way through the code: n and t are the tables before, n' and t' after.
use Prim.Native.Nat.{ℕ, ◌+◌, ◌≤◌, ◌<◌, ◌*◌}
use mathlib.Core.Path.{◌≡◌, refl, sym, ap, ◌∙◌}
use mathlib.Core.Bool.{Bool, true, false, not}
use mathlib.Core.List.{List, []}
use mathlib.Core.Logic.{◌≢◌}
use native.Mathlib.Omega.{arith}
use lib.ListN.{length}
use borrow.Author.Tests.{eq-eqb, ne_eqb, le-leb, lt-leb, le-ltb, lt-ltb, not-true, not-false}
use Rattle.rules.specs.Tables.{Tables, tables, title_at, put_top, title, zeros, fresh, seat_word, seat_count_of, phase_at, seat_width}
use Rattle.std.specs.Prelude.{Option, None, Some, Result, Ok, Err}
use Rattle.rules.specs.declared.Refused.{Refused}
use Rattle.rules.specs.declared.Reply.{Reply}
use Rattle.rules.specs.Means.{means, means_done, means_count, number_of}
use Rattle.rules.proofs.Laws.Meanings.{some_number}
use Rattle.rules.specs.Comparison.{Claim, claim}
use Rattle.rules.specs.Shape.{lengths_fit, sound, may_claim}
use Rattle.rules.specs.Reach.{count_free}
use Rattle.rules.specs.Fetch.{fetch}
use Rattle.rules.specs.Answers.{Answer, node, out, refused, done, answer_of, on}
use Rattle.rules.specs.Steps.{leave, entering}
use Rattle.rules.specs.Calls.{clear, reserved, reserve, enter, step, release}
use Rattle.rules.specs.Run.{refusal_of}
use Rattle.rules.specs.FreeCount.{Counted, free_count}
use Rattle.rules.proofs.Laws.Words.{same_seat_count}
use Rattle.rules.proofs.Laws.Answers.{refused_as}
use Rattle.rules.proofs.Laws.Counts.{holder_counts}
use Rattle.rules.proofs.Laws.Shape.{lengths_fit_law}
use Rattle.rules.proofs.Rules.Accepting.{answers_from_phase, step_has_seat}
use Rattle.rules.proofs.Frames.Entered.{entering_says_on}
use Rattle.steps.specs.Parts.{count_of_kind}
use Rattle.steps.proofs.OwnWords as own
use Rattle.phases.specs.Parts.{unanswered}
use Rattle.phases.proofs.Ways.{its_refusal, its_tables}
use Rattle.fetch.proofs.Ways.{Took, none_kept, none_is, node_is}
use Rattle.shape.specs.Parts.{if_sound}
use Rattle.shape.proofs.Tests.{lent_sound, not_lent}
use Rattle.claims.specs.Parts.{reserve_fetching, reserve_claim, release_seat, enter_seat}

-- ---- clear
module _ (sheet : Bool) (n t : List ℕ) (z : ℕ) (b : Bool) (fits : b ≡ lengths_fit (tables sheet n t)) where
  pub clear_not : not b ≡ true → done 1 (tables sheet n t) ≡ clear (tables sheet n t) z
  unfolding clear
  clear_not e = rw (sym fits ∙ not-true b e)

  module _ (long : not b ≡ false) where
    pub clear_no_title : z ≡ 0 → done 3 (tables sheet n t) ≡ clear (tables sheet n t) z
    unfolding clear
    clear_no_title e = rw (sym fits ∙ not-false b long, eq-eqb z 0 e)

    pub clear_fits : (n' n'' t' : List ℕ) → n'' ≡ put_top n' title_at z → t' ≡ zeros (length t) → n' ≡ zeros (length n) → z ≢ 0
        → done 0 (tables sheet n'' t') ≡ clear (tables sheet n t) z
    unfolding clear fresh
    clear_fits n' n'' t' o p q d =
        let f = sym fits ∙ not-false b long in
        let l = lengths_fit_law (tables sheet n t) f in
        rw (f, ne_eqb z 0 d, o, p, q, l.nodes_length, l.seats_length)

-- ---- fetch's answer
module _ (sheet : Bool) (n t n' t' : List ℕ) (s : ℕ) (c : Claim) (r : Option ℕ) (took : Took r (tables sheet n' t') (fetch (tables sheet n t) s c)) where
  pub reserve_none : r ≡ None → done (refused 8) (tables sheet n' t') ≡ reserve_fetching (tables sheet n t) s c
  unfolding reserved
  reserve_none e =
      let w = rw e at took in
      rw (none_kept sheet n t n' t' s c w, ← none_is sheet n t n' t' s c w)

  pub reserve_node : (a : ℕ) → r ≡ Some a → done (node a) (tables sheet n' t') ≡ reserve_fetching (tables sheet n t) s c
  unfolding reserved
  reserve_node a e =
      let is = node_is sheet n t n' t' s c a (rw e at took) in
      rw (← is.0, ne_eqb a 0 is.1)

-- ---- reserve, past 2
module _ (sheet : Bool) (n t : List ℕ) (s x y k : ℕ) where
  pub reserve_empty : y ≤ x → done (refused 3) (tables sheet n t) ≡ reserve_claim (tables sheet n t) s (claim x y k)
  reserve_empty h = rw (le-leb y x h)

  module _ (z : ℕ) (is_title : z ≡ title (tables sheet n [])) (some : x < y) where
    pub reserve_beyond : z < y → done (refused 11) (tables sheet n t) ≡ reserve_claim (tables sheet n t) s (claim x y k)
    reserve_beyond h = rw (lt-leb y x some, ← is_title, lt-ltb z y h)

    module _ (b : Bool) (is_kind_of : b ≡ may_claim sheet k) (within : y ≤ z) where
      pub reserve_kind : not b ≡ true → done (refused 4) (tables sheet n t) ≡ reserve_claim (tables sheet n t) s (claim x y k)
      reserve_kind e = rw (lt-leb y x some, ← is_title, le-ltb z y within, sym is_kind_of ∙ not-true b e)

      module _ (p : ℕ) (is_phase : p ≡ seat_word sheet t s phase_at) where
        pub reserve_busy : p ≢ 0 → not b ≡ false → done (refused 5) (tables sheet n t) ≡ reserve_claim (tables sheet n t) s (claim x y k)
        reserve_busy d e = rw (lt-leb y x some, ← is_title, le-ltb z y within, sym is_kind_of ∙ not-false b e, ne_eqb (seat_word sheet t s phase_at) 0 (λ q. d (is_phase ∙ q)))

        pub reserve_idle : (n' t' : List ℕ) (r : Answer) → done r (tables sheet n' t') ≡ reserve_fetching (tables sheet n t) s (claim x y k) → p ≡ 0 → not b ≡ false → done r (tables sheet n' t') ≡ reserve_claim (tables sheet n t) s (claim x y k)
        reserve_idle n' t' r w q e = rw (lt-leb y x some, ← is_title, le-ltb z y within, sym is_kind_of ∙ not-false b e, eq-eqb (seat_word sheet t s phase_at) 0 (sym is_phase ∙ q)) w

-- ---- enter and release, past 2: the part from a up to e, which are the seat's own words, is lent, and l' is what they are then
module _ (sheet : Bool) (n t : List ℕ) (s p : ℕ) (is_phase : p ≡ seat_word sheet t s phase_at) where
  module _ (a e : ℕ) (starts : a ≡ seat_width sheet * s) (ends : e ≡ seat_width sheet * s + seat_width sheet) (is_seat : s < seat_count_of sheet t) (l' : List ℕ) where
    pub enter_reserved : tables sheet n l' ≡ entering (tables sheet n (own.part t a e)) 0 → p ≡ 7 → done on (tables sheet n (own.back t a e l')) ≡ enter_seat (tables sheet n t) s
    enter_reserved w q =
        let says = entering_says_on (tables sheet n t) s (let h = own.part_within sheet t s a e starts ends is_seat in omega arith) in
        rw (eq-eqb (seat_word sheet t s phase_at) 7 (sym is_phase ∙ q), own.enters sheet t s a e starts ends is_seat n n l' w)
        (ap (λ (x : Answer). done x (entering (tables sheet n t) s)) (sym says))

    pub release_holder : (n' : List ℕ) → tables sheet n' l' ≡ leave (tables sheet n (own.part t a e)) 0 → p ≡ 5 → done out (tables sheet n' (own.back t a e l')) ≡ release_seat (tables sheet n t) s
    release_holder n' w q = rw (eq-eqb (seat_word sheet t s phase_at) 5 (sym is_phase ∙ q), own.leaves sheet t s a e starts ends is_seat n n' l' w)

    pub one_to_take_off : sound (tables sheet n t) ≡ true → p ≡ 5 → 1 ≤ count_of_kind (tables sheet n (own.part t a e)) 0
    one_to_take_off z q = rw (own.same_kind sheet t s a e starts ends is_seat n) (holder_counts (tables sheet n t) z s is_seat (sym is_phase ∙ q))

  pub enter_other : (p ≡ 7 → ⊥) → done (refused 14) (tables sheet n t) ≡ enter_seat (tables sheet n t) s
  enter_other d = rw (ne_eqb (seat_word sheet t s phase_at) 7 (λ e. d (is_phase ∙ e)))

  pub release_other : (p ≡ 5 → ⊥) → done (refused 7) (tables sheet n t) ≡ release_seat (tables sheet n t) s
  release_other d = rw (ne_eqb (seat_word sheet t s phase_at) 5 (λ e. d (is_phase ∙ e)))

-- ---- refusals 1 and 2, the same in each call
module _ (sheet : Bool) (n t : List ℕ) (s : ℕ) where
  module _ (b : Bool) (is_sound_here : b ≡ sound (tables sheet n t)) where
    pub reserve_damaged : (x y k : ℕ) → b ≡ false → done (refused 1) (tables sheet n t) ≡ reserve (tables sheet n t) s (claim x y k)
    unfolding reserve
    reserve_damaged x y k e = rw (sym is_sound_here ∙ e)

    pub enter_damaged : b ≡ false → done (refused 1) (tables sheet n t) ≡ enter (tables sheet n t) s
    unfolding enter
    enter_damaged e = rw (sym is_sound_here ∙ e)

    pub step_damaged : b ≡ false → done (refused 1) (tables sheet n t) ≡ step (tables sheet n t) s
    unfolding step
    step_damaged e = rw (sym is_sound_here ∙ e)

    pub release_damaged : b ≡ false → done (refused 1) (tables sheet n t) ≡ release (tables sheet n t) s
    unfolding release
    release_damaged e = rw (sym is_sound_here ∙ e)

    pub reserve_past : (x y k c : ℕ) → c ≡ seat_count_of sheet t → c ≤ s → b ≡ true → done (refused 2) (tables sheet n t) ≡ reserve (tables sheet n t) s (claim x y k)
    unfolding reserve
    reserve_past x y k c p h e = rw (sym is_sound_here ∙ e, ← p, le-leb c s h)

    pub reserve_seat : (n' t' : List ℕ) (r : Answer) (x y k c : ℕ) → done r (tables sheet n' t') ≡ reserve_claim (tables sheet n t) s (claim x y k) → c ≡ seat_count_of sheet t → s < c → b ≡ true → done r (tables sheet n' t') ≡ reserve (tables sheet n t) s (claim x y k)
    unfolding reserve
    reserve_seat n' t' r x y k c w p h e = rw (sym is_sound_here ∙ e, ← p, lt-leb c s h) w

    pub enter_past : (c : ℕ) → c ≡ seat_count_of sheet t → c ≤ s → b ≡ true → done (refused 2) (tables sheet n t) ≡ enter (tables sheet n t) s
    unfolding enter
    enter_past c p h e = rw (sym is_sound_here ∙ e, ← p, le-leb c s h)

    pub enter_seat_law : (t' : List ℕ) (r : Answer) (c : ℕ) → done r (tables sheet n t') ≡ enter_seat (tables sheet n t) s → c ≡ seat_count_of sheet t → s < c → b ≡ true → done r (tables sheet n t') ≡ enter (tables sheet n t) s
    unfolding enter
    enter_seat_law t' r c w p h e = rw (sym is_sound_here ∙ e, ← p, lt-leb c s h) w

    pub release_past : (c : ℕ) → c ≡ seat_count_of sheet t → c ≤ s → b ≡ true → done (refused 2) (tables sheet n t) ≡ release (tables sheet n t) s
    unfolding release
    release_past c p h e = rw (sym is_sound_here ∙ e, ← p, le-leb c s h)

    pub release_seat_law : (n' t' : List ℕ) (r : Answer) (c : ℕ) → done r (tables sheet n' t') ≡ release_seat (tables sheet n t) s → c ≡ seat_count_of sheet t → s < c → b ≡ true → done r (tables sheet n' t') ≡ release (tables sheet n t) s
    unfolding release
    release_seat_law n' t' r c w p h e = rw (sym is_sound_here ∙ e, ← p, lt-leb c s h) w

    pub count_damaged : b ≡ false → Counted.refused 1 ≡ free_count (tables sheet n t)
    unfolding free_count
    count_damaged e = rw (sym is_sound_here ∙ e)

    pub count_sound : (k : ℕ) → k ≡ count_free (tables sheet n t) → b ≡ true → Counted.counted k ≡ free_count (tables sheet n t)
    unfolding free_count
    count_sound k p e = rw (sym is_sound_here ∙ e, p)

-- ---- step, its tables sound: by the refusal, or 0, that the step itself gives
module _ (sheet : Bool) (n t n' t' : List ℕ) (s r : ℕ) (stepped : done r (tables sheet n' t') ≡ unanswered (step (tables sheet n t) s)) where
  refusal : r ≡ refusal_of (step (tables sheet n t) s).answer
  refusal = its_refusal (step (tables sheet n t) s) r (tables sheet n' t') stepped

  after : tables sheet n' t' ≡ (step (tables sheet n t) s).after
  after = its_tables (step (tables sheet n t) s) r (tables sheet n' t') stepped

  pub still_there : r ≡ 0 → length t' ≡ length t → s < seat_count_of sheet t'
  still_there z e = rw (same_seat_count (tables sheet n t) (tables sheet n t') refl e) (step_has_seat (tables sheet n t) s (sym refusal ∙ z))

  module _ (z : r ≡ 0) (x y : ℕ) (starts : x ≡ seat_width sheet * s) (ends : y ≡ seat_width sheet * s + seat_width sheet) (long : length t' ≡ length t) where
    pub part_there : y ≤ length t'
    part_there = own.part_within sheet t' s x y starts ends (still_there z long)

    pub step_answered : (a : Answer) → a ≡ answer_of (tables sheet n' (own.part t' x y)) 0 → done a (tables sheet n' t') ≡ step (tables sheet n t) s
    step_answered a e =
        let said : (step (tables sheet n t) s).answer ≡ answer_of (step (tables sheet n t) s).after s = answers_from_phase (tables sheet n t) s (sym refusal ∙ z) in
        rw (e ∙ own.same_answer sheet t' s x y starts ends (still_there z long) n', after) (ap (λ (x : Answer). done x (step (tables sheet n t) s).after) (sym said))

  pub step_turned_away : r ≢ 0 → done (refused r) (tables sheet n' t') ≡ step (tables sheet n t) s
  step_turned_away d =
      let said : (step (tables sheet n t) s).answer ≡ refused (refusal_of (step (tables sheet n t) s).answer) = refused_as (step (tables sheet n t) s).answer (λ e. d (refusal ∙ e)) in
      rw (refusal, after) (ap (λ (x : Answer). done x (step (tables sheet n t) s).after) (sym said))

-- the same of what the step hands on: where it is refused, so is the call, with the same number
pub step_refused : (sheet : Bool) (n t n' t' : List ℕ) (s : ℕ) (r : Result (Unit {0}) Refused) (q : Result Reply Refused) → done (means_done r) (tables sheet n' t') ≡ unanswered (step (tables sheet n t) s)
    → (why : Refused) → r ≡ Err why → q ≡ Err why → done (means q) (tables sheet n' t') ≡ step (tables sheet n t) s
step_refused sheet n t n' t' s r q stepped why is told = rw told (step_turned_away sheet n t n' t' s (number_of why) (rw is at stepped) (some_number why))

-- free count, by what the test of its tables hands on: their refusal, or the tables as they are
module _ (t : Tables) (r : Result Tables Refused) (lent : r ≡ if_sound t) where
  pub count_refused : (why : Refused) (q : Result ℕ Refused) → r ≡ Err why → q ≡ Err why → means_count q ≡ free_count t
  count_refused why q is told =
      let damaged = not_lent t why (sym is ∙ lent) in
      rw (told, damaged.1) (count_damaged t.sheet t.nodes t.seats 0 (sound t) refl damaged.0)

  pub count_answered : (u : Tables) (k : ℕ) → r ≡ Ok u → k ≡ count_free u → Counted.counted k ≡ free_count t
  count_answered u k is counts =
      let same = lent_sound t u (sym is ∙ lent) in
      count_sound t.sheet t.nodes t.seats 0 (sound t) refl k (rw same.1 at counts) same.0
