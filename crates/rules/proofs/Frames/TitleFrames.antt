-- No call but clear changes the title, and where no node's claim ends beyond it, none does after a call: reserve tests the claim that it writes, and a
-- step that fetches again writes the claim that its seat has. Of any tables, reached or not.
use Prim.Native.Nat.{ℕ, ◌≤◌}
use mathlib.Core.Path.{◌≡◌, refl, sym, ap, ◌∙◌}
use mathlib.Core.Bool.{false, Bool}
use mathlib.Core.List.{List}
use native.Mathlib.Omega.{arith}
use Rattle.rules.specs.Notation.{◌is◌}
use Rattle.rules.specs.Tables.{Tables, node_count, seat_count, title_at, count_at, start_at, end_at, kind_at, mark_at, put_node, put_link, title, end, own, fresh}
use Rattle.rules.specs.Comparison.{Claim}
use Rattle.rules.specs.Shape.{sound}
use Rattle.rules.specs.Fetch.{Fetched, write_claim, reserve_for, take_node, taken_out}
use Rattle.rules.specs.Answers.{Answer, node, refused, Done, done}
use Rattle.rules.specs.Steps.{kind_of, refetched}
use Rattle.rules.specs.Calls.{clear, reserved, reserve}
use Rattle.rules.specs.Play.{Call, reserve_call, enter_call, step_call, release_call, call}
use Rattle.rules.specs.Reached.{Request, after_requests, Reached}
use Rattle.rules.specs.Refusing.{WithinTitle, damaged}
use Rattle.rules.specs.Apart.{NodesKept, NoNode}
use Rattle.rules.specs.Title.{AllWithin, ReservesBeyond}
use Rattle.rules.proofs.Ground.Logic.{branch, not_of}
use Rattle.rules.proofs.Laws.Words.{node_put_field, node_put_link, node_put_has, count_not_title, fresh_title, fresh_node_word}
use Rattle.rules.proofs.Laws.Shape.{is_sound}
use Rattle.rules.proofs.Laws.RunSteps.{requests_keep, reached_has}
use Rattle.rules.proofs.Rules.Reasons.{Fetching, found, found_then, none, Stepping, in_1, in_2, in_3, in_4, in_6, in_7, at_rest}
use Rattle.rules.proofs.Rules.Accepting.{refusal_tells, Reserving, reserve_refused, reserve_accepted, reserving, Entering, enter_refused, enter_accepted, enters, Stepped, step_refused, step_accepted, stepped, Releasing, release_refused, release_accepted, releasing}
use Rattle.rules.proofs.Rules.RefusedExactly.{not_refused, call_by_table, table_refused, clear_accepted}
use Rattle.rules.proofs.Frames.NodeFrames.{walking, waking, validating, leaving, fetching, taking, taking_out, entering_kept}

-- from t to u the title stays, and so does that all claims are within it
pub record Stays (t u : Tables) : Type 0 where
  pub same_title : title u ≡ title t
  pub still_within : AllWithin t → AllWithin u

as_found : (t : Tables) → Stays t t
as_found t = record { same_title = refl; still_within = λ w. w }

-- ---- where no claim is written
kept_title : {L M C P : ℕ → Type 0} {t u : Tables} → (P title_at → ⊥) → NodesKept L M C P t u → title u ≡ title t
kept_title d f = f.word_at title_at (omega arith) (omega arith) d

kept_stays : {L M P : ℕ → Type 0} {t u : Tables} → (P title_at → ⊥) → NodesKept L M NoNode P t u → Stays t u
kept_stays d f = record {
  same_title = kept_title d f;
  still_within = λ w. record {
    some = rw (kept_title d f) w.some;
    within = λ a. rw (kept_title d f, ap (λ (c : Claim). c.end) (f.claim_kept a (λ z. z))) (w.within a);
  };
}

not_own_count : (t : Tables) (s : ℕ) → title_at ≡ count_at (kind_of t s) → ⊥
not_own_count t s e = count_not_title (kind_of t s) (sym e)

-- ---- where fetch writes one
written_at_most : (t : Tables) (a b most : ℕ) (c : Claim) → c.end ≤ most → end t b ≤ most → end (write_claim t a c) b ≤ most
unfolding write_claim
written_at_most t a b most c i j =
    let l₁ = put_node t.sheet t.nodes a start_at c.start in
    let l₂ = put_node t.sheet l₁ a end_at c.end in
    let l₃ = put_node t.sheet l₂ a kind_at c.kind in
    rw (
      node_put_field t.sheet (put_link t.sheet l₃ a 0) a b mark_at end_at 0 (omega arith) (omega arith) (omega arith),
      node_put_link t.sheet l₃ a b end_at 0 (omega arith) (omega arith),
      node_put_field t.sheet l₂ a b kind_at end_at c.kind (omega arith) (omega arith) (omega arith),
    )
    (node_put_has (λ x. x ≤ most) t.sheet l₁ a b end_at c.end i
    (rw (node_put_field t.sheet t.nodes a b start_at end_at c.start (omega arith) (omega arith) (omega arith)) j))

taken_within : (t : Tables) (s a : ℕ) (c : Claim) → WithinTitle t c → AllWithin t → AllWithin (take_node t s a c)
unfolding take_node reserve_for
taken_within t s a c i w =
    let same = kept_title (λ z. z) (taking t a c s) in
    record { some = rw same w.some; within = λ b. rw same (written_at_most t a b (title t) c i (w.within b)) }

out_stays : (t : Tables) → Stays t (taken_out t)
out_stays t = kept_stays (λ z. z) (taking_out t)

fetched_within : {t : Tables} {s : ℕ} {c : Claim} {f : Fetched} → Fetching t s c f → WithinTitle t c → AllWithin t → AllWithin f.after
fetched_within {t} {s} {c} (found a e z) i w = taken_within t s a c i w
fetched_within {t} {s} {c} (found_then a e e' z) i w =
    let out = out_stays t in
    taken_within (taken_out t) s a c (rw out.same_title i) (out.still_within w)
fetched_within (none e e') i w = w

fetch_stays : {t : Tables} {s : ℕ} {c : Claim} {f : Fetched} → (AllWithin t → WithinTitle t c) → Fetching t s c f → Stays t f.after
fetch_stays i f = record { same_title = kept_title (λ z. z) (fetching f); still_within = λ w. fetched_within f (i w) w }

-- ---- the calls
module _ (t : Tables) (s : ℕ) where
  stepping_stays : {d : Done Answer} → Stepping t s d → Stays t d.after
  unfolding refetched
  stepping_stays (in_1 e w) = kept_stays (λ z. not_own_count t s z.1) (walking t s w)
  stepping_stays (in_2 e w) = kept_stays (λ z. z) (waking t s w)
  stepping_stays (in_3 e w) = kept_stays (not_own_count t s) (validating t s w)
  stepping_stays (in_4 e w) = kept_stays (λ z. z) (waking t s w)
  stepping_stays (in_6 {f = f} e w) =
      branch (λ (d : Done Answer). Stays t d.after) (f.node is 0)
      (λ z. as_found t) (λ z. fetch_stays (λ all. all.within (own t s)) w)
  stepping_stays (in_7 e) = kept_stays (λ z. z) (entering_kept t s)
  stepping_stays (at_rest d₁ d₂ d₃ d₄ d₆ d₇) = as_found t

  stepped_stays : {d : Done Answer} → Stepped t s d → Stays t d.after
  stepped_stays (step_refused k x) = as_found t
  stepped_stays (step_accepted e h b w) = stepping_stays w

  reserved_stays : {c : Claim} {d : Done Answer} → Reserving t s c d → Stays t d.after
  unfolding reserved
  reserved_stays (reserve_refused k x) = as_found t
  reserved_stays (reserve_accepted {f = f} e h p k i z w) =
      branch (λ (d : Done Answer). Stays t d.after) (f.node is 0)
      (λ q. as_found t) (λ q. fetch_stays (λ all. i) w)

  entered_stays : {d : Done Answer} → Entering t s d → Stays t d.after
  entered_stays (enter_refused k x) = as_found t
  entered_stays (enter_accepted e h p) = kept_stays (λ z. z) (entering_kept t s)

  released_stays : {d : Done Answer} → Releasing t s d → Stays t d.after
  released_stays (release_refused k x) = as_found t
  released_stays (release_accepted e h p) = kept_stays (not_own_count t s) (leaving t s)

pub call_stays : (t : Tables) (c : Call) → Stays t (call t c).after
unfolding call
call_stays t (reserve_call s c) = reserved_stays t s (reserving t s c)
call_stays t (enter_call s) = entered_stays t s (enters t s)
call_stays t (step_call s) = stepped_stays t s (stepped t s)
call_stays t (release_call s) = released_stays t s (releasing t s)

pub within_kept : (t : Tables) (c : Call) → AllWithin t → AllWithin (call t c).after
within_kept t c = (call_stays t c).still_within

-- and so over any requests
pub title_kept : (t : Tables) (requests : List Request) → title (after_requests t requests) ≡ title t
title_kept t requests = requests_keep (λ u. title u ≡ title t) (λ u c e. (call_stays u c).same_title ∙ e) requests t refl

pub all_kept : (t : Tables) (requests : List Request) → AllWithin t → AllWithin (after_requests t requests)
all_kept t requests = requests_keep AllWithin within_kept requests t

-- ---- a claim is taken only within the title, and nothing but a reserve is refused for ending beyond it
reserved_within : {t : Tables} {s n : ℕ} {c : Claim} {d : Done Answer} → Reserving t s c d → d.answer ≡ node n → WithinTitle t c
reserved_within (reserve_refused k x) q = not_refused (sym q)
reserved_within (reserve_accepted e h p k i z w) q = i

pub node_within : (t : Tables) (s n : ℕ) (c : Claim) → (reserve t s c).answer ≡ node n → WithinTitle t c
node_within t s n c = reserved_within (reserving t s c)

pub refused_11 : (t : Tables) (c : Call) → (call t c).answer ≡ refused 11 → ReservesBeyond t c
refused_11 t c q = (refusal_tells (call_by_table t c 11 q)).if_11 refl

-- ---- damage
pub beyond_damaged : (t : Tables) → (AllWithin t → ⊥) → sound t ≡ false
beyond_damaged t w = not_of (sound t) (λ e. w (is_sound t e).all_within)

pub beyond_refused : (t : Tables) → (AllWithin t → ⊥) → (c : Call) → call t c ≡ done (refused 1) t
beyond_refused t w c = table_refused t c 1 (damaged (beyond_damaged t w))

-- ---- fresh tables: every end is 0
fresh_within : (sheet : Bool) (N S frames : ℕ) → 1 ≤ frames → AllWithin (fresh sheet N S frames)
fresh_within sheet N S frames h =
    record { some = rw (fresh_title sheet N S frames) h; within = λ a. rw (fresh_node_word sheet N S frames a end_at) (omega arith) }

pub clear_title : (t : Tables) (frames : ℕ) → (clear t frames).answer ≡ 0 → title (clear t frames).after ≡ frames
clear_title t frames e = rw (clear_accepted t frames e).makes_fresh (fresh_title t.sheet (node_count t) (seat_count t) frames)

pub clear_within : (t : Tables) (frames : ℕ) → (clear t frames).answer ≡ 0 → AllWithin (clear t frames).after
clear_within t frames e =
    rw (clear_accepted t frames e).makes_fresh (fresh_within t.sheet (node_count t) (seat_count t) frames (let d = (clear_accepted t frames e).some_frames in omega arith))

pub reached_within : {N S : ℕ} {t : Tables} → Reached N S t → AllWithin t
reached_within {N} {S} r = reached_has AllWithin within_kept (λ sheet. fresh_within sheet N S) r
