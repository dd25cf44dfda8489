-- A walk alone, along joined nodes: within the nodes ahead of it and one step more the claim waits, or it is linked in. A writer that
-- has seen every claim of the list on its way is then sure to hold.
use Prim.Native.Nat.{ℕ, suc, ◌≤◌, ◌<◌}
use mathlib.Core.Path.{◌≡◌, refl, sym, ap, ◌∙◌}
use mathlib.Core.Bool.{Bool, true, false}
use mathlib.Core.Logic.{◌≢◌, ◌⊎◌, inl, inr}
use native.Mathlib.Omega.{arith}
use Rattle.rules.specs.Tables.{Tables, start_at, end_at, kind_at, mark_at, phase_at, own_at, prev_at, cur_at, start, end, kind, mark, link, next, head, phase, own, prev, cur}
use Rattle.rules.specs.Comparison.{claim_of}
use Rattle.rules.specs.Steps.{move_to, link_in, pass, hold}
use Rattle.rules.proofs.Ground.Deciding.{if_same}
use Rattle.rules.proofs.Ground.Following.{reach_source, not_from_0, beyond, Ends, ends_tail}
use Rattle.rules.specs.Reach.{Reach, here}
use Rattle.rules.specs.Reached.{Reached}
use Rattle.rules.proofs.Laws.Compared.{Precedes, apart, readers}
use Rattle.rules.proofs.Invariant.View.{walking, validating}
use Rattle.rules.proofs.Invariant.Phases.{outside_busy}
use Rattle.rules.proofs.Invariant.Clauses.{OnList, from_head, from_cur}
use Rattle.rules.proofs.Invariant.Known.{own_proper, ordered_along}
use Rattle.rules.proofs.Rules.RuleEffects.{pass_stored, start_stored}
use Rattle.rules.proofs.Rules.Reasons.{Joined, Starting, as_reader, as_writer, on_sheet, links_in, restarts, rereads, Walking, inserts, unlinks, passes, waits}
use Rattle.rules.proofs.Keeping.Good.{link_in_words}
use Rattle.rules.proofs.Keeping.Aside.{seat_room}
use Rattle.rules.proofs.Keeping.CallKeeps.{good}
use Rattle.rules.proofs.Waiting.Within.{Within, now, later, along_chain}
use Rattle.rules.proofs.Waiting.Alone.{alone, AtRest, rests_holding, rests_in, after_1, unlinked, is_not_joined}
use Rattle.rules.proofs.Waiting.WriterAlone.{ClearWay}

-- every claim that stands lies ahead of cur, or ends before own starts
abbrev pub SeenAll : ℕ → Tables → Type 0
SeenAll s t = (x : ℕ) → OnList (link t) x → mark t x ≢ 1 → Reach (link t) x (cur t s) ⊎ (end t x ≤ start t (own t s))

pub record WalkAt (N S s : ℕ) (known : Bool) (t : Tables) : Type 0 where
  pub reached : Reached N S t
  pub in_1 : phase t s ≡ 1
  pub joined : Joined t s
  pub seen_all : known ≡ true → kind t (own t s) ≢ 1 → SeenAll s t

pub data WalkEnds (N S s : ℕ) (known : Bool) (t : Tables) : Type 0 where
  at_rest : AtRest s t → WalkEnds N S s known t
  linked : t.sheet ≡ false → Reached N S t → phase t s ≡ 3 → (known ≡ true → kind t (own t s) ≢ 1 → ClearWay s t) → WalkEnds N S s known t

module _ {N S : ℕ} (s : ℕ) (s_in : s < S) (known : Bool) where
  -- a writer that is linked in where it has seen all has a clear way from the head
  clear_way : {t : Tables} → WalkAt N S s known t → (cur t s ≡ 0) ⊎ Precedes (claim_of t (own t s)) (claim_of t (cur t s))
      → Reached N S (move_to (link_in t s) s 3 0 (head (link_in t s))) → known ≡ true → kind t (own t s) ≢ 1
      → ClearWay s (move_to (link_in t s) s 3 0 (head (link_in t s)))
  unfolding link_in
  clear_way {t} r front g k ko =
      let u = move_to (link_in t s) s 3 0 (head (link_in t s)) in
      let w = start_stored t s (seat_room (good r.reached).aside s s_in) 3 0 (head (link_in t s)) in
      let own_is = w.at_s own_at (omega arith) in
      let cur_is = w.at_s cur_at (omega arith) in
      let same = link_in_words t s in
      let proper = (own_proper (good r.reached).inv s (outside_busy (walking r.in_1))).some in
      record {
        ahead = rw cur_is ((good g).inv.linked s (validating (w.at_s phase_at (omega arith)))).on_list;
        clear = rw (cur_is, own_is) (λ x rx ro ne mx.
            let owner = (good g).inv.owner rx mx in
            let j = owner.seat in
            let d : j ≢ s = λ q. ne (sym owner.owns ∙ ap (own u) q ∙ own_is) in
            let on : OnList (link t) x =
            rw (sym (w.others j own_at d (omega arith)) ∙ owner.owns) at
            ((good r.reached).inv.linked j (rw (w.others j phase_at d (omega arith)) at owner.linked)).on_list in
            rw (same x end_at (omega arith) (omega arith), same (own t s) start_at (omega arith) (omega arith))
            (elim (r.seen_all k ko x on (rw (same x mark_at (omega arith) (omega arith)) at mx)) [
              | inr l ↦ l
              | inl q ↦ absurd (
                  let a = (ordered_along (good r.reached).inv (from_cur s (here (reach_source q))) q).starts in
                  let c = rw (same x start_at (omega arith) (omega arith), same (own t s) start_at (omega arith) (omega arith)) at
                  (ordered_along (good g).inv (from_head rx) ro).starts in
                  elim front [ inl z ↦ not_from_0 q z | inr z ↦ elim z [ apart y ↦ omega arith | readers y y' y'' ↦ ko y ] ])
            ]));
      }

  starts : {t u : Tables} → WalkAt N S s known t → (cur t s ≡ 0) ⊎ Precedes (claim_of t (own t s)) (claim_of t (cur t s))
      → Starting (link_in t s) s u → Reached N S u → WalkEnds N S s known u
  unfolding link_in hold
  starts {t} r front (as_reader n x) g =
      let w = start_stored t s (seat_room (good r.reached).aside s s_in) 3 (own t s) (next (link_in t s) (own t s)) in
      linked n g (w.at_s phase_at (omega arith)) (λ k ko. absurd (ko (ap (kind (link_in t s)) (w.at_s own_at (omega arith)) ∙ x)))
  starts {t} r front (as_writer n x) g =
      let w = start_stored t s (seat_room (good r.reached).aside s s_in) 3 0 (head (link_in t s)) in
      linked n g (w.at_s phase_at (omega arith)) (λ k ko. clear_way r front g k (λ q. x (link_in_words t s (own t s) kind_at (omega arith) (omega arith) ∙ q)))
  starts {t} r front (on_sheet q) g =
      at_rest (rests_holding ((start_stored t s (seat_room (good r.reached).aside s s_in) 5 0 0).at_s phase_at (omega arith)))

  one_step : (m k : ℕ) (t : Tables) → WalkAt N S s known t → Ends (link t) (cur t s) k
      → ((u : Tables) → WalkAt N S s known u → (j : ℕ) → Ends (link u) (cur u s) j → j < k → Within (alone s) (WalkEnds N S s known) m u)
      → {u : Tables} → Walking t s u → Reached N S u → Within (alone s) (WalkEnds N S s known) m u
  unfolding pass
  one_step m k t r e on (inserts f (links_in j st)) g = now (starts r f st g)
  one_step m k t r e on (inserts f (restarts x y)) g = absurd (is_not_joined t s x r.joined)
  one_step m k t r e on (inserts f (rereads x y)) g = absurd (is_not_joined t s x r.joined)
  one_step m k t r e on (waits c mk f f') g = now (at_rest (rests_in r.reached s s_in 2 (inl refl) mk))
  one_step m k t r e on (unlinks c mk w) g =
      let f = unlinked s s_in r.reached c w in
      let z = ends_tail e c in
      let y = f.ends z.1 in
      on _ (record {
        reached = g;
        in_1 = f.same_phase ∙ r.in_1;
        joined = record {
          unmarked = rw (f.same_prev, f.same_word (prev t s) mark_at (omega arith) (omega arith)) r.joined.unmarked;
          to_cur = rw (f.same_prev, f.on_to_next) (f.still_joined r.joined);
        };
        seen_all = λ q ko. rw (f.same_own, f.on_to_next) (λ x ox mx.
            let m₁ : mark t x ≢ 1 = rw (f.same_word x mark_at (omega arith) (omega arith)) at mx in
            let d : x ≢ cur t s = λ q. m₁ (ap (mark t) q ∙ mk) in
            rw (f.same_word x end_at (omega arith) (omega arith), f.same_word (own t s) start_at (omega arith) (omega arith))
            (elim (r.seen_all q (rw (f.same_own, f.same_word (own t s) kind_at (omega arith) (omega arith)) at ko) x (f.list_adds_none ox) m₁)
            [ inl y ↦ inl (f.keeps d (beyond (λ q. d (sym q)) y)) | inr l ↦ inr l ]));
      })
      y.0 (rw f.on_to_next y.1) (omega arith)
  one_step m k t r e on (passes c mk f) g =
      let w = pass_stored t s (seat_room (good r.reached).aside s s_in) in
      let z = ends_tail e c in
      let own_is = w.at_s own_at (omega arith) in
      let prev_is = w.at_s prev_at (omega arith) in
      let cur_is = w.at_s cur_at (omega arith) in
      on (pass t s) (record {
        reached = g;
        in_1 = w.at_s phase_at (omega arith) ∙ r.in_1;
        joined = record { unmarked = rw prev_is mk; to_cur = rw (prev_is, cur_is) };
        seen_all = λ q ko. rw (own_is, cur_is) (λ x ox mx.
            let ko' : kind t (own t s) ≢ 1 = rw own_is at ko in
            elim (r.seen_all q ko' x ox mx) [
              | inr l ↦ inr l
              | inl y ↦ if_same (cur t s) x
                  (λ q. inr (rw (← q) (elim f [ apart h ↦ h | readers h h' h'' ↦ absurd (ko' h') ])))
                  (λ q. inl (beyond q y))
            ]);
      })
      z.0 (rw cur_is z.1) (omega arith)

  pub walk_ends : (m : ℕ) {t : Tables} → WalkAt N S s known t → (k : ℕ) → Ends (link t) (cur t s) k → k ≤ m
      → Within (alone s) (WalkEnds N S s known) (suc m) t
  walk_ends m {t} =
      along_chain {P = WalkEnds N S s known} {R = WalkAt N S s known} (λ t. cur t s)
      (λ m k t r e on. later {k = m} (after_1 s s_in r.reached (Within (alone s) (WalkEnds N S s known) m) r.in_1 (λ u w gu. one_step m k t r e on w gu)))
      m t
