-- Taking the marked nodes off a list that ends: the walk that relinks it gives the rule's tables.
use Prim.Native.Nat.{ℕ, zero, suc, ◌≤◌}
use mathlib.Core.Path.{◌≡◌, refl, sym, ap, ◌∙◌}
use mathlib.Core.Logic.{◌≢◌}
use native.Mathlib.Omega.{arith}
use Rattle.rules.specs.Tables.{Tables, node_count, next, head, mark, set_link}
use Rattle.rules.specs.Fetch.{kept_from, kept, link_through, taken_out}
use Rattle.rules.specs.Stores.{ListEnds}
use Rattle.rules.proofs.Laws.Kept.{through_end, through_more, kept_end, kept_in, kept_out, At, at_end, at_skip, at_stored, at_head, stored_next, kept_stored}

-- ---- the walk that relinks: what is left to do gives the whole
pub record Going (whole t : Tables) (h prev cur : ℕ) : Type 0 where
  pub rest : link_through t prev (kept_from h t cur) ≡ whole
  pub stands : At t h prev cur

pub going_start : (t : Tables) → ListEnds t → Going (taken_out t) t (node_count t) 0 (head t)
unfolding taken_out kept
going_start t e = record { rest = refl; stands = at_head t e }

module _ (whole t : Tables) (prev cur : ℕ) where
  pub going_end : (h : ℕ) → Going whole t h prev cur → cur ≡ 0 → set_link t prev 0 ≡ whole
  going_end h g e = sym (through_end t prev) ∙ ap (link_through t prev) (sym (kept_end h t cur e)) ∙ g.rest

  -- there are hops left
  pub going_left : (h : ℕ) → Going whole t h prev cur → cur ≢ 0 → 1 ≤ h
  going_left zero g z = absurd (z (at_end g.stands))
  going_left (suc h) g z = omega arith

  pub going_skip : (h : ℕ) → Going whole t (suc h) prev cur → cur ≢ 0 → mark t cur ≡ 1 → Going whole t h prev (next t cur)
  going_skip h g z m = record { rest = ap (link_through t prev) (sym (kept_out h t cur z m)) ∙ g.rest; stands = at_skip g.stands z m }

  pub going_keep : (h : ℕ) → Going whole t (suc h) prev cur → cur ≢ 0 → mark t cur ≢ 1 → Going whole (set_link t prev cur) h cur (next t cur)
  going_keep h g z m =
      rw (← stored_next g.stands z cur)
      (record {
        rest = ap (link_through (set_link t prev cur) cur) (kept_stored g.stands z)
            ∙ sym (through_more t prev cur (kept_from h t (next t cur))) ∙ ap (link_through t prev) (sym (kept_in h t cur z m)) ∙ g.rest;
        stands = at_stored g.stands z;
      })
