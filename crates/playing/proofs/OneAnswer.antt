-- The promise of `play` settles what it gives back: two results that meet it on the same bytes and the same buffer are equal, in the count
-- and in every byte of the buffer. It is the promise itself that is cited, as the checker reads it from the source.
use mathlib.Core.Path.{◌≡◌, sym, ap, ◌∙◌}
use mathlib.Core.List.{List, ◌++◌}
use Prim.Native.Nat.{ℕ}
use lib.ListN.{length, take, drop, take-append-drop}
use Rattle.rules.proofs.Laws.OneAnswer.{Settles, one_value}
use Rattle.playing.proofs.play.Reads as play
use Rattle.playing.proofs.play.Kinds as kinds

-- a count and a buffer are given by what stands before the count and what stands from it on
split_is : (text rest m : List ℕ) (a : ℕ) → take a m ≡ text → drop a m ≡ rest → m ≡ text ++ rest
split_is text rest m a p r = rw (← p, ← r) (sym (take-append-drop a m))

module _ (text l m n : List ℕ) (a b : ℕ) (p : take a m ≡ text) (q : take b n ≡ text) (c : a ≡ length (take a m)) (d : b ≡ length (take b n)) where
  one_length : a ≡ b
  one_length = one_value (c ∙ ap length p) (d ∙ ap length q)

  pub one_text : drop a m ≡ drop a l → drop b n ≡ drop b l → (a ≡ b) × (m ≡ n)
  one_text r s = (one_length, one_value (split_is text (drop b l) m a p (rw (← one_length) r)) (split_is text (drop b l) n b q s))

pub one_playing : Settles kinds.ps kinds.r play.Post (λ κs s. s.1.0.now)
one_playing κs args a b s t p q = one_text _ _ _ _ a b p.0 q.0 p.1.1.0.1 q.1.1.0.1 p.1.0 q.1.0
