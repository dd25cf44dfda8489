-- An answer's numbers stand for what it means, whatever the number of its refusal.
use borrow.Author.Tests.{ne_eqb}
use mathlib.Core.Path.{◌≡◌, refl}
use Rattle.std.specs.Prelude.{ℕ, Result, Ok, Err}
use Rattle.rules.specs.Answers.{refused}
use Rattle.rules.specs.Means.{means}
use Rattle.rules.specs.declared.Refused.{Refused}
use Rattle.rules.specs.declared.Reply.{Reply}
use Rattle.rules.specs.declared.Reply.TheVariants.{Node, Out, On, Wait, Held, Back}
use Rattle.replies.specs.Codes.{said_by, said_of, answer_by}
use Rattle.replies.specs.declared.Said.{Said}

pub answer_by_means : (r : Result Reply Refused) → answer_by (said_of r) ≡ means r
unfolding answer_by
answer_by_means (Ok (Node n)) = refl
answer_by_means (Ok Out) = refl
answer_by_means (Ok On) = refl
answer_by_means (Ok (Wait n first end)) = refl
answer_by_means (Ok Held) = refl
answer_by_means (Ok Back) = refl
answer_by_means (Err why) = refl

-- a refusal by any number, the one case that `means` leaves out
pub answer_by_refused : (number : ℕ) → answer_by (said_by (Err number)) ≡ refused number
unfolding answer_by
answer_by_refused number = refl

-- a code that is none of the answers'
pub refused_other : (s : Said) → (s.code ≡ 1 → ⊥) → (s.code ≡ 2 → ⊥) → (s.code ≡ 3 → ⊥) → (s.code ≡ 4 → ⊥) → (s.code ≡ 5 → ⊥) → (s.code ≡ 6 → ⊥) → answer_by s ≡ refused s.number
unfolding answer_by
refused_other s a b c d e f = rw (ne_eqb s.code 1 a, ne_eqb s.code 2 b, ne_eqb s.code 3 c, ne_eqb s.code 4 d, ne_eqb s.code 5 e, ne_eqb s.code 6 f)
