-- A page: a buffer and the place where the next byte goes. A byte that finds no room is left out, so writing is total.
use Rattle.std.specs.Prelude.{◌≡◌, ℕ, ◌+◌, List, [], ◌∷◌, length, set, if◌then◌else◌}
use Rattle.rules.specs.Notation.{◌<?◌}
use Rattle.text.specs.declared.Page.{Page as Lent}

pub record Page : Type 0 where
  pub buffer : List ℕ
  pub next : ℕ

abbrev pub page : List ℕ → ℕ → Page
page buffer next = record { buffer = buffer; next = next }

-- what a lent page holds
abbrev pub page_of : Lent → Page
page_of p = page p.out.now p.at

-- a byte more, if there is room
unfoldable pub put : Page → ℕ → Page
put p b =
    if p.next <? length p.buffer then page (set p.buffer p.next b) (p.next + 1)
    else p

-- a text more
unfoldable pub puts : Page → List ℕ → Page
puts p [] = p
puts p (b ∷ text) = puts (put p b) text

-- a text was put on a lent page: it is the same buffer still, and the text stands there
pub record Prints (before after : Lent) (text : List ℕ) : Type 0 where
  pub same_buffer : after.out.ghost_name ≡ before.out.ghost_name
  pub is_printed : page_of after ≡ puts (page_of before) text
