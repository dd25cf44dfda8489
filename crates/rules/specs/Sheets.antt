-- The words in which request (viii) of 02 is proved: a catalogue of writers only. proofs/Sheets.antt says with them what is so of a sheet and not of the
-- ordinary tables; all else that is proved is proved of both.
use Rattle.std.specs.Prelude.{ℕ, ◌≤◌, ◌≡◌, true, List}
use Rattle.rules.specs.Tables.{Tables, start, end, own}
use Rattle.rules.specs.Answers.{Answer, held, wait, done}
use Rattle.rules.specs.Calls.{step}
use Rattle.rules.specs.Apart.{Holds, Neighbours}
use Rattle.rules.specs.Cause.{Cause}

-- the tables are a writers' sheet
abbrev pub OnSheet : Tables → Type 0
OnSheet t = t.sheet ≡ true

-- "phases 0, 1, 2, 5 and 7"
pub data SheetPhase (p : ℕ) : Type 0 where
  idle : p ≡ 0 → SheetPhase p
  walking : p ≡ 1 → SheetPhase p
  waiting : p ≡ 2 → SheetPhase p
  holding : p ≡ 5 → SheetPhase p
  reserved : p ≡ 7 → SheetPhase p

-- "kind 2 only": a node has no claim, or one that writes
pub data SheetKind (k : ℕ) : Type 0 where
  none : k ≡ 0 → SheetKind k
  writes : k ≡ 2 → SheetKind k

-- 000's Invariant 1, "R1.end ≤ R2.start" of two neighbours: the first ends before the second starts, or where it does
abbrev pub OneAfterTheOther : Tables → List ℕ → Type 0
OneAfterTheOther t = Neighbours (λ a b. end t a ≤ start t b)

-- the node is that of a seat that holds
pub record HolderOf (t : Tables) (a : ℕ) : Type 0 where
  pub seat : ℕ
  pub owns : own t seat ≡ a
  pub holds : Holds t seat

-- why seat s waits at node n, on a sheet: the claim there is not only linked in, its seat holds
pub record WaitsAtHolder (t : Tables) (s n first end : ℕ) : Type 0 where
  pub cause : Cause t s n first end
  pub holds : Holds t cause.seat

-- how it stands with a claim that need not be stepped on, and what a step answers, which changes nothing: it holds, or it waits at one that does. There
-- is no third way
pub data SheetSettled (t : Tables) (s : ℕ) : Type 0 where
  holds : Holds t s → step t s ≡ done held t → SheetSettled t s
  waits : (n first end : ℕ) → step t s ≡ done (wait n first end) t → WaitsAtHolder t s n first end → SheetSettled t s

-- what a step of such a claim told the worker, and how the tables then are
pub data SheetTold (s : ℕ) (answer : Answer) (t : Tables) : Type 0 where
  told_held : answer ≡ held → Holds t s → SheetTold s answer t
  told_wait : (n first end : ℕ) → answer ≡ wait n first end → WaitsAtHolder t s n first end → SheetTold s answer t
