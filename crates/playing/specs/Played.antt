-- What the functions of this crate hand on while a script is played. Nothing here need be believed: the promise of `play` is that of the
-- rules alone.
use Rattle.std.specs.Prelude.{ℕ, List, ◌++◌, Ok}
use Rattle.rules.specs.Tables.{Tables}
use Rattle.rules.specs.Means.{means_script}
use Rattle.rules.specs.Script as rule
use Rattle.rules.specs.Play.{Call, after_all, trace, turns_text, end_text}
use Rattle.rules.specs.declared.Script.{Script}

-- a script that is well formed, in the rules' words
abbrev pub read : Script → rule.Script
read script = means_script (Ok script)

-- everything that is printed of calls made on tables
unfoldable pub played_text : Tables → List Call → List ℕ
played_text t calls = turns_text 1 (trace t calls) ++ end_text (after_all t calls)
