-- What holds of every script as it is read, and is asked by whoever plays one: a node, a seat and a title with a frame at least, and no more of each than
-- the tables have. And what holds of all that the rules read, a script that they refuse too.
use Rattle.std.specs.Prelude.{◌≤◌, ◌≡◌, length}
use Rattle.rules.specs.Script as rule
use Rattle.rules.specs.declared.Script.{Script}

pub record Bounded (script : Script) : Type 0 where
  pub nodes : script.n ≤ 256
  pub seats : script.s ≤ 64
  pub calls : script.k ≤ 1000
  pub rows : length script.rows ≡ 1000
  pub some_nodes : 1 ≤ script.n
  pub some_seats : 1 ≤ script.s
  pub some_frames : 1 ≤ script.title

pub record ReadOrRefused (script : rule.Script) : Type 0 where
  pub nodes : script.n ≤ 256
  pub seats : script.s ≤ 64
  pub calls : script.k ≤ 1000
  pub rows : length script.rows ≡ 1000
  -- a script that is not refused has a node, a seat and a title with a frame
  pub some_nodes : script.refusal ≡ 0 → 1 ≤ script.n
  pub some_seats : script.refusal ≡ 0 → 1 ≤ script.s
  pub some_frames : script.refusal ≡ 0 → 1 ≤ script.title
