-- What is lent where no rows are.
use Rattle.std.specs.Prelude.{List, replicate}
use Rattle.rules.specs.declared.Row.{Row}

-- a row for each seat, with nothing shown
abbrev pub no_rows : List Row
no_rows = replicate 64 (record { seat = 0; first = 0; end = 0; kind = 0 })
