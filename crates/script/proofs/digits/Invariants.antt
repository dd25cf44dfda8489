-- `script::digits` meets its contract. The loop's invariant: the digits still to be read, after what is found so far, give the whole.
use Rattle.std.proofs.Common.{◌≡◌, ◌-◌}
use Rattle.rules.specs.Script.{digits_from}
use Rattle.script.proofs.digits.Given as goal

abbrev pub invariant-loop : goal.invariant-loop
invariant-loop l = digits_from l.src (9 - l.counter) l.so_far.next l.so_far.value ≡ digits_from l.src 9 l.initial.so_far.next l.initial.so_far.value
