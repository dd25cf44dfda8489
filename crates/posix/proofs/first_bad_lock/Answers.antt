-- `posix::first_bad_lock` meets its promise.
use Rattle.std.proofs.Common.{rules}
use Rattle.posix.proofs.Calls.{locks_found}
use Rattle.posix.proofs.first_bad_lock.Goals as goal

pub returns : goal.returns
returns c = locks_found c.args.title c.args.locks.now _ (λ j r h s. search rules) c.first_bad.result c.first_bad.ensures
