-- `shape::Nodes::seat_sound` meets its promise.
use Rattle.shape.proofs.Tests.{seat_idle, seat_walking, seat_waiting, seat_validating, seat_reader_waiting, seat_holding, seat_withdrawn, seat_resting, seat_no_phase}
use Rattle.shape.proofs.Nodes.seat_sound.Goals as goal

pub returns-in-0 : goal.returns-in-0
returns-in-0 g c = search seat_idle

pub returns-in-1 : goal.returns-in-1
returns-in-1 g c = search seat_walking

pub returns-in-2 : goal.returns-in-2
returns-in-2 g c = search seat_waiting

pub returns-in-3 : goal.returns-in-3
returns-in-3 g c = search seat_validating

pub returns-in-4 : goal.returns-in-4
returns-in-4 g c = search seat_reader_waiting

pub returns-in-5 : goal.returns-in-5
returns-in-5 g c = search seat_holding

pub returns-in-6 : goal.returns-in-6
returns-in-6 g c = search seat_withdrawn

pub returns-in-7 : goal.returns-in-7
returns-in-7 g c = search seat_resting

pub returns-in-8-to-4294967295 : goal.returns-in-8-to-4294967295
returns-in-8-to-4294967295 g c = search seat_no_phase
