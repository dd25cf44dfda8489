-- `shape::is_sound` meets its promise.
use Rattle.shape.proofs.Tests.{fits, sound_not}
use Rattle.shape.proofs.is_sound.Goals as goal

pub words_sound-requires : goal.words_sound-requires
words_sound-requires g c = search fits

pub returns : goal.returns
returns g c = search sound_not
