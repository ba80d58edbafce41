use Rattle.sample_book.proofs.RoomLemmas.{room-enough}
use Rattle.sample_book.proofs.laws.room_is_enough.Goals as goal

pub returns : goal.returns
returns c = room-enough
