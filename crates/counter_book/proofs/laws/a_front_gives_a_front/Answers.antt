use Rattle.counter_book.proofs.FrontLemmas.{front-is}
use Rattle.counter_book.proofs.laws.a_front_gives_a_front.Goals as goal

pub returns : goal.returns
returns c = front-is
