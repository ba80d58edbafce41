use Rattle.turn_counter.proofs.Asked.{session_does}
use Rattle.turn_counter.proofs.laws.a_pass_makes_what_is_asked.Goals as goal

pub returns : goal.returns
returns g c = λ refusal end old new ends.
    (session_does c.an_entry_is_read_back.ensures g.D.Disk.senses refusal end old new ends).1
