use Rattle.export_heard.proofs.Asking.{turns_ask}
use Rattle.export_heard.proofs.laws.a_session_asks_what_it_hears.Goals as goal

pub returns : goal.returns
returns g c = turns_ask g.T.Counter.asks
