use Rattle.turn_desk.specs.Ledgers.{has_risen, left_in_doubt}
use Rattle.turn_desk.proofs.desk.Desk.with_turn.Given as goal

abbrev pub ghosts-give_back : goal.ghosts-give_back
ghosts-give_back g a = record {
  added = g.C.Call.added a._asked.value a._before.value a._out.now a.value;
  rose =
      has_risen (g.T.Ledgered.ledger a._before.value).faults (g.T.Ledgered.ledger a.value).faults;
  left = left_in_doubt (g.T.Ledgered.ledger a._before.value) (g.T.Ledgered.ledger a.value);
}
