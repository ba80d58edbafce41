use Rattle.std.proofs.Common.{take, arith}
use Rattle.message_session.proofs.Growing.{fills_same}
use Rattle.message_session.proofs.Windows.{window_grown, window_kept}
use Rattle.message_session.proofs.buffer.read_behind.Goals as goal

pub returns-in-Err-clause-fills_none : goal.returns-in-Err-clause-fills_none
returns-in-Err-clause-fills_none g c = fills_same _ _ _ _
    (window_kept c.args.bytes.now _ 0 c.args.end (omega (arith, c.requires))) c.in-Err.ensures.kept

pub returns-in-Ok-clause-fills : goal.returns-in-Ok-clause-fills
returns-in-Ok-clause-fills g c = record {
  taken = take c.in-Ok.count c.read.new.piece;
  lost = c.in-Ok.ensures.bytes;
  grown = window_grown c.args.bytes.now c.read.new.piece _ 0 c.args.end c.in-Ok.count (omega arith)
      (omega (arith, c.requires)) c.in-Ok.ensures.count;
}
