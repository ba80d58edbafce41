use Rattle.std.proofs.Common.{◌++◌, refl}
use Rattle.request_texts.proofs.Pieces.{part_behind}
use Rattle.request_texts.proofs.writing.write_both.Goals as goal

pub returns-clause-part : goal.returns-clause-part
returns-clause-part g c =
    part_behind (c.args.first.now ++ c.args.second.now) c.args.first.now c.args.second.now refl
    _ _ _ c.write_whole-2.result c.in_ok-write_whole.ensures.gained c.write_whole-2.ensures.part
