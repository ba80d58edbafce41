use Rattle.std.proofs.Common.{take}
use Rattle.sample_book.proofs.BatchLemmas.{AreJudged}
use Rattle.sample_book.proofs.batch.judge_rows.Given as goal

-- the rows so far are judged and taken
abbrev pub invariant-loop-row : goal.invariant-loop-row
invariant-loop-row l =
    AreJudged l.kept.rows (take l.row-index l.rows) l.found.items l.earlier.rows
