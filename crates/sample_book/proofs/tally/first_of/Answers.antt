use Rattle.std.proofs.Common.{map, ◌∙◌, sym}
use Rattle.sample_book.proofs.IndexLemmas.{first-of}
use Rattle.sample_book.specs.Rows.{cell_of}
use Rattle.sample_book.specs.Counting.{is_of}
use Rattle.sample_book.proofs.IndexLemmas.{find-position, none-position}
use Rattle.sample_book.proofs.tally.first_of.Goals as goal

pub returns-in-Some : goal.returns-in-Some
returns-in-Some c =
    c.at.ensures ∙ find-position (is_of c.args.sli) c.args.rows.now.rows c.in-Some.place
    (sym c.in-Some.is ∙ c.first_of.ensures (map cell_of c.args.rows.now.rows) c.requires
    ∙ first-of c.args.sli c.args.rows.now.rows)

pub returns-in-None : goal.returns-in-None
returns-in-None c = sym (none-position (is_of c.args.sli) c.args.rows.now.rows
    (sym c.in-None.is ∙ c.first_of.ensures (map cell_of c.args.rows.now.rows) c.requires
    ∙ first-of c.args.sli c.args.rows.now.rows))
