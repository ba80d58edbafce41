use Rattle.std.proofs.Common.{sym}
use Rattle.office_export.specs.Steps.{content}
use Rattle.journal_commands.proofs.exporting.export_core.Goals as goal

-- the office is one of which the machine lends all that is exported
pub returns-clause-exports : goal.returns-clause-exports
returns-clause-exports g c =
    c.export.ensures.exports c.args.core.now.office c.is_legal.ensures.legal
    (λ i.
    content (sym c.is_upgraded.ensures i) (sym c.zones-zones.ensures i)
    (sym c.catalog-catalog.ensures i) (sym c.book-book.ensures.rows i)
    (sym c.book-book.ensures.exclusions i))
