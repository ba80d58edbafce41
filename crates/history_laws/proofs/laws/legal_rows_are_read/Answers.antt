use Rattle.catalog_changes.proofs.KindLemmas.{kinds_of_texts}
use Rattle.history_laws.proofs.ReadLemmas.{current_rows_are_read, rows_are_read}
use Rattle.history_laws.proofs.laws.legal_rows_are_read.Goals as goal

pub returns-clause-rows : goal.returns-clause-rows
returns-clause-rows c =
    rows_are_read (kinds_of_texts c.standing_nodes_are_writable.ensures.documents
    c.bodies_are_of_their_kinds.ensures)

pub returns-clause-current : goal.returns-clause-current
returns-clause-current c =
    current_rows_are_read (kinds_of_texts c.standing_nodes_are_writable.ensures.documents
    c.bodies_are_of_their_kinds.ensures)
