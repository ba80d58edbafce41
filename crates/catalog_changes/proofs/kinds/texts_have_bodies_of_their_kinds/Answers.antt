use Rattle.catalog_changes.proofs.KindLemmas.{kinds_of_texts}
use Rattle.catalog_changes.proofs.kinds.texts_have_bodies_of_their_kinds.Goals as goal

pub returns : goal.returns
returns c = kinds_of_texts c.standing_nodes_are_writable.ensures.documents
    c.bodies_are_of_their_kinds.ensures
