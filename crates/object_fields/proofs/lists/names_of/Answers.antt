use Rattle.std.proofs.Common.{sym}
use Rattle.object_fields.specs.Reading.{trees_view}
use Rattle.object_fields.proofs.ListLemmas.{reads_each}
use Rattle.object_fields.proofs.lists.names_of.Goals as goal

pub returns : goal.returns
returns g c =
    rw (sym c.in-Some.ensures, sym c.item_count.ensures, sym c.if-not-may_have.ensures)
    (reads_each (g.I.ReadItem.item c.args.how.now c.args.key.now) _ _ _
    (trees_view c.in-Some.items.now) c.each_name.ensures)
