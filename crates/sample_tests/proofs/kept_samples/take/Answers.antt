use Rattle.std.proofs.Common.{◌≡◌, ◌∙◌, ap, sym, subst, slice_get, List}
use Rattle.cell_index.specs.declared.Cell.{Cell}
use Rattle.sample_book.specs.declared.Row.{Row}
use Rattle.sample_book.specs.declared.RowVerdict.{RowVerdict}
use Rattle.sample_book.specs.declared.RowVerdict.TheVariants.{New}
use Rattle.sample_book.specs.Rows.{MayPutAs, cell_of, verdict_of, room_for}
use Rattle.sample_book.proofs.CallerLemmas.{room_for-new}
use Rattle.sample_tests.proofs.kept_samples.take.Goals as goal

pub put-requires : goal.put-requires
put-requires c =
    let row = c.args.row.now in
    let rows = c.args.book.now.rows in
    let made = c.in_ok-make_room-in-New.ensures in
    let new : verdict_of rows row ≡ New = sym c.check-verdict.ensures.verdict ∙ c.in-New.is in
    let still : verdict_of c.make_room.new.self.rows row ≡ New =
    ap (λ (rows : List Row). verdict_of rows row) made.rows ∙ new in
    let room = made.room ∙ ap (room_for rows) c.from_ref.ensures.value
    ∙ room_for-new rows row new in
    subst (λ (verdict : RowVerdict). MayPutAs verdict c.make_room.new.self.room (cell_of row))
    (sym still) (ap (λ (room : List Cell). slice_get room 0) room)
