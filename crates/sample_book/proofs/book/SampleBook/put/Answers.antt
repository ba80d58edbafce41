use Rattle.std.proofs.Common.{◌≡◌, ◌∙◌, ◌++◌, ◌∷◌, [], ap, sym, Bool, true, if◌then◌else◌}
use Rattle.sample_book.specs.History.{is_put}
use Rattle.sample_book.specs.Rows.{cell_of, current_rows, verdict_of}
use Rattle.sample_book.proofs.ArriveLemmas.{room_kept, room_taken}
use Rattle.sample_book.proofs.HistoryLemmas.{may-put}
use Rattle.sample_book.proofs.book.SampleBook.put.Goals as goal
use Rattle.sample_book.proofs.book.SampleBook.put.Goals.{After-take}

pub take-requires : goal.take-requires
take-requires c = λ is. c.requires

-- a row that may be put is put
taken : (c : After-take) → is_put (verdict_of c.args.self.now.rows c.args.row.now) ≡ true
taken c = may-put (verdict_of c.args.self.now.rows c.args.row.now) c.args.self.now.room
    (cell_of c.args.row.now) c.requires

pub returns-clause-rows : goal.returns-clause-rows
returns-clause-rows c =
    let rows = c.args.self.now.rows in
    c.take.ensures.rows
    ∙ ap (λ (b : Bool). if b then current_rows (rows ++ c.args.row.now ∷ []) else rows) (taken c)

pub returns-clause-placed : goal.returns-clause-placed
returns-clause-placed c = c.take.ensures.placed (taken c)

pub returns-clause-new : goal.returns-clause-new
returns-clause-new c = room_taken (verdict_of c.args.self.now.rows c.args.row.now)
    c.args.self.now.room _ (cell_of c.args.row.now) c.requires c.take.ensures.room

pub returns-clause-newer : goal.returns-clause-newer
returns-clause-newer c = λ other. c.take.ensures.room ∙ sym
    (room_kept (verdict_of c.args.self.now.rows c.args.row.now) c.args.self.now.room other)
