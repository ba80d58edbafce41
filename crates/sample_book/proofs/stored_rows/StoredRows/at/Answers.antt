use Rattle.std.proofs.Common.{◌≡◌, ◌∙◌, ◌<◌, List, Some, ap, sym, arith, length, refl, slice_get}
use Rattle.std.proofs.lemmas.Option.{slice_get_read}
use Rattle.sample_book.specs.declared.stored.Form.{Form}
use Rattle.sample_book.specs.Stored.{KeptRows, form_at, stored_as}
use Rattle.sample_book.proofs.StoredLemmas.{amount_at, length-rows_of, row_stored_at}
use Rattle.sample_book.proofs.stored_rows.StoredRows.at.Goals as goal
use Rattle.sample_book.proofs.stored_rows.StoredRows.at.Goals.{After-index}

pub index-requires : goal.index-requires
index-requires c =
    omega (
      arith,
      c.requires,
      c.self.inside.numbers.ok.0,
      ap (λ (k : KeptRows). length k.rows) c.self.view_is,
      length-rows_of c.self.inside.numbers.items (form_at c.self.inside.forms.items),
    )

-- the numbers of the place
numbers_at : (c : After-index)
    → slice_get c.self.inside.numbers.items c.args.place ≡ Some c.index.result.now
numbers_at c =
    let numbers = c.self.inside.numbers.items in
    let below : c.args.place < length numbers = omega (
      arith,
      c.requires,
      ap (λ (k : KeptRows). length k.rows) c.self.view_is,
      length-rows_of numbers (form_at c.self.inside.forms.items),
    ) in
    slice_get_read numbers (length numbers) c.args.place c.index.result.now refl below
    c.index.ensures

-- and the form
the_form : (c : After-index)
    → c.form_at-form.result ≡ form_at c.self.inside.forms.items c.args.place
the_form c = c.form_at-form.ensures
    ∙ ap (λ (forms : List Form). form_at forms c.args.place) c.deref.ensures.value

pub of-requires : goal.of-requires
of-requires c =
    amount_at c.self.inside.numbers.items c.self.inside.forms.items c.args.place c.index.result.now
    c.form_at-form.result c.self.invariant.decimals (numbers_at c) (the_form c)

pub returns : goal.returns
returns c =
    let here = (goal.at.returns c).After-index in
    ap (λ (k : KeptRows). slice_get k.rows c.args.place) (sym c.self.view_is)
    ∙ row_stored_at c.self.inside.numbers.items (form_at c.self.inside.forms.items) c.args.place
    c.index.result.now (numbers_at here)
    ∙ ap (λ (form : Form). Some (stored_as form c.index.result.now)) (sym (the_form here))
    ∙ ap Some (sym c.of.ensures)
