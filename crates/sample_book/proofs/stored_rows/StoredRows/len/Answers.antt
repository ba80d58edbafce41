use Rattle.std.proofs.Common.{◌∙◌, ap, sym, length}
use Rattle.sample_book.specs.Stored.{KeptRows, form_at}
use Rattle.sample_book.proofs.StoredLemmas.{length-rows_of}
use Rattle.sample_book.proofs.stored_rows.StoredRows.len.Goals as goal

pub returns : goal.returns
returns c =
    c.len.ensures ∙ c.self.inside.numbers.ok.0
    ∙ sym (length-rows_of c.self.inside.numbers.items (form_at c.self.inside.forms.items))
    ∙ ap (λ (k : KeptRows). length k.rows) c.self.view_is
