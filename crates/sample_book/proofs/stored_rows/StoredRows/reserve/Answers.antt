use Rattle.std.proofs.Common.{ap, arith, length}
use Rattle.sample_book.specs.Stored.{KeptRows, form_at}
use Rattle.sample_book.proofs.StandingLemmas.{also_ok}
use Rattle.sample_book.proofs.StoredLemmas.{length-rows_of}
use Rattle.sample_book.proofs.stored_rows.StoredRows.reserve.Goals as goal

pub returns-clause-ok : goal.returns-clause-ok
returns-clause-ok c = also_ok c.reserve-2.result c.reserve-2.ensures.ok (λ room. omega (
  arith,
  room,
  c.reserve-2.ensures.len,
  c.len.ensures,
  c.len-2.ensures,
  c.reserve.ensures.len,
  c.in_ok-reserve.ensures.ok,
  c.self.inside.numbers.ok.0,
  c.self.inside.forms.ok.0,
  c.self.invariant.short,
  ap (λ (k : KeptRows). length k.rows) c.self.view_is,
  length-rows_of c.self.inside.numbers.items (form_at c.self.inside.forms.items),
))
