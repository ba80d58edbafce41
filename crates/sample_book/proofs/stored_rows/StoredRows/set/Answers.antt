use Rattle.std.proofs.Common.{◌∙◌, ◌<◌, ap, sym, subst, arith, length, set}
use Rattle.sample_book.specs.declared.stored.Form.{Form}
use Rattle.sample_book.specs.declared.stored.Numbers.{Numbers}
use Rattle.sample_book.specs.Stored.{IsSetAt, KeptRows, form_at, rows_of}
use Rattle.sample_book.proofs.StoredLemmas.{AreKept, kept_set, length-rows_of}
use Rattle.sample_book.proofs.stored_rows.StoredRows.set.Goals as goal
use Rattle.sample_book.proofs.stored_rows.StoredRows.set.Goals.{After-set_form}

pub set_form-requires : goal.set_form-requires
set_form-requires c = omega (
  arith,
  c.requires,
  c.self.invariant.ready,
  ap (λ (k : KeptRows). length k.rows) c.self.view_is,
  length-rows_of c.self.inside.numbers.items (form_at c.self.inside.forms.items),
)

pub index_mut-requires : goal.index_mut-requires
index_mut-requires c = omega (
  arith,
  c.requires,
  c.self.inside.numbers.ok.0,
  ap (λ (k : KeptRows). length k.rows) c.self.view_is,
  length-rows_of c.self.inside.numbers.items (form_at c.self.inside.forms.items),
)

-- the row is in its place
kept : (c : After-set_form) → AreKept
    (set c.self.inside.numbers.items c.args.place c.numbers-numbers.result)
    c.set_form.new.forms.items c.set_form.new.forms.cap
    (set (rows_of c.self.inside.numbers.items (form_at c.self.inside.forms.items)) c.args.place
    c.args.stored)
kept c =
    let numbers = c.self.inside.numbers.items in
    let forms = c.self.inside.forms.items in
    let forms' = c.set_form.new.forms.items in
    let rows = set (rows_of numbers (form_at forms)) c.args.place c.args.stored in
    let below : c.args.place < length numbers = omega (
      arith,
      c.requires,
      ap (λ (k : KeptRows). length k.rows) c.self.view_is,
      length-rows_of numbers (form_at forms),
    ) in
    subst (λ (n : Numbers). AreKept (set numbers c.args.place n) forms' c.set_form.new.forms.cap
    rows) (sym c.numbers-numbers.ensures.numbers)
    (kept_set numbers forms forms' c.args.place c.self.inside.forms.cap c.set_form.new.forms.cap
    c.args.stored c.self.invariant below
    (subst (λ (form : Form). IsSetAt (form_at forms) (form_at forms') c.args.place form)
    c.form.ensures c.set_form.ensures.set)
    c.set_form.ensures.few c.set_form.ensures.capacity c.numbers-numbers.ensures.amount)

pub invariant_of-self : goal.invariant_of-self
invariant_of-self c = (kept (goal.at.invariant_of-self c).After-set_form).stored

pub returns-clause-rows : goal.returns-clause-rows
returns-clause-rows c = (kept (goal.at.returns-clause-rows c).After-set_form).rows_are
    ∙ ap (λ (k : KeptRows). set k.rows c.args.place c.args.stored) c.self.view_is

pub returns-clause-capacity : goal.returns-clause-capacity
returns-clause-capacity c = omega (
  arith,
  c.set_form.ensures.capacity,
  ap (λ (k : KeptRows). k.capacity) c.self.view_is,
)
