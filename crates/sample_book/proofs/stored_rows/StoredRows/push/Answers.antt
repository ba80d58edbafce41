use Rattle.std.proofs.Common.{◌≡◌, ◌∙◌, ◌<◌, ◌++◌, ◌∷◌, [], List, ap, sym, subst, arith, length}
use Rattle.sample_book.specs.declared.stored.Form.{Form}
use Rattle.sample_book.specs.declared.stored.Numbers.{Numbers}
use Rattle.sample_book.specs.Stored.{IsSetAt, KeptRows, form_at, rows_of}
use Rattle.sample_book.proofs.StoredLemmas.{AreKept, kept_push, length-rows_of}
use Rattle.sample_book.proofs.stored_rows.StoredRows.push.Goals as goal
use Rattle.sample_book.proofs.stored_rows.StoredRows.push.Goals.{After-push_reserved}

pub set_form-requires : goal.set_form-requires
set_form-requires c = omega (
  arith,
  c.requires,
  c.len-place.ensures,
  c.self.inside.numbers.ok.0,
  ap (λ (k : KeptRows). length k.rows) c.self.view_is,
  ap (λ (k : KeptRows). k.capacity) c.self.view_is,
  length-rows_of c.self.inside.numbers.items (form_at c.self.inside.forms.items),
)

pub push_reserved-requires : goal.push_reserved-requires
push_reserved-requires c = omega (
  arith,
  c.requires,
  c.self.inside.numbers.ok.0,
  ap (λ (k : KeptRows). length k.rows) c.self.view_is,
  ap (λ (k : KeptRows). k.capacity) c.self.view_is,
  length-rows_of c.self.inside.numbers.items (form_at c.self.inside.forms.items),
)

-- the row is behind the others
kept : (c : After-push_reserved) → AreKept c.push_reserved.new.self.items
    c.set_form.new.forms.items c.set_form.new.forms.cap
    (rows_of c.self.inside.numbers.items (form_at c.self.inside.forms.items) ++ c.args.stored ∷ [])
kept c =
    let numbers = c.self.inside.numbers.items in
    let forms = c.self.inside.forms.items in
    let forms' = c.set_form.new.forms.items in
    let room = c.set_form.new.forms.cap in
    let rows = rows_of numbers (form_at forms) ++ c.args.stored ∷ [] in
    let place = c.len-place.result in
    let behind : place ≡ length numbers = c.len-place.ensures ∙ c.self.inside.numbers.ok.0 in
    let below : place < c.self.inside.forms.cap = omega (
      arith,
      c.requires,
      behind,
      ap (λ (k : KeptRows). length k.rows) c.self.view_is,
      ap (λ (k : KeptRows). k.capacity) c.self.view_is,
      length-rows_of numbers (form_at forms),
    ) in
    subst (λ (ns : List Numbers). AreKept ns forms' room rows) (sym (c.push_reserved.ensures.items
    ∙ ap (λ (n : Numbers). numbers ++ n ∷ []) c.numbers-numbers.ensures.numbers))
    (kept_push numbers forms forms' place c.self.inside.forms.cap room c.args.stored
    c.self.invariant behind below
    (subst (λ (form : Form). IsSetAt (form_at forms) (form_at forms') place form) c.form.ensures
    c.set_form.ensures.set)
    c.set_form.ensures.few c.set_form.ensures.capacity c.numbers-numbers.ensures.amount)

pub invariant_of-self : goal.invariant_of-self
invariant_of-self c = (kept c).stored

pub returns-clause-rows : goal.returns-clause-rows
returns-clause-rows c =
    (kept c).rows_are ∙ ap (λ (k : KeptRows). k.rows ++ c.args.stored ∷ []) c.self.view_is

pub returns-clause-capacity : goal.returns-clause-capacity
returns-clause-capacity c = omega (
  arith,
  c.set_form.ensures.capacity,
  c.push_reserved.ensures.capacity,
  ap (λ (k : KeptRows). k.capacity) c.self.view_is,
)
