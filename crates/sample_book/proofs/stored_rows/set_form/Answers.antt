use Rattle.std.proofs.Common.{◌∙◌, ◌<◌, ◌≤◌, length, arith, refl, sym}
use Rattle.std.proofs.lemmas.List.{get_or-set_other, get_or-set_same, get_or_past}
use Rattle.sample_book.specs.declared.stored.Form.TheVariants.{Events}
use Rattle.sample_book.proofs.stored_rows.set_form.Goals as goal

pub returns-then-place-len-clause-set : goal.returns-then-place-len-clause-set
returns-then-place-len-clause-set c =
    let forms = c.args.forms.now.items in
    let place = c.args.place in
    let form = c.args.form in
    let within : place < length forms = omega (
      arith,
      c.if-place-len.true,
      c.len.ensures,
      c.args.forms.now.ok.0,
    ) in
    record {
      there = get_or-set_same forms place form Events within;
      others = λ k other. get_or-set_other forms place k form Events other;
    }

pub returns-in-Events-clause-set : goal.returns-in-Events-clause-set
returns-in-Events-clause-set c =
    let forms = c.args.forms.now.items in
    let past : length forms ≤ c.args.place = omega (
      arith,
      c.if-place-len.false,
      c.len.ensures,
      c.args.forms.now.ok.0,
    ) in
    record {
      there = get_or_past forms c.args.place Events past ∙ sym c.in-Events.is;
      others = λ k other. refl;
    }
