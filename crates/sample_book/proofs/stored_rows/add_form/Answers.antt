use Rattle.std.proofs.Common.{◌≡◌, ◌∙◌, ◌-◌, ◌++◌, ◌∷◌, [], List, ap, arith, length, replicate}
use Rattle.std.proofs.Common.{take, if◌then◌else◌}
use Rattle.std.specs.Result.{is_ok}
use Rattle.std.proofs.lemmas.List.{take_all, length-append, length-replicate}
use Rattle.sample_book.specs.declared.stored.Form.{Form}
use Rattle.sample_book.specs.declared.stored.Form.TheVariants.{Events}
use Rattle.sample_book.proofs.StoredLemmas.{form_added}
use Rattle.sample_book.proofs.stored_rows.add_form.Goals as goal

pub push_reserved-requires : goal.push_reserved-requires
push_reserved-requires c =
    let long : c.resize.new.self.len ≡ c.args.place = c.resize.ensures.len
    ∙ ap (λ r. if is_ok r then c.args.place else c.args.forms.now.len) c.unwrap.ensures in
    omega (arith, long, c.requires.room, c.resize.ensures.capacity)

-- the rows between count events
filled : (c : goal.After-push_reserved) → c.push_reserved.new.self.items
    ≡ (c.args.forms.now.items ++ replicate (c.args.place - c.args.forms.now.len) Events)
    ++ c.args.form ∷ []
filled c =
    let forms = c.args.forms.now.items in
    let more = c.args.place - c.args.forms.now.len in
    c.push_reserved.ensures.items ∙ ap (λ (fs : List Form). fs ++ c.args.form ∷ [])
    (c.resize.ensures.items
    ∙ ap (λ r. if is_ok r then take c.args.place forms ++ replicate more Events else forms)
    c.unwrap.ensures
    ∙ ap (λ (fs : List Form). fs ++ replicate more Events)
    (take_all c.args.place forms c.requires.behind))

pub returns-clause-set : goal.returns-clause-set
returns-clause-set c =
    form_added c.args.forms.now.items c.push_reserved.new.self.items
    (c.args.place - c.args.forms.now.len) c.args.place c.args.form
    (omega (arith, c.requires.behind, c.args.forms.now.ok.0)) (filled c)

pub returns-clause-few : goal.returns-clause-few
returns-clause-few c =
    let forms = c.args.forms.now.items in
    let more = c.args.place - c.args.forms.now.len in
    omega (
      arith,
      ap length (filled c),
      length-append (forms ++ replicate more Events) (c.args.form ∷ []),
      length-append forms (replicate more Events),
      length-replicate more Events,
      c.requires.behind,
      c.args.forms.now.ok.0,
    )
