use Rattle.std.proofs.Common.{◌≡◌, ◌∙◌, sym, subst}
use Rattle.std.specs.Prelude.{IfOk}
use Rattle.slo_catalog.proofs.PlaceLemmas.{put_over_as, put_between_as}
use Rattle.slo_catalog.proofs.members.put_in.Goals as goal

pub returns-in-Ok : goal.returns-in-Ok
returns-in-Ok c =
    c.replace.ensures
    ∙ sym (put_over_as c.args.member c.object-object.result.now c.args.members
    c.as_slice.result.now c.place_of.result c.in-Ok.place c.object-object.ensures.all
    c.as_slice.ensures c.place_of.ensures c.in-Ok.is)

pub returns-in-Err : goal.returns-in-Err
returns-in-Err c =
    subst (λ xs. IfOk c.insert.result (λ new. new ≡ xs))
    (sym (put_between_as c.args.member c.object-object.result.now c.args.members
    c.as_slice.result.now c.place_of.result c.in-Err.place c.object-object.ensures.all
    c.as_slice.ensures c.place_of.ensures c.in-Err.is))
    c.insert.ensures
