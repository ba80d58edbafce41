use Rattle.std.proofs.Common.{ap, ◌∙◌}
use Rattle.catalog_terms.specs.Keys.{member_of}
use Rattle.slo_catalog.proofs.PlaceLemmas.{place_there, place_free, found_at, none_at}
use Rattle.slo_catalog.proofs.members.Members.find.Goals as goal

pub returns-in-Ok : goal.returns-in-Ok
returns-in-Ok c =
    found_at c.args.kind c.args.name c.as_slice-members.result.now c.in-Ok.place
    c.index-members-place.result _
    (place_there c.args.kind c.args.name c.as_slice-members.result.now c.place_of.result
    c.in-Ok.place c.place_of.ensures c.in-Ok.is) c.index-members-place.is
    ∙ ap (λ os. member_of os c.args.kind c.args.name) c.as_slice-members.ensures.all

pub returns-in-Err : goal.returns-in-Err
returns-in-Err c =
    none_at c.args.kind c.args.name c.as_slice-members.result.now c.in-Err.field-0
    (place_free c.args.kind c.args.name c.as_slice-members.result.now c.place_of.result
    c.in-Err.field-0 c.place_of.ensures c.in-Err.is)
    ∙ ap (λ os. member_of os c.args.kind c.args.name) c.as_slice-members.ensures.all
