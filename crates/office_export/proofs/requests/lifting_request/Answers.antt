use Rattle.std.proofs.Common.{◌≡◌, ◌∙◌, ◌++◌, [], Some, codes, length, refl, rules, sym}
use Rattle.std.specs.Prelude.{slice_get}
use Rattle.request_texts.specs.Requests.{head_of}
use Rattle.office_export.proofs.WriteLemmas.{lifting_made, request_made}
use Rattle.office_export.proofs.requests.lifting_request.Goals as goal

pub returns-in-Some : goal.returns-in-Some
unfolding head_of
returns-in-Some c =
    let made : c.named_head.result
    ≡ head_of (codes "DELETE /exclusions/" ++ c.in-Some.exclusion.id)
    (length c.args.body.now.items) = search rules in
    let there : slice_get c.args.book.now.exclusions c.args.place
    ≡ Some (c.in-Some.exclusion, c.in-Some.field-0-1) = search rules in
    request_made (codes "DELETE /exclusions/" ++ c.in-Some.exclusion.id) c.named_head.result []
    c.args.body.now.items [] made refl c.requires
    ∙ sym (lifting_made c.args.book.now.exclusions c.args.place
    (c.in-Some.exclusion, c.in-Some.field-0-1) there)
