use Rattle.std.proofs.Common.{◌≡◌, codes, drop, flat_map, length, rules, take}
use Rattle.request_texts.specs.Requests.{head_of}
use Rattle.export_terms.specs.Texts.{row_line}
use Rattle.office_export.proofs.WriteLemmas.{request_made}
use Rattle.office_export.proofs.requests.rows_request.Goals as goal

pub returns : goal.returns
unfolding head_of
returns c =
    let made : c.head.result
    ≡ head_of (codes "POST /samples") (length c.push_rows.new.body.items) = search rules in
    request_made (codes "POST /samples") c.head.result c.args.body.now.items
    c.push_rows.new.body.items
    (flat_map row_line (take 1000 (drop c.args.first c.args.book.now.rows))) made c.requires
    c.in_ok-push_rows.ensures
