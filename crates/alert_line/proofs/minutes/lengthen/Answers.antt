use Rattle.std.proofs.Common.{◌≡◌, ◌∙◌, Bool, ap, arith, sym, vec_len, if◌then◌else◌}
use Rattle.alert_line.proofs.MinuteLemmas.{kept_at-lengthened}
use Rattle.alert_line.proofs.minutes.lengthen.Goals as goal

pub returns-clause-kept : goal.returns-clause-kept
returns-clause-kept c =
    let before = c.args.bytes.now in
    let after = c.resize.new.self in
    let by_index = c.resize.ensures.by_index in
    let is = c.resize.ensures.succeeds c.requires.room in
    let long : vec_len after ≡ c.args.count = c.resize.ensures.len
    ∙ ap (λ (b : Bool). if b then c.args.count else vec_len before) is in
    kept_at-lengthened before.items after.items c.args.count c.requires.more
    (sym after.ok.0 ∙ long)
    (λ k d less less2. by_index.0 k d less (omega (arith, less2, before.ok.0)))
    (λ k d past less. by_index.1 k d is (omega (arith, past, before.ok.0)) less)
