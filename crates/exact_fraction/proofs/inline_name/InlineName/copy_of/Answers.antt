use Rattle.std.proofs.Common.{◌≡◌, ◌-◌, ◌∙◌, ◌++◌, ap, arith, length, replicate, take}
use Rattle.std.proofs.Math.Seq.{take-length}
use Rattle.exact_fraction.proofs.WordOrder.{made-padded}
use Rattle.exact_fraction.proofs.inline_name.InlineName.copy_of.Goals as goal

pub invariant_of-result : goal.invariant_of-result
invariant_of-result c =
    let text = c.args.text.now in
    let end : c.loop-place.place ≡ length text = omega arith in
    made-padded
    text
    c.loop-place.bytes
    c.requires
    (c.loop-place.invariant ∙ ap (λ n. take n text ++ replicate (64 - n) 0) end
    ∙ ap (λ t. t ++ replicate (64 - length text) 0) (take-length text))
