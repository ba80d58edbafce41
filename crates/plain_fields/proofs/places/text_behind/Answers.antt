use Rattle.std.proofs.Common.{◌≡◌, ◌∙◌, ◌-◌, arith, drop, length, take}
use Rattle.std.proofs.lemmas.Grind.{common_steps}
use Rattle.plain_fields.proofs.PlaceLemmas.{feed_first}
use Rattle.plain_fields.proofs.places.text_behind.Goals as goal

pub returns : goal.returns
returns c =
    let text = c.args.text.now in
    let rest : take (length text - (c.args.at - 1)) (drop (c.args.at - 1) text)
    ≡ drop (c.args.at - 1) text = grind (arith, common_steps) in
    rest ∙ feed_first text c.args.at c.requires
