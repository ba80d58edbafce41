use Rattle.std.proofs.Common.{rules, ◌≡◌, ◌<◌, ◌-◌, length, arith, get_or, false, reverse}
use Rattle.httparse.specs.Grammar.{is_ows, skip_ows}
use Rattle.message_heads.proofs.Trims.{kept_last, trimmed, trimmed_all}
use Rattle.message_heads.proofs.fields.trim.Goals as goal

pub returns-else-is_space-2 : goal.returns-else-is_space-2
returns-else-is_space-2 c =
    let some : 0 < length c.back.item.now = grind (arith) in
    let other : is_ows (get_or c.back.item.now (length c.back.item.now - 1) 0) ≡ false =
    search rules in
    trimmed c.back.item.now c.args.bytes.now (kept_last c.back.item.now some other) c.back.invariant

pub returns-after-back : goal.returns-after-back
returns-after-back c =
    let none : length c.back.item.now ≡ 0 = grind (arith) in
    trimmed_all c.back.item.now c.args.bytes.now none c.back.invariant
