use Rattle.std.proofs.Common.{◌≡◌, ◌∙◌, ◌≤◌, ◌+◌, ◌-◌, ◌++◌, min, take, drop, length, length-append}
use Rattle.std.proofs.Common.{rules, arith, ap, List, ℕ, subst, sym}
use Rattle.std.proofs.lemmas.List.{take_at, length-take, length-drop}
use Rattle.office_outside.specs.Disk.{Torn}
use Rattle.office_outside.proofs.Images.{torn_longer, torn_put}
use Rattle.office_outside.proofs.memory_disk.tear.Goals as goal

pub returns-then-at-known : goal.returns-then-at-known
returns-then-at-known c =
    let old = c.args.file.now.items in
    let mid = c.extend_from_slice.new.self.items in
    let wanted = c.args.wanted.now in
    let top : c.in_ok-top.top ≡ c.args.at + c.args.count = search rules in
    let end : c.min-end.result ≡ min c.in_ok-top.top (length wanted) = search rules in
    let known : c.min-known.result ≡ min c.min-end.result (length old) = search rules in
    let more = take (c.min-end.result - c.min-known.result) (drop c.min-known.result wanted) in
    let piece = take (c.min-known.result - c.args.at) (drop c.args.at wanted) in
    let grown : mid ≡ old ++ more = search rules in
    let size : length more ≡ c.min-end.result - c.min-known.result = omega (
      arith,
      length-take (c.min-end.result - c.min-known.result) (drop c.min-known.result wanted),
      length-drop c.min-known.result wanted,
      end,
    ) in
    let part : length piece ≡ c.min-known.result - c.args.at =
    omega (
      arith,
      length-take (c.min-known.result - c.args.at) (drop c.args.at wanted),
      length-drop c.args.at wanted,
      end,
      known,
    ) in
    let longer = ap length grown ∙ length-append old more in
    let torn : Torn c.args.at c.args.count old mid =
    subst (Torn c.args.at c.args.count old) (sym grown)
    (torn_longer old more c.args.at c.args.count (omega (arith, size, top, end, known))) in
    let is : c.put.new.file ≡ take c.args.at mid ++ piece ++ drop (c.args.at + length piece) mid =
    search rules in
    let whole : length c.put.new.file ≡ c.extend_from_slice.new.self.len = search rules in
    let less = c.if-at-known.true in
    torn_put old mid _ piece c.args.at c.args.count (omega (arith, less, known))
    (omega (arith, part, top, end, known)) (omega (arith, part, less, known, longer)) torn
    (take_at c.put.new.file _ _ whole ∙ is)
