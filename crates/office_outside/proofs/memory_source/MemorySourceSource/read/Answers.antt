use Rattle.std.proofs.Common.{rules, arith, ◌≡◌, ◌≤◌, take, drop, length}
use Rattle.std.proofs.lemmas.List.{drop-drop}
use Rattle.std.proofs.lemmas.Grind.{common_steps}
use Rattle.office_outside.proofs.FirstBytes.{given_first}
use Rattle.office_outside.proofs.memory_source.MemorySourceSource.read.Goals as goal

pub returns-clause-bytes : goal.returns-clause-bytes
returns-clause-bytes c =
    let here : c.args.self.now.left ≡ drop c.self.inside.at c.self.inside.bytes.items =
    search rules in
    let copied : c.copy_from_slice.new.self ≡ take c.move_size-count.result
    (drop c.self.inside.at c.self.inside.bytes.items) = grind (arith, common_steps) in
    let within : c.move_size-count.result
    ≤ length (drop c.self.inside.at c.self.inside.bytes.items) = grind (arith, common_steps) in
    rw (
      here,
      copied,
      ← drop-drop c.move_size-count.result c.self.inside.at c.self.inside.bytes.items,
    ) (given_first _ _ _ within)
