use Rattle.std.proofs.Common.{◌≡◌, [], ◌++◌, List, ℕ, subst}
use Rattle.std.proofs.lemmas.Result.{on_ok_weaker}
use Rattle.counters_command.specs.Rows.{field}
use Rattle.counters_command.proofs.RowLemmas.{row-built}
use Rattle.counters_command.proofs.rows.push_row.Goals as goal

pub returns : goal.returns
returns c =
    let sli = subst
    (λ (t : List ℕ). c.push_text.new.page.items ≡ c.args.page.now.items ++ field t 44 [])
    c.as_bytes.ensures.text c.in_ok-push_text.ensures in
    let source = subst
    (λ (t : List ℕ). c.push_text-2.new.page.items ≡ c.push_text.new.page.items ++ field t 44 [])
    c.as_bytes-2.ensures.text c.in_ok-push_text-2.ensures in
    on_ok_weaker c.push_number-4.result
    (λ total. row-built c.args.sli.now c.args.difference.now c.args.page.now.items
    c.push_text.new.page.items c.push_text-2.new.page.items c.push_number.new.page.items
    c.push_number-2.new.page.items c.push_number-3.new.page.items
    c.push_number-4.new.page.items sli source c.in_ok-push_number.ensures
    c.in_ok-push_number-2.ensures c.in_ok-push_number-3.ensures total)
    c.push_number-4.ensures
