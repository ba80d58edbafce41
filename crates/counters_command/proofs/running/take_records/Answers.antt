use Rattle.std.proofs.Common.{◌≡◌, ◌≤◌, ◌+◌, ◌∷◌, ◌∙◌, [], List, ℕ, ap, arith, length, refl, rules}
use Rattle.std.proofs.Common.{subst}
use Rattle.std.specs.Prelude.{Err}
use Rattle.office_outside.specs.Told.{GainedPrefix}
use Rattle.counters_command.specs.Running.{EndsPage, IsUnderway}
use Rattle.counters_command.specs.Taking.{Breaks, TakesRows}
use Rattle.counters_command.specs.declared.fault.CountersEnd.{CountersEnd}
use Rattle.counters_command.specs.declared.fault.CountersEnd.TheVariants as ends
use Rattle.counters_command.specs.declared.fault.CountersFault.TheVariants.{BadRecord}
use Rattle.counters_command.proofs.UnderwayLemmas.{begins, ends-early, ends-part, goes_on}
use Rattle.counters_command.proofs.UnderwayLemmas.{page-broken, page-done}
use Rattle.counters_command.proofs.running.take_records.Goals as goal

pub records-init : goal.records-init
records-init g c = record {
  underway = begins c.args.sli.now c.args.reader.now c.args.reader.now c.args.book.now
      c.args.page.now.items (g.K.Sink.held c.args.output.now) refl c.requires.empty
      c.requires.blank;
  numbered = (let few = c.requires.few in omega arith);
  later = omega arith;
}

pub returns-in-Ok-false-clause-ends : goal.returns-in-Ok-false-clause-ends
returns-in-Ok-false-clause-ends g c =
    let held = g.K.Sink.held in
    let u = c.records.invariant.underway in
    let none : c.records.reader ≡ [] = search rules in
    let page : EndsPage c.records.page.items ends.Done c.end_with.result (held c.records.output)
    (held c.end_with.new.output) (g.K.Sink.faults c.records.output)
    (g.K.Sink.faults c.end_with.new.output) =
    subst (λ (p : List ℕ). EndsPage p ends.Done c.end_with.result (held c.records.output)
    (held c.end_with.new.output) (g.K.Sink.faults c.records.output)
    (g.K.Sink.faults c.end_with.new.output)) c.deref.ensures.value c.end_with.ensures in
    page-done c.args.sli.now c.args.reader.now c.records.reader c.records.number c.records.book
    c.records.page.items (held c.args.output.now) (held c.records.output) u c.end_with.result
    (held c.end_with.new.output) _ _ none page

pub returns-in-Err-clause-ends : goal.returns-in-Err-clause-ends
returns-in-Err-clause-ends g c =
    ends-early c.args.sli.now c.args.reader.now _ _ _ _ _ _ c.records.invariant.underway

pub returns-in-Err-Broken-clause-ends : goal.returns-in-Err-Broken-clause-ends
returns-in-Err-Broken-clause-ends g c =
    let held = g.K.Sink.held in
    let u = c.records.invariant.underway in
    let fault = c.in-Err-Broken.fault in
    let next : c.records.reader ≡ c.read.new.into ∷ c.read.new.self = search rules in
    let b : Breaks c.records.book c.read.new.into fault
    × (c.take_rows.new.page.items ≡ c.records.page.items) =
    c.in-Err-Broken.ensures.broken fault (ap Err c.in-Err-Broken.field-0-is) in
    let end : CountersEnd = ends.Refused (BadRecord c.records.number fault) in
    let ended = c.end_with-in-Err-Broken in
    let page : EndsPage c.records.page.items end ended.result (held c.records.output)
    (held ended.new.output) (g.K.Sink.faults c.records.output)
    (g.K.Sink.faults ended.new.output) =
    subst (λ (p : List ℕ). EndsPage p end ended.result (held c.records.output)
    (held ended.new.output) (g.K.Sink.faults c.records.output)
    (g.K.Sink.faults ended.new.output)) (c.deref-in-Err-Broken.ensures.value ∙ b.1) ended.ensures in
    page-broken c.args.sli.now c.args.reader.now c.records.reader c.records.number c.records.book
    c.records.page.items (held c.args.output.now) (held c.records.output) u c.read.new.into
    c.read.new.self fault ended.result (held ended.new.output) _ _ next b.0 page

pub returns-in-Err-NoMemory-clause-ends : goal.returns-in-Err-NoMemory-clause-ends
returns-in-Err-NoMemory-clause-ends g c =
    ends-early c.args.sli.now c.args.reader.now _ _ _ _ _ _ c.records.invariant.underway

pub returns-in-Err-turn_page-clause-ends : goal.returns-in-Err-turn_page-clause-ends
returns-in-Err-turn_page-clause-ends g c =
    let held = g.K.Sink.held in
    let next : c.records.reader ≡ c.read.new.into ∷ c.read.new.self = search rules in
    let t : TakesRows c.args.sli.now c.records.book c.records.page.items c.read.new.into
    c.take_rows.new.book c.take_rows.new.page.items = search rules in
    let part : GainedPrefix c.take_rows.new.page.items (held c.records.output)
    (held c.turn_page.new.output) = search rules in
    ends-part c.args.sli.now c.args.reader.now c.read.new.self (c.records.number + 1)
    c.take_rows.new.book c.take_rows.new.page.items (held c.args.output.now)
    (held c.records.output)
    (goes_on c.args.sli.now c.args.reader.now c.records.reader c.records.number c.records.book
    c.records.page.items (held c.args.output.now) (held c.records.output)
    c.records.invariant.underway c.read.new.into c.read.new.self t.changes c.take_rows.new.book
    c.take_rows.new.page.items next t.taken t.page_is) (held c.turn_page.new.output) part

pub records-preserved : goal.records-preserved
records-preserved g c =
    let held = g.K.Sink.held in
    let next : c.records.reader ≡ c.read.new.into ∷ c.read.new.self = search rules in
    let t : TakesRows c.args.sli.now c.records.book c.records.page.items c.read.new.into
    c.take_rows.new.book c.take_rows.new.page.items = search rules in
    let u = goes_on c.args.sli.now c.args.reader.now c.records.reader c.records.number
    c.records.book c.records.page.items (held c.args.output.now) (held c.records.output)
    c.records.invariant.underway c.read.new.into c.read.new.self t.changes c.take_rows.new.book
    c.take_rows.new.page.items next t.taken t.page_is in
    let turned : IsUnderway c.args.sli.now c.args.reader.now c.read.new.self
    (c.records.number + 1) c.take_rows.new.book c.turn_page.new.page.items
    (held c.args.output.now) (held c.turn_page.new.output) =
    c.in-Ok-turn_page.ensures.turned c.args.sli.now c.args.reader.now c.read.new.self
    (c.records.number + 1) c.take_rows.new.book (held c.args.output.now) u in
    let later : g.K.Sink.faults c.records.output ≤ g.K.Sink.faults c.turn_page.new.output =
    c.turn_page.ensures.cause.later in
    record {
      underway = turned;
      numbered = (let l = ap length next in let m = c.records.invariant.numbered in omega arith);
      later = (let before = c.records.invariant.later in omega arith);
    }
