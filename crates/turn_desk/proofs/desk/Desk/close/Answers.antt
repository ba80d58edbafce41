use Rattle.std.proofs.Common.{◌≡◌, false, ◌<◌, ◌∙◌, length, arith, ap, subst, rules}
use Rattle.std.specs.Prelude.{All, flat_map}
use Rattle.turn_desk.specs.Histories.{Extends}
use Rattle.turn_desk.specs.Passes.{PassState}
use Rattle.turn_desk.specs.Rule.{HasAll}
use Rattle.turn_desk.specs.Sources.{Accounts}
use Rattle.turn_desk.proofs.Gathering.{extended, known}
use Rattle.turn_desk.proofs.Histories.{all_positions, extends-length}
use Rattle.turn_desk.proofs.Taking.{compares}
use Rattle.turn_desk.proofs.desk.Desk.close.Goals as goal

pub load-requires : goal.load-requires
load-requires g c = (
  search rules,
  omega (arith, c.self.invariant.0),
  compares g.T.Ledgered.ledger
      c.self.inside.table.shared.key.value.value c.self.inside.table.shared.key.passes
      c.self.inside.table.shared.table_id.slots
      c.pass.inside.seat.id c.pass.inside.seat.me c.pass.invariant.none_out,
)

pub returns-clause-seen : goal.returns-clause-seen
returns-clause-seen g c =
    let history = (g.T.Ledgered.ledger c.take_out.result).history in
    let out =
    subst (λ m. Extends m.0.seen history) c.load.ensures.2.same c.take_out.ensures.value.0 in
    extended c.args.passes.items c.gather-pass.result history c.gather-pass.ensures.seen
    (subst (λ (p : PassState). Extends p.seen history) c.pass.view_is out)

pub returns-clause-within : goal.returns-clause-within
returns-clause-within g c =
    let history = (g.T.Ledgered.ledger c.take_out.result).history in
    let told = c.load.ensures.2 in
    let m = c.pass.inside.seat.me in
    let out = subst (λ n. Extends n.0.seen history) told.same c.take_out.ensures.value.0 in
    let fits = extends-length m.0.seen history out in
    let own : m.0.own ≡ flat_map (λ p. p.own) c.args.passes.items =
    ap (λ (p : PassState). p.own) c.pass.view_is ∙ c.gather-pass.ensures.own in
    subst (All (λ k. k < length history)) own (all_positions (λ k. k < length history) m.0.own
    (λ p had. let lt = told.within p had in omega (arith, lt, fits)))

pub returns-clause-no_other : goal.returns-clause-no_other
returns-clause-no_other g c = λ opening are.
    let history = (g.T.Ledgered.ledger c.take_out.result).history in
    let told = subst (λ m. HasAll m.0 → Accounts m.0.opening m.0.own m.0.raised history)
    c.load.ensures.2.same c.take_out.ensures.value.2 in
    known c.args.passes.items opening c.gather-pass.result history
    (subst (λ (p : PassState). p.parts ≡ p.opening.passes → p.has_split ≡ false
    → Accounts p.opening p.own p.raised history) c.pass.view_is
    (λ whole alone. told (record { whole = whole; alone = alone })))
    (c.gather-pass.ensures.all opening are) c.gather-pass.ensures.own c.gather-pass.ensures.raised
