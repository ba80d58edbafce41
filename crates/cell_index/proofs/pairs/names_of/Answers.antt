use Rattle.std.proofs.Common.{◌+◌, All, get_or, max, subst, sym, take, take_all}
use Rattle.std.proofs.lemmas.List.Elements.{All-nil}
use Rattle.std.proofs.lemmas.Option.{slice_get-get_or}
use Rattle.cell_index.specs.Pairs.{HaveNames}
use Rattle.cell_index.specs.declared.pairs.Numbers.{Numbers}
use Rattle.cell_index.proofs.PairLemmas.{names-next}
use Rattle.cell_index.proofs.pairs.names_of.Goals as goal

pub loop-pair-init : goal.loop-pair-init
loop-pair-init c = All-nil (HaveNames 0 0)

pub loop-pair-preserved : goal.loop-pair-preserved
loop-pair-preserved c =
    let pairs = c.args.pairs.now in
    let at = c.loop-pair.pair-index in
    let none : Numbers = record { sli = 0; source = 0 } in
    let pair = get_or pairs at none in
    let here = slice_get-get_or pairs at none c.loop-pair-test.true in
    subst (λ n. All (HaveNames n c.max-sources.result) (take (at + 1) pairs))
    (sym c.max-slis.ensures)
    (subst (λ n. All (HaveNames (max c.loop-pair.slis (pair.sli + 1)) n) (take (at + 1) pairs))
    (sym c.max-sources.ensures)
    (names-next c.loop-pair.slis c.loop-pair.sources pairs pair at here c.loop-pair.invariant))

pub returns : goal.returns
returns c =
    subst (All (HaveNames c.loop-pair.slis c.loop-pair.sources))
    (take_all c.loop-pair.pair-index c.args.pairs.now c.loop-pair-test.false)
    c.loop-pair.invariant
