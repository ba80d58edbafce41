use Rattle.std.proofs.Common.{◌≡◌, ◌<◌, ◌∙◌, arith, subst, sym, ℕ, true, false}
use Rattle.std.specs.List.Sorted.{IsPartitionPoint}
use Rattle.sample_book.specs.Reaches.{begins_by}
use Rattle.sample_book.specs.declared.reaches.Reach.{Reach}
use Rattle.sample_book.proofs.ReachLemmas.{last_tells, none_begins}
use Rattle.sample_book.proofs.reaches.is_reached_by.Goals as goal

pub returns-then-begun-eq0 : goal.returns-then-begun-eq0
returns-then-begun-eq0 c =
    let begins = begins_by c.args.slo c.args.minute in
    sym (none_begins c.args.slo c.args.minute c.args.reaches.now
    (subst (λ (n : ℕ). IsPartitionPoint (λ (r : Reach). begins r ≡ true)
    (λ (r : Reach). begins r ≡ false) c.args.reaches.now n) c.if-begun-eq0.true
    c.requires.begun))

pub returns : goal.returns
returns c =
    let some : 0 < c.args.begun = omega (arith, c.if-begun-eq0.false) in
    c.goes_past.ensures
    ∙ sym (last_tells c.args.slo c.args.minute c.args.begun c.args.reaches.now
    c.index-reaches-begun.result c.requires.ordered some c.requires.within
    c.index-reaches-begun.is c.requires.begun)
