use Rattle.std.proofs.Common.{◌<◌, not, ap, subst, sym, ◌∙◌, arith, length, refl, slice_index_or}
use Rattle.kept_sums.specs.Sums.{SumsAreKept}
use Rattle.kept_sums.specs.Walks.{made_on}
use Rattle.kept_sums.specs.Objectives.{AreKept, HaveForms}
use Rattle.kept_sums.specs.declared.kept.ObjectiveSums.{ObjectiveSums}
use Rattle.kept_sums.proofs.FollowNeeds.{MayTurn, all_may_turn}
use Rattle.kept_sums.proofs.Loops.{half_end, half_get, half_step, keys_set, written_back}
use Rattle.kept_sums.proofs.follow.turn_all.Goals as goal

-- the sums of the objective at hand are those before the exclusion is followed
ready : (c : goal.After-follow_exclusion-arg-in-loop-kept-1) →
    MayTurn (made_on c.args.book.now.exclusions c.args.value.now (not c.args.taken))
    c.args.book.now.rows
    (slice_index_or c.loop-kept.kept-items c.loop-kept.kept-index
    c.kept-item.result)
ready c =
    let made = made_on c.args.book.now.exclusions c.args.value.now in
    half_get (MayTurn (made (not c.args.taken)) c.args.book.now.rows)
    (λ (k : ObjectiveSums). SumsAreKept k.measure (made c.args.taken) c.args.book.now.rows k.sums)
    c.loop-kept.kept-index c.loop-kept.kept-items c.kept-item.result
    (omega (arith, c.loop-kept-test.true, c.loop-kept.auto.kept-items))
    c.loop-kept.invariant.followed

pub follow_exclusion-requires-clause-kept : goal.follow_exclusion-requires-clause-kept
follow_exclusion-requires-clause-kept c = (ready c).kept

pub follow_exclusion-requires-clause-forms : goal.follow_exclusion-requires-clause-forms
follow_exclusion-requires-clause-forms c = (ready c).forms

pub loop-kept-init : goal.loop-kept-init
loop-kept-init c =
    let made = made_on c.args.book.now.exclusions c.args.value.now (not c.args.taken) in
    let same = sym c.deref_mut-kept-items.ensures.value in
    record {
      followed = all_may_turn made c.args.book.now.rows c.deref_mut-kept-items.result.now
          (subst (AreKept made c.args.book.now.rows) same c.requires.kept)
          (subst (HaveForms c.args.book.now.rows) same c.requires.forms);
      measures = refl;
    }

pub loop-kept-preserved : goal.loop-kept-preserved
loop-kept-preserved c =
    let made = made_on c.args.book.now.exclusions c.args.value.now in
    let items = c.loop-kept.kept-items in
    let at = c.loop-kept.kept-index in
    let less : at < length items =
    omega (arith, c.loop-kept-test.true, c.loop-kept.auto.kept-items) in
    let next : ObjectiveSums = record {
      measure = (slice_index_or items at c.kept-item.result).measure;
      sums = c.follow_exclusion.new.sums;
    } in
    record {
      followed = half_step (MayTurn (made (not c.args.taken)) c.args.book.now.rows)
          (λ (k : ObjectiveSums). SumsAreKept k.measure
          (made c.args.taken) c.args.book.now.rows k.sums)
          at items next less c.loop-kept.invariant.followed c.follow_exclusion.ensures.kept;
      measures = keys_set (λ (k : ObjectiveSums). k.measure) at items next c.kept-item.result refl
          ∙ c.loop-kept.invariant.measures;
    }

pub returns-clause-kept : goal.returns-clause-kept
returns-clause-kept c =
    let made = made_on c.args.book.now.exclusions c.args.value.now in
    let items = c.loop-kept.kept-items in
    let value = c.deref_mut-kept-items.ensures.value in
    subst (AreKept (made c.args.taken) c.args.book.now.rows)
    (sym (written_back items c.args.objectives.now.items c.args.objectives.now.len
    (c.loop-kept.auto.kept-items ∙ ap length value)
    (ap length (sym value) ∙ c.deref_mut-kept-items.ensures.len)))
    (half_end (MayTurn (made (not c.args.taken)) c.args.book.now.rows)
    (λ (k : ObjectiveSums). SumsAreKept k.measure (made c.args.taken) c.args.book.now.rows k.sums)
    c.loop-kept.kept-index items
    (omega (arith, c.loop-kept-test.false, c.loop-kept.auto.kept-items))
    c.loop-kept.invariant.followed)
