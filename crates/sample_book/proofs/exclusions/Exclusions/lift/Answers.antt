use Rattle.std.proofs.Common.{◌≡◌, ◌++◌, take, drop, length, arith, ◌∙◌, ◌&&◌, not, Bool, ap, sym}
use Rattle.std.proofs.Common.{List, set, subst}
use Rattle.std.proofs.lemmas.Grind.{common_steps}
use Rattle.std.proofs.lemmas.List.Edits.{map_over_more}
use Rattle.sample_book.specs.declared.exclusions.Exclusion.{Exclusion}
use Rattle.sample_book.specs.Exclusions.{Kept, has_id, after_lifting}
use Rattle.sample_book.specs.Reaches.{AreReaches}
use Rattle.sample_book.proofs.IdLemmas.{exclusions_lifted, excluded_lifted, length_lifted}
use Rattle.sample_book.proofs.exclusions.Exclusions.lift.Goals as goal
use Rattle.sample_book.proofs.exclusions.Exclusions.lift.Goals.{After-deref}

pub loop-kept-preserved : goal.loop-kept-preserved
loop-kept-preserved c =
    let items = c.loop-kept.kept-items in
    let i = c.loop-kept.kept-index in
    let r = c.kept-item.result in
    ap (λ (kept : Exclusion × Bool). set items i (kept.0, kept.1 && c.ne.result))
    (sym c.kept-item.is)
    ∙ ap (λ (b : Bool). set items i (r.0, r.1 && b)) (c.ne.ensures
    ∙ ap (λ (kept : Exclusion × Bool). not (has_id c.args.id kept)) (sym c.kept-item.is))
    ∙ map_over_more (λ (kept : Exclusion × Bool). (kept.0, kept.1 && not (has_id c.args.id kept)))
    c.deref_mut-kept-items.result.now items i r c.loop-kept-test.true c.loop-kept.invariant
    c.kept-item.is

-- the exclusions are written back
written : (c : After-deref) → take c.self.inside.made.len
    (c.loop-kept.kept-items ++ drop (length c.loop-kept.kept-items) c.self.inside.made.items)
    ≡ after_lifting c.self.inside.made.items c.args.id
written c = grind (arith, common_steps)

pub make_reaches-requires : goal.make_reaches-requires
make_reaches-requires c = omega (
  arith,
  ap length c.deref.ensures.value,
  ap length (written (goal.at.make_reaches-requires c).After-deref),
  length_lifted c.self.inside.made.items c.args.id,
  c.self.invariant.listed,
)

pub invariant_of-self : goal.invariant_of-self
invariant_of-self c =
    let known = c.self.invariant in
    let is = written (goal.at.invariant_of-self c).After-deref in
    let same = ap length is ∙ length_lifted c.self.inside.made.items c.args.id in
    record {
      exclusions = exclusions_lifted c.self.inside.made.items _ c.args.id known.exclusions is;
      in_step = subst (λ (xs : List (Exclusion × Bool)).
          AreReaches xs c.make_reaches.new.reaches.items) c.deref.ensures.value
          c.make_reaches.ensures.reaches;
      few = omega (arith, same, known.few);
      ready = omega (arith, same, known.ready);
      listed = omega (arith, same, known.listed, c.make_reaches.ensures.capacity);
    }

pub returns-clause-minutes : goal.returns-clause-minutes
returns-clause-minutes c value slo minute found =
    excluded_lifted c.args.self.now c.self.inside.made.items _ c.args.id value slo minute
    (ap (λ (k : Kept). k.made) c.self.view_is) c.self.invariant.exclusions
    (written (goal.at.returns-clause-minutes c).After-deref) found
