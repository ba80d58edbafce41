use Rattle.std.proofs.Common.{◌≡◌, ◌∙◌, List, ap, false, inl, inr, refl, subst, true}
use Rattle.std.proofs.lemmas.Option.{IfSome_then}
use Rattle.kept_sums.specs.Found.{IsFound}
use Rattle.kept_sums.specs.Objectives.{KeptObjectives}
use Rattle.kept_sums.specs.declared.kept.ObjectiveSums.{ObjectiveSums}
use Rattle.kept_sums.proofs.SharedLemmas.{no-key-in}
use Rattle.kept_sums.proofs.kept.KeptSums.find_at.Goals as goal

pub returns-in-Some-clause-some : goal.returns-in-Some-clause-some
returns-in-Some-clause-some c =
    let own : c.deref.result.now ≡ c.args.self.now.own =
    c.deref.ensures.value ∙ ap (λ (k : KeptObjectives). k.own) c.self.view_is in
    inl (subst (λ (kept : List ObjectiveSums).
    IsFound false kept c.args.measure.now c.in-Some.sums.now) own c.in-Some.ensures.some)

pub returns-in-Some-pooled_at-clause-some : goal.returns-in-Some-pooled_at-clause-some
returns-in-Some-pooled_at-clause-some c =
    let own : c.deref.result.now ≡ c.args.self.now.own =
    c.deref.ensures.value ∙ ap (λ (k : KeptObjectives). k.own) c.self.view_is in
    let pool : c.deref-in-None.result.now ≡ c.args.self.now.pooled =
    c.deref-in-None.ensures.value ∙ ap (λ (k : KeptObjectives). k.pooled) c.self.view_is in
    inr (
      no-key-in false c.deref.result.now c.args.self.now.own c.args.measure.now own
          (c.in-None.ensures.none refl),
      subst (λ (kept : List ObjectiveSums).
          IsFound true kept c.args.measure.now c.in-Some-pooled_at.sums.now) pool
          c.in-Some-pooled_at.ensures.found,
    )

pub returns-in-None-pooled_at-clause-some : goal.returns-in-None-pooled_at-clause-some
returns-in-None-pooled_at-clause-some c =
    let own : c.deref.result.now ≡ c.args.self.now.own =
    c.deref.ensures.value ∙ ap (λ (k : KeptObjectives). k.own) c.self.view_is in
    let pool : c.deref-in-None-pooled_at.result.now ≡ c.args.self.now.pooled =
    c.deref-in-None-pooled_at.ensures.value
    ∙ ap (λ (k : KeptObjectives). k.pooled) c.self.view_is in
    IfSome_then c.find_by-in-None-pooled_at.result c.find_by-in-None-pooled_at.ensures.some
    (λ sums found. inr (
      no-key-in false c.deref.result.now c.args.self.now.own c.args.measure.now own
          (c.in-None.ensures.none refl),
      subst (λ (kept : List ObjectiveSums). IsFound true kept c.args.measure.now sums.now) pool
          found,
    ))

pub returns-in-None-pooled_at-clause-own : goal.returns-in-None-pooled_at-clause-own
returns-in-None-pooled_at-clause-own c = λ none.
    let own : c.deref.result.now ≡ c.args.self.now.own =
    c.deref.ensures.value ∙ ap (λ (k : KeptObjectives). k.own) c.self.view_is in
    no-key-in false c.deref.result.now c.args.self.now.own c.args.measure.now own
    (c.in-None.ensures.none refl)

pub returns-in-None-pooled_at-clause-pooled : goal.returns-in-None-pooled_at-clause-pooled
returns-in-None-pooled_at-clause-pooled c = λ none.
    let pool : c.deref-in-None-pooled_at.result.now ≡ c.args.self.now.pooled =
    c.deref-in-None-pooled_at.ensures.value
    ∙ ap (λ (k : KeptObjectives). k.pooled) c.self.view_is in
    no-key-in true c.deref-in-None-pooled_at.result.now c.args.self.now.pooled c.args.measure.now
    pool (c.find_by-in-None-pooled_at.ensures.none none)
