use Rattle.std.proofs.Common.{◌≡◌, ◌++◌, List, subst, sym}
use Rattle.std.specs.List.{Contains}
use Rattle.std.proofs.lemmas.List.Elements.{Contains-append_right}
use Rattle.kept_sums.specs.declared.kept.ObjectiveSums.{ObjectiveSums}
use Rattle.kept_sums.proofs.kept.find_by.Goals as goal

-- what stands behind the likely place is kept
pub returns-in-Some-clause-some : goal.returns-in-Some-clause-some
returns-in-Some-clause-some c =
    let before = c.split_at.result.0.now in
    let behind = c.split_at.result.1.now in
    let found = c.in-Some.ensures.some in
    let all : before ++ behind ≡ c.args.objectives.now = sym c.split_at.ensures.by_index.0 in
    record {
      entry = found.entry;
      there = subst (λ (kept : List ObjectiveSums). Contains kept found.entry) all
          (Contains-append_right before behind found.entry found.there);
      alike = found.alike;
      is = found.is;
    }
