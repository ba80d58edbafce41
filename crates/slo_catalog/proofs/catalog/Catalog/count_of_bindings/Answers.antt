use Rattle.std.proofs.Common.{◌≤◌, List, length, subst, sym, ap, ◌∙◌}
use Rattle.slo_limits.specs.declared.TheConstants.{MAX_BINDINGS}
use Rattle.object_terms.specs.declared.Object.{Object}
use Rattle.catalog_terms.specs.Bindings.{bindings}
use Rattle.slo_catalog.proofs.CountLemmas.{few_bindings}
use Rattle.slo_catalog.proofs.catalog.Catalog.count_of_bindings.Goals as goal

pub count_of_bindings-requires : goal.count_of_bindings-requires
count_of_bindings-requires c = record {
  few = subst (λ (ms : List Object). length (bindings ms) ≤ MAX_BINDINGS)
      (sym c.sorted.ensures.all)
      (few_bindings c.args.self.now c.sorted.ensures.whole.within);
}

pub returns : goal.returns
returns c = c.count_of_bindings.ensures
    ∙ ap (λ (ms : List Object). length (bindings ms)) c.sorted.ensures.all
