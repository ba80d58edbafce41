use Rattle.std.proofs.Common.{false, refl}
use Rattle.office_derived.specs.declared.Derived.{Derived}
use Rattle.office_core.proofs.MachineLemmas.{kept_new}
use Rattle.office_core.proofs.machine.Core.new.Goals as goal

pub invariant_of-result : goal.invariant_of-result
invariant_of-result c =
    let d : Derived = record {
      origin = c.args.origin;
      entries = 0;
      present = c.args.origin;
      catalog = c.new-3.result;
      zones = c.new-4.result;
      book = c.in_ok-book.book;
      sums = c.new-5.result;
      accepted = 0;
      upgraded = false;
      notices = c.new-6.result;
      states = c.new-7.result;
    } in
    kept_new d c.new-8.result c.new-2.result.history _ _ c.new-8.ensures c.new-2.ensures
    c.requires refl refl c.new-3.ensures c.new-4.ensures c.in_ok-book.ensures.history
    c.new-5.ensures.own c.new-5.ensures.pooled refl refl c.new-6.ensures c.new-7.ensures.items
