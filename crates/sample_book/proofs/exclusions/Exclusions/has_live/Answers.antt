use Rattle.std.proofs.Common.{◌≡◌, ◌∙◌, List, ap, false, subst, sym}
use Rattle.std.specs.List.{list_any}
use Rattle.sample_book.specs.Exclusions.{Kept, is_excluded}
use Rattle.sample_book.specs.Reaches.{has_minute}
use Rattle.sample_book.specs.declared.reaches.Reach.{Reach}
use Rattle.sample_book.proofs.ReachLemmas.{none_of}
use Rattle.sample_book.proofs.exclusions.Exclusions.has_live.Goals as goal

pub returns : goal.returns
returns c = λ none minute.
    sym (ap (λ (k : Kept). is_excluded k.made c.args.slo minute) c.self.view_is)
    ∙ sym (c.self.invariant.in_step.minutes c.args.slo minute)
    ∙ subst (λ (xs : List Reach). list_any (has_minute c.args.slo minute) xs ≡ false)
    c.deref.ensures.value (none_of c.args.slo minute _ (sym c.has_reach_of.ensures ∙ none))
