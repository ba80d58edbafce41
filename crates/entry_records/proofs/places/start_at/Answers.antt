use Rattle.std.proofs.Common.{◌∙◌, ◌<◌, ◌-◌, ℕ, List, length, ap, subst}
use Rattle.std.specs.Prelude.{slice_index}
use Rattle.entry_records.proofs.KeptLemmas.{begins_at}
use Rattle.entry_records.proofs.places.start_at.Goals as goal

pub returns-else-place-eq0 : goal.returns-else-place-eq0
returns-else-place-eq0 c rs is =
    ap (λ (ns : List ℕ). slice_index ns (c.args.place - 1)) is
    ∙ begins_at 0 rs c.args.place c.if-place-eq0.false
    (subst (λ (ns : List ℕ). c.args.place < length ns) is c.requires)
