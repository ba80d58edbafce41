use Rattle.std.proofs.Common.{Option, List, ℕ, inl, inr, refl, rules, subst, sym}
use Rattle.office_outside.specs.Faults.{Rose}
use Rattle.office_outside.specs.Told.{Gained}
use Rattle.counters_command.proofs.GainLemmas.{gained-all}
use Rattle.counters_command.proofs.running.end_with.Goals as goal

pub returns-in-Err-flush : goal.returns-in-Err-flush
returns-in-Err-flush g c =
    let held = g.K.Sink.held in
    let page = c.args.page.now in
    let gained : Gained page (held c.args.output.now) (held c.flush.new.self) =
    subst (λ (x : Option (List ℕ)). Gained page (held c.args.output.now) x)
    (sym c.flush.ensures.kept) c.in-Ok.ensures.gained in
    let rose : Rose (g.K.Sink.faults c.args.output.now) (g.K.Sink.faults c.flush.new.self) =
    search rules in
    inr (refl, gained-all page _ _ gained, rose)

pub returns-in-Ok-flush : goal.returns-in-Ok-flush
returns-in-Ok-flush g c =
    let held = g.K.Sink.held in
    inl (
      refl,
      subst (λ (x : Option (List ℕ)). Gained c.args.page.now (held c.args.output.now) x)
          (sym c.flush.ensures.kept) c.in-Ok.ensures.gained,
    )
