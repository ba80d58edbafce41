use Rattle.std.proofs.Common.{rules, ◌≡◌, List, ℕ, subst, string_bytes}
use Rattle.office_outside.specs.Told.{GainedPrefix}
use Rattle.office_run.specs.declared.ending.Ending.TheVariants.{WriteFault}
use Rattle.office_run.proofs.generate.print_summary.Goals as goal

pub returns : goal.returns
returns g c =
    let held = g.K.Sink.held in
    let failed : c.write_lines.result ≡ WriteFault = search rules in (
      record {
        text = string_bytes c.in-Ok.text;
        exact = c.in-Ok.ensures;
        gained =
            subst
            (λ (l : List ℕ).
            GainedPrefix l (held c.args.output.now) (held c.write_lines.new.output))
            c.as_str.ensures.value (c.write_lines.ensures.part failed);
      },
      c.write_lines.ensures.cause failed,
    )
