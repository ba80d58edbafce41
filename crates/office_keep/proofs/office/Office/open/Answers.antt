use Rattle.std.proofs.Common.{◌≡◌, [], Err, sym, ap, ◌∙◌, subst, rules}
use Rattle.office_outside.specs.Disk.{IsQuiet}
use Rattle.office_outside.proofs.Moments.{quiet_then}
use Rattle.office_history.specs.History.{Office}
use Rattle.slo_journal.specs.File.{tail_of}
use Rattle.office_keep.specs.Files.{records}
use Rattle.office_keep.proofs.Findings.{as_found, as_unread}
use Rattle.office_keep.proofs.Histories.{walks_first_over}
use Rattle.office_keep.proofs.office.Office.open.Goals as goal

pub returns-in-Err-clause-found : goal.returns-in-Err-clause-found
returns-in-Err-clause-found g c =
    as_unread g.D.Disk.senses c.args.disk c.fault_of_open.result c.fault_of_open.ensures.other
    (λ same file told. c.in-Err.ensures.not_a_journal (c.fault_of_open.ensures.header same) file
    told)

pub invariant_of-result : goal.invariant_of-result
invariant_of-result g c =
    let b = c.in-Ok.ensures.begun in
    let none : records c.in-Ok-new.core.office.history ≡ [] =
    ap (λ (o : Office). records o.history) c.in-Ok-new.ensures.office in
    record {
      tail = c.in-Ok-ready.ensures.place.0
          ∙ c.in-Ok-load.ensures.place (b.at ∙ sym (ap tail_of none));
      none = c.in-Ok-ready.ensures.place.1;
      each = λ file image.
          let told = sym c.load.ensures.content ∙ c.in-Ok-ready.ensures.only file image in
          c.in-Ok-load.ensures.stands file told
          (walks_first_over _ _ _ file (c.in-Ok-new.ensures.office) c.origin.ensures
          (b.header file (sym b.same ∙ told)) b.at);
    }

pub returns-in-Ok-ready-clause-opened : goal.returns-in-Ok-ready-clause-opened
returns-in-Ok-ready-clause-opened g c =
    let b = c.in-Ok.ensures.begun in
    record {
      none = search rules;
      whole = search rules;
      read = λ file told. c.in-Ok-load.ensures.stands file (b.same ∙ told)
          (walks_first_over _ _ _ file (c.in-Ok-new.ensures.office) c.origin.ensures
          (b.header file told) b.at);
      quiet = quiet_then (quiet_then c.in-Ok.ensures.quiet c.load.ensures.quiet)
          c.in-Ok-ready.ensures.quiet;
      only = λ file image. sym b.same ∙ sym c.load.ensures.content
          ∙ c.in-Ok-ready.ensures.only file image;
    }

pub returns-in-Err-ready-clause-quiet_err : goal.returns-in-Err-ready-clause-quiet_err
returns-in-Err-ready-clause-quiet_err g c =
    quiet_then (quiet_then c.in-Ok.ensures.quiet c.load.ensures.quiet)
    c.in-Err-ready.ensures.quiet_err

pub returns-in-Err-load-clause-found : goal.returns-in-Err-load-clause-found
returns-in-Err-load-clause-found g c =
    let b = c.in-Ok.ensures.begun in
    as_found g.D.Disk.senses c.args.disk c.in-Err-load.fault
    (λ same. c.load.ensures.others.1 (c.in-Err-load.is ∙ ap Err same))
    (λ same. absurd (c.load.ensures.others.0 (c.in-Err-load.is ∙ ap Err same)))
    (λ at same file told. c.load.ensures.damaged at (c.in-Err-load.is ∙ ap Err same) file
    (b.same ∙ told) (walks_first_over _ _ _ file (c.in-Ok-new.ensures.office) c.origin.ensures
    (b.header file told) b.at))

pub returns-in-Err-load-clause-quiet_err : goal.returns-in-Err-load-clause-quiet_err
returns-in-Err-load-clause-quiet_err g c =
    subst (IsQuiet g.D.Disk.senses c.args.disk) (sym c.give_back-in-Err-load.ensures)
    (quiet_then c.in-Ok.ensures.quiet c.load.ensures.quiet)
