use Rattle.std.proofs.Common.{◌≡◌}
use Rattle.office_history.specs.declared.Judgement.{Judgement}
use Rattle.office_history.specs.Verdicts.{zone_verdict}
use Rattle.record_form.specs.declared.Command.TheVariants.{PutZone}
use Rattle.catalog_changes.specs.Judging.{IsZoneWork}
use Rattle.catalog_changes.proofs.ChangeLemmas.{judged_over, zone_over, zone_found}
use Rattle.catalog_changes.proofs.zone.judge_put_zone.Goals as goal

pub returns : goal.returns
returns c o r =
    let d = c.args.derived.now in
    let bytes = c.args.bytes.now in
    judged_over o c.args.moment (PutZone c.args.name bytes)
    (λ (j : Judgement). j ≡ zone_verdict d.zones.kept d.entries c.args.name bytes)
    (IsZoneWork c.args.name bytes) c.judged_zone.result
    (zone_over d o c.args.moment c.args.name bytes r) (zone_found o c.args.moment c.args.name bytes)
    c.judged_zone.ensures
