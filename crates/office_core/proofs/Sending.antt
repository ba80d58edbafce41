-- The machine may go to another thread, as each part of it may. Objects are shared by several, so
-- they may be seen by several threads too.
use denote.Param.Send.{IsSend, IsSync, sendable}
use Rattle.std.proofs.Crossing.{crosses}
use Rattle.std.proofs.MapsCrossing as maps
use Rattle.yaml_terms.specs.contracts.node.Node as node
use Rattle.yaml_terms.proofs.node.Node.TheLaws.TheKnot.{send-Node, sync-Node}
use Rattle.yaml_terms.specs.contracts.text.ScalarText as text
use Rattle.object_terms.specs.contracts.free_part.FreePart as part
use Rattle.object_terms.specs.contracts.sli.MetricSource as source
use Rattle.object_terms.specs.contracts.sli.Events as events
use Rattle.object_terms.specs.contracts.sli.Metric as metric
use Rattle.object_terms.specs.contracts.sli.Ratio as ratio
use Rattle.object_terms.specs.contracts.sli.RatioMetric as ratio_metric
use Rattle.object_terms.specs.contracts.sli.Sli as sli
use Rattle.object_terms.specs.contracts.slo.Slo as slo
use Rattle.object_terms.specs.contracts.object.Body as body
use Rattle.object_terms.specs.contracts.object.Object as object
use Rattle.slo_catalog.specs.contracts.member.Member as member
use Rattle.slo_catalog.specs.contracts.catalog.Catalog as catalog
use Rattle.office_derived.specs.contracts.derived.Derived as derived
use Rattle.office_derived.specs.contracts.work.Work as work
use Rattle.office_core.specs.contracts.machine.Pending as pending
use Rattle.office_core.specs.contracts.machine.Core as core
use Rattle.office_derived.proofs.zones.Zones.TheSendSync as zones
use Rattle.sample_book.proofs.book.SampleBook.TheSendSync as book
use Rattle.notice_box.proofs.notice_box.NoticeBox.TheSendSync as notices
use Rattle.zone_calendar.proofs.zone.Zone.TheSendSync as zone
use Rattle.exact_fraction.proofs.text.Bytes.TheSendSync as bytes
use Rattle.entry_records.proofs.entry_records.EntryRecords.TheSendSync as records
use Rattle.kept_sums.specs.contracts.kept.ObjectiveSums as objective
use Rattle.kept_sums.specs.contracts.plan.ListPlan as list_plan
use Rattle.kept_sums.specs.contracts.plan.SumsPlan as plan
use Rattle.kept_sums.proofs.kept.KeptSums.TheSendSync as sums
use Rattle.window_sums.proofs.window_sums.WindowSums.TheSendSync as window
use Rattle.alert_line.proofs.line.AlertLine.TheSendSync as line
use Rattle.kept_lines.specs.contracts.kept.WatchLine as watch_line
use Rattle.kept_lines.specs.contracts.plan.LinesPlan as lines_plan
use Rattle.kept_lines.proofs.kept.KeptLines.TheSendSync as lines
use Rattle.kept_lines.proofs.watch.Watch.TheSendSync as watch

pub text_send : IsSend text.the_row
text_send = search (sendable, crosses, maps.crosses) depth 40

pub text_sync : IsSync text.the_row
text_sync = search (sendable, crosses, maps.crosses) depth 40

pub part_send : IsSend part.the_row
part_send = search (send-Node, text_send, sendable, crosses) depth 40

pub part_sync : IsSync part.the_row
part_sync = search (sync-Node, text_sync, sendable, crosses) depth 40

pub source_send : IsSend source.the_field.row
source_send = search (part_send, sendable, crosses) depth 40 fits 100000

pub source_sync : IsSync source.the_field.row
source_sync = search (part_sync, sendable, crosses) depth 40 fits 100000

pub events_send : IsSend events.the_field.row
events_send = search (source_send, sendable, crosses) depth 40 fits 100000

pub events_sync : IsSync events.the_field.row
events_sync = search (source_sync, sendable, crosses) depth 40 fits 100000

pub ratio_send : IsSend ratio.the_field.row
ratio_send = search (source_send, events_send, sendable, crosses) depth 40 fits 100000

pub ratio_sync : IsSync ratio.the_field.row
ratio_sync = search (source_sync, events_sync, sendable, crosses) depth 40 fits 100000

pub ratio_metric_send : IsSend ratio_metric.the_field.row
ratio_metric_send = search (ratio_send, sendable, crosses) depth 40 fits 100000

pub ratio_metric_sync : IsSync ratio_metric.the_field.row
ratio_metric_sync = search (ratio_sync, sendable, crosses) depth 40 fits 100000

pub metric_send : IsSend metric.the_field.row
metric_send = search (ratio_metric_send, source_send, sendable, crosses) depth 40 fits 100000

pub metric_sync : IsSync metric.the_field.row
metric_sync = search (ratio_metric_sync, source_sync, sendable, crosses) depth 40 fits 100000

pub sli_send : IsSend sli.the_field.row
sli_send = search (metric_send, sendable, crosses) depth 40 fits 100000

pub sli_sync : IsSync sli.the_field.row
sli_sync = search (metric_sync, sendable, crosses) depth 40 fits 100000

pub slo_send : IsSend slo.the_field.row
slo_send = search (sendable, crosses) depth 40 fits 100000

pub slo_sync : IsSync slo.the_field.row
slo_sync = search (sendable, crosses) depth 40 fits 100000

pub body_send : IsSend body.the_field.row
body_send = search (slo_send, sli_send, part_send, sendable, crosses) depth 40 fits 100000

pub body_sync : IsSync body.the_field.row
body_sync = search (slo_sync, sli_sync, part_sync, sendable, crosses) depth 40 fits 100000

pub object_send : IsSend object.the_field.row
object_send = search (body_send, part_send, sendable, crosses) depth 40 fits 100000

pub object_sync : IsSync object.the_field.row
object_sync = search (body_sync, part_sync, sendable, crosses) depth 40 fits 100000

pub whole_object_send : IsSend object.the_row
whole_object_send = search (object_send, sendable, crosses) depth 40 fits 100000

pub whole_object_sync : IsSync object.the_row
whole_object_sync = search (object_sync, sendable, crosses) depth 40 fits 100000

pub member_send : IsSend member.the_field.row
member_send = search (whole_object_send, whole_object_sync, sendable, crosses) depth 40 fits 100000

pub catalog_send : IsSend catalog.the_row
catalog_send = search (member_send, sendable, crosses) depth 40 fits 100000

pub objective_send : IsSend objective.the_field.row
objective_send = search (window.the_send, sendable, crosses) depth 40 fits 100000

pub list_plan_send : IsSend list_plan.the_field.row
list_plan_send = search (objective_send, sendable, crosses) depth 40 fits 100000

pub plan_send : IsSend plan.the_field.row
plan_send = search (list_plan_send, sendable, crosses) depth 40 fits 100000

pub work_send : IsSend work.the_field.row
work_send =
    search (catalog_send, plan_send, zone.the_send, bytes.the_send, sendable, crosses) depth 40
    fits 100000

pub derived_send : IsSend derived.the_field.row
derived_send =
    search (
      catalog_send,
      zones.the_send,
      book.the_send,
      sums.the_send,
      notices.the_send,
      sendable,
      crosses,
    ) depth 40 fits 100000

pub watch_line_send : IsSend watch_line.the_field.row
watch_line_send = search (watch.the_send, line.the_send, sendable, crosses) depth 40 fits 100000

pub lines_plan_send : IsSend lines_plan.the_field.row
lines_plan_send =
    search (watch_line_send, watch.the_send, sendable, crosses) depth 40 fits 100000

pub pending_send : IsSend pending.the_field.row
pending_send = search (work_send, lines_plan_send, sendable, crosses) depth 40 fits 100000

pub core_send : IsSend core.the_row
core_send =
    search (
      records.the_send,
      pending_send,
      derived_send,
      lines.the_send,
      sendable,
      crosses,
    ) depth 40 fits 100000
