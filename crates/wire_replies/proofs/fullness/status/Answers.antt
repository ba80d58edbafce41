use Rattle.std.proofs.Common.{◌∙◌, ap}
use Rattle.serde_json.specs.View.{members_view}
use Rattle.serde_json.proofs.Views.{view-Object}
use Rattle.wire_replies.proofs.FullnessLemmas.{all_put, status_is_whole}
use Rattle.wire_replies.proofs.fullness.status.Goals as goal

pub returns : goal.returns
returns c = record {
  same = view-Object c.put_used-11.new.map
      ∙ all_put c.args.status.now (ap members_view c.new-map.ensures.empty) c.in_ok-put_used.ensures
      c.in_ok-put_number.ensures c.in_ok-put_used-2.ensures c.in_ok-put_used-3.ensures
      c.in_ok-put_used-4.ensures c.in_ok-put_used-5.ensures c.in_ok-put_number-2.ensures
      c.in_ok-put_used-6.ensures c.in_ok-put_minute.ensures c.in_ok-put_used-7.ensures
      c.in_ok-put_used-8.ensures c.in_ok-put_number-3.ensures c.in_ok-put_used-9.ensures
      c.in_ok-put_used-10.ensures c.in_ok-put_number-4.ensures c.in_ok-put_used-11.ensures;
  whole = status_is_whole c.args.status.now;
}
