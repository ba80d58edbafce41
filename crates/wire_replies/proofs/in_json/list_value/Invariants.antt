use Rattle.std.proofs.Common.{◌≡◌, false, map, take}
use Rattle.serde_json.specs.View.{view, items_of}
use Rattle.serde_json.specs.Written.{items_have_float}
use Rattle.wire_replies.proofs.in_json.list_value.Given as goal

abbrev pub invariant-loop-item : goal.invariant-loop-item
invariant-loop-item g l = record {
  same : map view l.values.items ≡ map g.T.InJson.content (take l.item-index l.items);
  whole : items_have_float (items_of (map view l.values.items)) ≡ false;
}
