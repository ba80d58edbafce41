use Rattle.wire_replies.proofs.Values.{item_more, listed, whole_more}
use Rattle.wire_replies.proofs.in_json.list_value.Goals as goal

pub loop-item-preserved : goal.loop-item-preserved
loop-item-preserved g c = record {
  same =
      item_more g.T.InJson.content c.loop-item.values.items c.push.new.self.items c.args.items.now
      c.loop-item.item-index c.item-item.result c.in_ok-value.field-0
      c.in_ok-push.ensures.items c.loop-item-test.true c.item-item.is c.in_ok-value.ensures
      c.loop-item.invariant.same;
  whole =
      whole_more c.loop-item.values.items c.push.new.self.items c.in_ok-value.field-0
      (g.T.InJson.content c.item-item.result)
      c.in_ok-push.ensures.items c.in_ok-value.ensures c.loop-item.invariant.whole;
}

pub returns : goal.returns
returns g c =
    listed g.T.InJson.content c.loop-item.values c.args.items.now c.loop-item.item-index
    c.loop-item-test.false
    c.loop-item.invariant.same c.loop-item.invariant.whole
