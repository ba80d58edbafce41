use Rattle.std.proofs.Common.{◌∙◌, arith, refl, sym, take}
use Rattle.std.proofs.lemmas.List.{length-set}
use Rattle.plain_fields.proofs.ReadLemmas.{byte_read, end_put, last_put, nothing_read}
use Rattle.plain_fields.proofs.ends.field_ends.Goals as goal
use Rattle.plain_fields.proofs.ends.field_ends.Goals.{else-is_mark}
use Rattle.plain_fields.proofs.ends.field_ends.Goals.{then-is_mark+else-count-ends+else-byte-ne44}

pub loop-at-init : goal.loop-at-init
loop-at-init c = record {
  read = nothing_read c.args.text.now c.args.from (take 0 c.args.ends.now) refl;
  few = omega (arith, c.requires);
}

pub loop-at-preserved : goal.loop-at-preserved
loop-at-preserved c =
    let text = c.args.text.now in
    let ends = c.loop-at.ends in
    let count = c.loop-at.count in
    let at = c.loop-at.at in
    record {
      read = elim c.if-is_mark.branch [
        | then-is_mark+else-count-ends+else-byte-ne44 w ↦
            rw (w.ends-is, w.count-is)
            (end_put text c.args.from ends count at c.loop-at.invariant.read
            c.loop-at.invariant.few c.loop-at-test.true w.if-byte-ne44.false)
        | else-is_mark w ↦
            rw (w.ends-is, w.count-is)
            (byte_read text c.args.from (take count ends) at c.loop-at.invariant.read
            c.loop-at-test.true (sym c.is_mark.ensures ∙ w.if-is_mark.false))
      ];
      few = elim c.if-is_mark.branch [
        | then-is_mark+else-count-ends+else-byte-ne44 w ↦
            rw (w.ends-is, w.count-is)
            (let room = c.loop-at.invariant.few in omega (arith, length-set ends count at))
        | else-is_mark w ↦ rw (w.ends-is, w.count-is) c.loop-at.invariant.few
      ];
    }

pub returns-then-count-ends : goal.returns-then-count-ends
returns-then-count-ends c =
    let ends = c.loop-at.ends in
    let count = c.loop-at.count in
    last_put c.args.text.now c.args.from ends count c.loop-at.at c.loop-at.invariant.read
    (omega arith) (omega (arith, c.if-count-ends.true, length-set ends count c.loop-at.at))
    c.loop-at-test.true c.if-byte-ne10.false
