use Rattle.std.proofs.Common.{◌≡◌, subst, arith}
use Rattle.alert_line.specs.Minutes.{Forgets}
use Rattle.alert_line.proofs.MinuteLemmas.{Forgets-next}
use Rattle.alert_line.proofs.minutes.forget_singly.Goals as goal

pub loop-slot-preserved : goal.loop-slot-preserved
loop-slot-preserved c = record {
  forgot = Forgets-next c.args.bytes.now c.loop-slot.bytes c.put_bits.new.bytes c.args.from
      c.loop-slot.slot (omega arith) c.loop-slot.invariant.forgot c.put_bits.ensures.here;
  len = omega (arith, c.put_bits.ensures.len, c.loop-slot.invariant.len);
}

pub returns-clause-value : goal.returns-clause-value
returns-clause-value c =
    let e : c.loop-slot.slot ≡ c.args.to = omega arith in
    subst (λ at. Forgets c.args.bytes.now c.loop-slot.bytes c.args.from at) e
    c.loop-slot.invariant.forgot
