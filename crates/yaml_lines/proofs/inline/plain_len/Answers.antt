use Rattle.std.proofs.Common.{◌≡◌, ◌+◌, drop, get_or, true, false, sym, ap, ◌∙◌}
use Rattle.yaml_terms.specs.Line.{plain_len, stops_plain}
use Rattle.yaml_lines.proofs.LineLemmas.{plain_stops, plain_goes, plain_ends}
use Rattle.yaml_lines.proofs.inline.plain_len.Goals as goal

pub returns-then-stops_plain-clause-value : goal.returns-then-stops_plain-clause-value
returns-then-stops_plain-clause-value c =
    let at = c.loop-at.at in
    let bytes = c.args.bytes.now in
    let e : stops_plain (get_or bytes at 0) (drop (at + 1) bytes) ≡ true =
    ap (stops_plain (get_or bytes at 0)) (sym c.from.ensures) ∙ sym c.stops_plain.ensures
    ∙ c.if-stops_plain.true in
    plain_stops bytes at (plain_len bytes) c.loop-at-test.true e c.loop-at.invariant

pub loop-at-preserved : goal.loop-at-preserved
loop-at-preserved c =
    let at = c.loop-at.at in
    let bytes = c.args.bytes.now in
    let e : stops_plain (get_or bytes at 0) (drop (at + 1) bytes) ≡ false =
    ap (stops_plain (get_or bytes at 0)) (sym c.from.ensures) ∙ sym c.stops_plain.ensures
    ∙ c.if-stops_plain.false in
    plain_goes bytes at (plain_len bytes) c.loop-at-test.true e c.loop-at.invariant

pub returns-clause-value : goal.returns-clause-value
returns-clause-value c = plain_ends c.args.bytes.now c.loop-at.at (plain_len c.args.bytes.now)
    c.loop-at-test.false c.loop-at.auto.at-end c.loop-at.invariant
