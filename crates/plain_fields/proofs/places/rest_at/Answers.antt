use Rattle.std.proofs.Common.{ap, arith}
use Rattle.csv_records.specs.Records.{csv_records}
use Rattle.plain_fields.proofs.PlaceLemmas.{all_left_at, none_left}
use Rattle.plain_fields.proofs.places.rest_at.Goals as goal

pub returns-then-at-text-clause-none : goal.returns-then-at-text-clause-none
returns-then-at-text-clause-none c =
    none_left c.args.text.now c.args.at c.if-at-text.true

pub returns-then-at-eq0-clause-some : goal.returns-then-at-eq0-clause-some
returns-then-at-eq0-clause-some c =
    all_left_at c.args.text.now c.args.at c.requires c.if-at-eq0.true

pub text_behind-requires : goal.text_behind-requires
text_behind-requires c = c.requires.later (omega (arith, c.if-at-eq0.false))

pub returns-clause-some : goal.returns-clause-some
returns-clause-some c = ap csv_records c.text_behind.ensures
