use Rattle.std.proofs.Common.{Err, ◌∙◌, rules, arith}
use Rattle.std.proofs.lemmas.Grind.{common_steps}
use Rattle.slo_duration.specs.Reading.{duration_of}
use Rattle.slo_duration.specs.declared.read.DurationFault.TheVariants.{BadNumber, BadUnit}
use Rattle.slo_duration.proofs.BackLemmas.{reads_back}
use Rattle.slo_duration.proofs.DigitLemmas.{is_number-prefix}
use Rattle.slo_duration.proofs.read.read_duration.Goals as goal

pub of_digits-requires : goal.of_digits-requires
of_digits-requires c =
    rw c.leading_digits-digits.ensures.value
    (is_number-prefix c.args.text.now
    (λ none. c.if-digits-eq0.false (c.leading_digits-digits.ensures.value ∙ none)))

pub returns-then-digits-eq0-clause-back : goal.returns-then-digits-eq0-clause-back
unfolding duration_of
returns-then-digits-eq0-clause-back c =
    reads_back (Err BadNumber) c.args.text.now (search rules)

pub returns-in-None-clause-back : goal.returns-in-None-clause-back
unfolding duration_of
returns-in-None-clause-back c =
    reads_back (Err BadUnit) c.args.text.now (grind (arith, common_steps))

pub returns-in-Some-clause-back : goal.returns-in-Some-clause-back
unfolding duration_of
returns-in-Some-clause-back c =
    reads_back c.of_digits.result c.args.text.now (grind (arith, common_steps))
