use Rattle.std.proofs.Common.{rules}
use Rattle.exact_fraction.specs.Digits.{number_of}
use Rattle.slo_duration.proofs.SameLemmas.{fitted}
use Rattle.slo_duration.proofs.read.of_digits.Goals as goal

pub returns : goal.returns
returns c = fitted _ (number_of c.args.digits.now) (search rules)
