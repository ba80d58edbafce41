use Rattle.record_form.proofs.SizeLemmas.{least_record, most_record}
use Rattle.record_form.proofs.laws.records_have_sizes.Goals as goal

pub returns : goal.returns
returns c = λ e fits. record { least = least_record e; most = most_record e fits }
