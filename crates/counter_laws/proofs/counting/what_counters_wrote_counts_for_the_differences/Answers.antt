use Rattle.counter_laws.proofs.HistoryLemmas.{history-counts}
use Rattle.counter_laws.proofs.counting.what_counters_wrote_counts_for_the_differences.Goals as goal

pub returns : goal.returns
returns c = history-counts
