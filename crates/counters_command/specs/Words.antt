-- The words for why the input of `counters` is refused.
use Rattle.std.specs.Prelude.{ℕ, List, ◌++◌, codes}
use Rattle.std.specs.Fmt.{decimal}
use Rattle.event_fields.specs.Events.{words_of_event}
use Rattle.counters_command.specs.declared.fault.CountersFault.{CountersFault}
use Rattle.counters_command.specs.declared.fault.CountersFault.TheVariants.{BadRecord, TooLarge}
use Rattle.counters_command.specs.declared.fault.ReadingFault.{ReadingFault}
use Rattle.counters_command.specs.declared.fault.ReadingFault.TheVariants as fault

-- the words for what is wrong with a record: a conflict says the kept numbers, a jump its minute
abbrev pub words_of_reading : ReadingFault → List ℕ
words_of_reading (fault.Event event) = words_of_event event
words_of_reading (fault.Conflict kept) =
    codes "conflict " ++ (decimal kept.good ++ (codes "," ++ decimal kept.total))
words_of_reading fault.Limit = codes "limit"
words_of_reading (fault.Jump minute) = codes "jump " ++ decimal minute

-- the words for an input that is refused
abbrev pub words_of_fault : CountersFault → List ℕ
words_of_fault TooLarge = codes "input too large"
words_of_fault (BadRecord number fault) =
    codes "record " ++ (decimal number ++ (codes ": " ++ words_of_reading fault))
