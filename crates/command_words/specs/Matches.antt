-- What the command that `clap` found asks for, with the arguments that it holds.
use Rattle.std.specs.Prelude.{ℕ, List, [], ◌∷◌, Option, Some, None, codes, if◌then◌else◌}
use Rattle.std.specs.Prelude.{Bool, false, option_map, ◌||◌}
use Rattle.std.specs.Str.{bytes_eq}
use Rattle.clap.specs.Walk.{Row as Argument, Text, first_of}
use Rattle.exact_fraction.specs.Label.{label_of}
use Rattle.budget_command.specs.Order.{order_of}
use Rattle.command_words.specs.Commands.{counters_for, minute_asked, number_asked, part_asked}
use Rattle.command_words.specs.Commands.{port_asked}
use Rattle.command_words.specs.declared.invocation.Invocation.{Invocation}
use Rattle.command_words.specs.declared.invocation.Invocation.TheVariants.{Answer, Init, Pipe}
use Rattle.command_words.specs.declared.invocation.Invocation.TheVariants.{Report}
use Rattle.command_words.specs.declared.invocation.Invocation.TheVariants.{Counters, Generate}
use Rattle.command_words.specs.declared.invocation.Invocation.TheVariants.{Export, Follow}
use Rattle.command_words.specs.declared.invocation.Invocation.TheVariants.{Migrate, Serve}
use Rattle.command_words.specs.declared.invocation.CountersOrder.{CountersOrder}
use Rattle.command_words.specs.declared.invocation.InputCommand.{InputCommand}
use Rattle.command_words.specs.declared.invocation.InputCommand.TheVariants.{Budget, Check}

-- the minute that a word asks for, where there is one
abbrev pub minute_by : Option Text → Option (Option ℕ)
minute_by None = minute_asked []
minute_by (Some word) = minute_asked (word ∷ [])

-- the number that a word asks for, where there is one
abbrev pub number_by : Option Text → Option ℕ
number_by None = None
number_by (Some word) = number_asked (word ∷ [])

-- the part that a word asks for, where there is one
abbrev pub part_by : Option Text → Option ℕ
part_by None = None
part_by (Some word) = part_asked (word ∷ [])

-- the port that a word asks for, where there is one
abbrev pub port_by : Option Text → Option ℕ
port_by None = None
port_by (Some word) = port_asked (word ∷ [])

-- the indicator whose rows a word asks for, where there is one
abbrev pub counters_by : Option Text → Option CountersOrder
counters_by None = None
counters_by (Some word) = option_map counters_for (label_of word)

-- what the three words of `budget` ask for
abbrev pub order_with : Option Text → Option Text → Option Text → Option InputCommand
order_with (Some target) (Some from) (Some to) = option_map Budget (order_of target from to)
order_with _ _ _ = None

abbrev pub order_by : List Argument → Option InputCommand
order_by arguments =
    order_with (first_of (codes "target") arguments) (first_of (codes "from") arguments)
    (first_of (codes "to") arguments)

-- what a command asks for with the arguments that are held for it
abbrev pub asked_in : Text → List Argument → Option Invocation
asked_in name arguments =
    if bytes_eq name (codes "budget") then option_map Answer (order_by arguments)
    else if bytes_eq name (codes "check") then Some (Answer Check)
    else if bytes_eq name (codes "init")
    then option_map Init (minute_by (first_of (codes "origin") arguments))
    else if bytes_eq name (codes "pipe") then Some Pipe
    else if bytes_eq name (codes "report")
    then option_map Report (minute_by (first_of (codes "at") arguments))
    else if bytes_eq name (codes "serve")
    then option_map Serve (port_by (first_of (codes "port") arguments))
    else if bytes_eq name (codes "generate")
    then option_map Generate (number_by (first_of (codes "number") arguments))
    else if bytes_eq name (codes "counters")
    then option_map Counters (counters_by (first_of (codes "sli") arguments))
    else if bytes_eq name (codes "migrate") then Some Migrate
    else if bytes_eq name (codes "export")
    then option_map Export (part_by (first_of (codes "part") arguments))
    else if bytes_eq name (codes "follow") then Some Follow
    else None

-- what the command that was found asks for
abbrev pub asked_by : Option (Text × List Argument) → Option Invocation
asked_by None = None
asked_by (Some found) = asked_in found.0 found.1

-- whether the first word is the name of a command that only reads
abbrev pub begins_with_reader : List Text → Bool
begins_with_reader [] = false
begins_with_reader (name ∷ words) =
    bytes_eq name (codes "report") || bytes_eq name (codes "export")
