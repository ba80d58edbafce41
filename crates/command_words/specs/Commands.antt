-- The words of the program, and what they ask for.
use Rattle.std.specs.Prelude.{ℕ, ◌<◌, ◌≤◌, ◌==◌, ⊤, option_and_then, option_map, List, [], ◌∷◌}
use Rattle.std.specs.Prelude.{codes, Bool, true, false, Option, Some, None, if◌then◌else◌}
use Rattle.std.specs.Str.{bytes_eq}
use Rattle.exact_fraction.specs.Digits.{plain_number_within}
use Rattle.exact_fraction.specs.Label.{label_of}
use Rattle.slo_limits.specs.declared.TheConstants.{MAX_MINUTE, WHOLE}
use Rattle.budget_command.specs.Order.{budget_order}
use Rattle.sample_stream.specs.declared.stream.TheConstants.{MAX_NUMBER}
use Rattle.command_words.specs.declared.invocation.Invocation.{Invocation}
use Rattle.command_words.specs.declared.invocation.Invocation.TheVariants.{Answer, Init, Pipe}
use Rattle.command_words.specs.declared.invocation.Invocation.TheVariants.{Report}
use Rattle.command_words.specs.declared.invocation.Invocation.TheVariants.{Counters, Generate}
use Rattle.command_words.specs.declared.invocation.Invocation.TheVariants.{Export, Follow}
use Rattle.command_words.specs.declared.invocation.Invocation.TheVariants.{Migrate, Serve}
use Rattle.command_words.specs.declared.reading.TheConstants.{MAX_PARTS}
use Rattle.command_words.specs.declared.invocation.CountersOrder.{CountersOrder}
use Rattle.command_words.specs.declared.invocation.InputCommand.{InputCommand}
use Rattle.command_words.specs.declared.invocation.InputCommand.TheVariants.{Budget, Check}

-- a word that begins with a hyphen
abbrev pub is_dashed : List ℕ → Bool
is_dashed [] = false
is_dashed (byte ∷ word) = byte == 45

-- what a form that is its name alone asks for
abbrev pub asked_alone : {A : Type 0} → A → List (List ℕ) → Option A
asked_alone asked [] = Some asked
asked_alone asked _ = None

-- what the words behind the name of a command that is answered from its input ask for
abbrev pub command_named : List ℕ → List (List ℕ) → Option InputCommand
command_named name words =
    if bytes_eq name (codes "budget") then option_map Budget (budget_order words)
    else if bytes_eq name (codes "check") then asked_alone Check words
    else None

-- The minute that the words behind `init` or `report` ask for: none, which leaves it to the clock's
-- reading, or a minute of the clock without leading zeros.
abbrev pub minute_asked : List (List ℕ) → Option (Option ℕ)
minute_asked [] = Some None
minute_asked (word ∷ []) = option_map Some (plain_number_within MAX_MINUTE word)
minute_asked _ = None

-- a number that isn't 0
abbrev pub not_zero : ℕ → Option ℕ
not_zero number = if number == 0 then None else Some number

-- The number that the word behind `generate` asks for, without leading zeros: that of a sample
-- stream.
abbrev pub number_asked : List (List ℕ) → Option ℕ
number_asked (word ∷ []) = option_and_then not_zero (plain_number_within MAX_NUMBER word)
number_asked _ = None

-- The number that the word behind `export` asks for, without leading zeros: that of a part.
abbrev pub part_asked : List (List ℕ) → Option ℕ
part_asked (word ∷ []) = option_and_then not_zero (plain_number_within MAX_PARTS word)
part_asked _ = None

-- the greatest port
abbrev pub max_port : ℕ
max_port = 65535

-- The number that the word behind `serve` asks for, without leading zeros: that of a port.
abbrev pub port_asked : List (List ℕ) → Option ℕ
port_asked (word ∷ []) = option_and_then not_zero (plain_number_within max_port word)
port_asked _ = None

-- the order for the rows of this indicator
abbrev pub counters_for : List ℕ → CountersOrder
counters_for sli = record { sli = sli }

-- What the word behind `counters` asks for: the rows of an indicator, whose name is a label that
-- begins with no hyphen.
abbrev pub counters_asked : List (List ℕ) → Option CountersOrder
counters_asked (word ∷ []) =
    if is_dashed word then None else option_map counters_for (label_of word)
counters_asked _ = None

-- what the words behind the name of any command ask for
abbrev pub asked_named : List ℕ → List (List ℕ) → Option Invocation
asked_named name words =
    if bytes_eq name (codes "init") then option_map Init (minute_asked words)
    else if bytes_eq name (codes "report") then option_map Report (minute_asked words)
    else if bytes_eq name (codes "pipe") then asked_alone Pipe words
    else if bytes_eq name (codes "serve") then option_map Serve (port_asked words)
    else if bytes_eq name (codes "generate") then option_map Generate (number_asked words)
    else if bytes_eq name (codes "counters") then option_map Counters (counters_asked words)
    else if bytes_eq name (codes "migrate") then asked_alone Migrate words
    else if bytes_eq name (codes "export") then option_map Export (part_asked words)
    else if bytes_eq name (codes "follow") then asked_alone Follow words
    else option_map Answer (command_named name words)

-- What the words ask for; none where they are no form of a command.
abbrev pub asked_of : List (List ℕ) → Option Invocation
asked_of [] = None
asked_of (name ∷ words) = asked_named name words

-- a budget's target is below 1, and its range doesn't end before it begins
abbrev pub IsSound : InputCommand → Type 0
IsSound (Budget order) = (order.target < WHOLE) × (order.from ≤ order.to)
IsSound Check = ⊤

-- what is asked for is sound: a command on its input, a port, and the number of a sample stream
abbrev pub IsSoundInvocation : Invocation → Type 0
IsSoundInvocation (Answer command) = IsSound command
IsSoundInvocation (Init origin) = ⊤
IsSoundInvocation Pipe = ⊤
IsSoundInvocation (Report at) = ⊤
IsSoundInvocation (Serve port) = (1 ≤ port) × (port ≤ max_port)
IsSoundInvocation (Generate number) = (1 ≤ number) × (number ≤ MAX_NUMBER)
IsSoundInvocation (Counters order) = ⊤
IsSoundInvocation Migrate = ⊤
IsSoundInvocation (Export part) = (1 ≤ part) × (part ≤ MAX_PARTS)
IsSoundInvocation Follow = ⊤

-- a command that reads the journal's file and changes nothing in it: a report, or an export
abbrev pub only_reads : Invocation → Bool
only_reads (Report at) = true
only_reads (Export part) = true
only_reads _ = false
