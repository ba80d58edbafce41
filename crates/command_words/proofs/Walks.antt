-- What `clap` makes of words of which none begins with a hyphen.
use Rattle.std.proofs.Common.{◌≡◌, ◌∙◌, Bool, true, false, List, [], ◌∷◌, Option, Some, None}
use Rattle.std.proofs.Common.{codes, refl, ap, subst, ◌++◌, append_assoc}
use Rattle.std.specs.Prelude.{find, fold}
use Rattle.std.proofs.lemmas.List.{append-nil}
use Rattle.std.specs.Option.{option_map_or}
use Rattle.std.specs.Str.{bytes_eq}
use Rattle.clap.specs.Walk.{Names, Rule, Text, Walk, answers_to, nothing_held, walk, walk_from}
use Rattle.clap.specs.Walk.{walked}
use Rattle.clap.specs.Simple.{App, Shape, built, built_leaf, inherited, is_simple, label_of}
use Rattle.clap.specs.Simple.{names_of, new_app, subcommand_of}
use Rattle.clap.specs.Faults.{entered_fault, fault_of, is_simple_and_free, level_fault, walk_fault}
use Rattle.clap.specs.Kinds.{Kinds, or_else}
use Rattle.clap.specs.Lexer.{long_of, short_of}
use Rattle.clap.proofs.OnLiterals.{clap_on_literals}
use Rattle.command_words.specs.Commands.{asked_of, is_dashed}
use Rattle.command_words.specs.Forms.{budget_form, one_word_form, whole_form}
use Rattle.command_words.specs.Matches.{asked_by}

pub simple_and_free : is_simple_and_free whole_form ≡ true
unfolding clap_on_literals
simple_and_free = refl

pub simple : is_simple whole_form ≡ true
unfolding clap_on_literals
simple = refl

-- a word that doesn't begin with a hyphen is no flag
plain_long : (w : Text) → is_dashed w ≡ false → long_of w ≡ None
plain_long [] h = refl
plain_long (x ∷ xs) h = rw h refl

plain_short : (w : Text) → is_dashed w ≡ false → short_of w ≡ None
plain_short [] h = refl
plain_short (x ∷ xs) h = rw h refl

plain_dashes : (w : Text) → is_dashed w ≡ false → bytes_eq w (45 ∷ 45 ∷ []) ≡ false
plain_dashes [] h = refl
plain_dashes (x ∷ xs) h = rw h refl

-- the words behind a command that was met are its own
stopped_walk : (c : List Rule) (names : Names) (w : Walk) (name : Text) (before ws : List Text)
    → fold (walked c names) (record w { stopped = Some (name, before) }) ws
    ≡ record w { stopped = Some (name, before ++ ws) }
unfolding walked
stopped_walk c names w name before [] = rw (append-nil before) refl
stopped_walk c names w name before (x ∷ ws) =
    rw (← append_assoc before (x ∷ []) ws) (stopped_walk c names w name (before ++ x ∷ []) ws)

-- the words are taken, and what was found asks for what the words ask for
abbrev pub IsTaken : List Text → Type 0
IsTaken ws =
    (fault_of whole_form ws ≡ []) × (asked_by (subcommand_of whole_form ws) ≡ asked_of ws)

-- the words are refused
abbrev pub IsRefused : List Text → Type 0
IsRefused ws = fault_of whole_form ws ≡ [] → ⊥

abbrev IsPlain : Text → Type 0
IsPlain w = is_dashed w ≡ false

pub no_words : IsRefused []
unfolding clap_on_literals
no_words = λ e. cc e

-- a first word that names no command
pub no_name : (w : Text) (ws : List Text) → IsPlain w
    → bytes_eq (codes "budget") w ≡ false → bytes_eq (codes "check") w ≡ false
    → bytes_eq (codes "init") w ≡ false → bytes_eq (codes "pipe") w ≡ false
    → bytes_eq (codes "report") w ≡ false → bytes_eq (codes "serve") w ≡ false
    → bytes_eq (codes "generate") w ≡ false → bytes_eq (codes "counters") w ≡ false
    → bytes_eq (codes "migrate") w ≡ false → bytes_eq (codes "export") w ≡ false
    → bytes_eq (codes "follow") w ≡ false
    → IsRefused (w ∷ ws)
unfolding clap_on_literals
no_name w ws p budget check init pipe report serve generate counters migrate export follow =
    rw (
      budget,
      check,
      init,
      pipe,
      report,
      serve,
      generate,
      counters,
      migrate,
      export,
      follow,
      plain_dashes w p,
      plain_long w p,
      plain_short w p,
    ) (λ e. cc e)

-- ---- words that a command refuses

abbrev program : App
program = built whole_form

-- how a command reads the words behind its name
abbrev shape_of : App → Shape
shape_of form = built_leaf (inherited program.top form.top)

-- the walk up to the name of a command, and behind it
abbrev at_name : Text → Walk
at_name name = walked program.top.rules (names_of program) (walk_from nothing_held) name

abbrev behind_name : Text → Walk
behind_name name = record (walk_from nothing_held) { stopped = Some (name, []) }

-- the program has a command of this name and this form
abbrev pub IsCommand : Text → App → Type 0
IsCommand name form =
    (at_name name ≡ behind_name name)
    × (find (λ s. answers_to name (label_of s)) program.subs ≡ Some (shape_of form))

first_empty : (x y : Kinds) → or_else x y ≡ [] → x ≡ []
first_empty [] y e = refl
first_empty (k ∷ ks) y e = cc e

second_empty : (x y : Kinds) → or_else x y ≡ [] → y ≡ []
second_empty [] y e = e
second_empty (k ∷ ks) y e = cc e

-- what a command refuses is refused behind its name
refused_behind : (name : Text) (form : App) (ws : List Text) → IsCommand name form
    → (walk_fault (shape_of form) [] (walk_from nothing_held) ws ≡ [] → ⊥)
    → IsRefused (name ∷ ws)
refused_behind name form ws (met, found) refuses fine =
    let stops : (walk program.top.rules (names_of program) nothing_held (name ∷ ws)).stopped
    ≡ Some (name, ws) =
    ap (λ (w : Walk). (fold (walked program.top.rules (names_of program)) w ws).stopped) met
    ∙ ap (λ (w : Walk). w.stopped)
    (stopped_walk program.top.rules (names_of program) (walk_from nothing_held) name [] ws) in
    let entered : entered_fault program (Some (name, ws)) ≡ [] =
    subst (λ (p : Option (Text × List Text)). entered_fault program p ≡ []) stops
    (first_empty _ _ (second_empty _ _ fine)) in
    let below : level_fault (shape_of form) [] nothing_held ws false [] ≡ [] =
    subst
    (λ (o : Option Shape).
    option_map_or (λ s. level_fault s [] nothing_held ws false []) o [] ≡ []) found entered in
    refuses (first_empty _ _ below)

-- a command without words behind its name refuses one
pub one_too_many : (name : Text) → IsCommand name (new_app name) → (a : Text) (ws : List Text)
    → IsPlain a → IsRefused (name ∷ a ∷ ws)
unfolding clap_on_literals
one_too_many name is a ws p_a =
    refused_behind name (new_app name) (a ∷ ws) is
    (rw (plain_dashes a p_a, plain_long a p_a, plain_short a p_a) (λ e. cc e))

-- one with a word, needed or not, refuses a second one
pub second_too_many : (name id : Text) (is_needed : Bool)
    → IsCommand name (one_word_form name id is_needed) → (a b : Text) (ws : List Text)
    → IsPlain a → IsPlain b → IsRefused (name ∷ a ∷ b ∷ ws)
unfolding clap_on_literals
second_too_many name id is_needed is a b ws p_a p_b =
    refused_behind name (one_word_form name id is_needed) (a ∷ b ∷ ws) is
    (rw (
      plain_dashes a p_a,
      plain_long a p_a,
      plain_short a p_a,
      plain_dashes b p_b,
      plain_long b p_b,
      plain_short b p_b,
    )
    (λ e. cc e))

-- the words behind `budget`
pub budget_0 : IsRefused (codes "budget" ∷ [])
unfolding clap_on_literals
budget_0 = λ e. cc e

pub budget_1 : (a : Text) → IsPlain a
    → IsRefused (codes "budget" ∷ a ∷ [])
unfolding clap_on_literals
budget_1 a p_a =
    rw (plain_dashes a p_a, plain_long a p_a, plain_short a p_a)
    (λ e. cc e)

pub budget_2 : (a b : Text) → IsPlain a → IsPlain b
    → IsRefused (codes "budget" ∷ a ∷ b ∷ [])
unfolding clap_on_literals
budget_2 a b p_a p_b =
    rw (
      plain_dashes a p_a,
      plain_long a p_a,
      plain_short a p_a,
      plain_dashes b p_b,
      plain_long b p_b,
      plain_short b p_b,
    )
    (λ e. cc e)

pub budget_3 : (a b c : Text) → IsPlain a → IsPlain b → IsPlain c
    → IsTaken (codes "budget" ∷ a ∷ b ∷ c ∷ [])
unfolding clap_on_literals
budget_3 a b c p_a p_b p_c =
    rw (
      plain_dashes a p_a,
      plain_long a p_a,
      plain_short a p_a,
      plain_dashes b p_b,
      plain_long b p_b,
      plain_short b p_b,
      plain_dashes c p_c,
      plain_long c p_c,
      plain_short c p_c,
    )
    (refl, refl)

pub budget_4 : (a b c d : Text) (ws : List Text) → IsPlain a → IsPlain b → IsPlain c → IsPlain d
    → IsRefused (codes "budget" ∷ a ∷ b ∷ c ∷ d ∷ ws)
unfolding clap_on_literals
budget_4 a b c d ws p_a p_b p_c p_d =
    refused_behind (codes "budget") budget_form (a ∷ b ∷ c ∷ d ∷ ws) (refl, refl)
    (rw (
      plain_dashes a p_a,
      plain_long a p_a,
      plain_short a p_a,
      plain_dashes b p_b,
      plain_long b p_b,
      plain_short b p_b,
      plain_dashes c p_c,
      plain_long c p_c,
      plain_short c p_c,
      plain_dashes d p_d,
      plain_long d p_d,
      plain_short d p_d,
    )
    (λ e. cc e))

-- the words behind the other commands
pub check_0 : IsTaken (codes "check" ∷ [])
unfolding clap_on_literals
check_0 = (refl, refl)

pub pipe_0 : IsTaken (codes "pipe" ∷ [])
unfolding clap_on_literals
pipe_0 = (refl, refl)

pub export_0 : IsRefused (codes "export" ∷ [])
unfolding clap_on_literals
export_0 = λ e. cc e

pub export_1 : (a : Text) → IsPlain a → IsTaken (codes "export" ∷ a ∷ [])
unfolding clap_on_literals
export_1 a p_a = rw (plain_dashes a p_a, plain_long a p_a, plain_short a p_a) (refl, refl)

pub migrate_0 : IsTaken (codes "migrate" ∷ [])
unfolding clap_on_literals
migrate_0 = (refl, refl)

pub follow_0 : IsTaken (codes "follow" ∷ [])
unfolding clap_on_literals
follow_0 = (refl, refl)

pub init_0 : IsTaken (codes "init" ∷ [])
unfolding clap_on_literals
init_0 = (refl, refl)

pub init_1 : (a : Text) → IsPlain a → IsTaken (codes "init" ∷ a ∷ [])
unfolding clap_on_literals
init_1 a p_a = rw (plain_dashes a p_a, plain_long a p_a, plain_short a p_a) (refl, refl)

pub report_0 : IsTaken (codes "report" ∷ [])
unfolding clap_on_literals
report_0 = (refl, refl)

pub report_1 : (a : Text) → IsPlain a → IsTaken (codes "report" ∷ a ∷ [])
unfolding clap_on_literals
report_1 a p_a = rw (plain_dashes a p_a, plain_long a p_a, plain_short a p_a) (refl, refl)

pub serve_0 : IsRefused (codes "serve" ∷ [])
unfolding clap_on_literals
serve_0 = λ e. cc e

pub serve_1 : (a : Text) → IsPlain a → IsTaken (codes "serve" ∷ a ∷ [])
unfolding clap_on_literals
serve_1 a p_a = rw (plain_dashes a p_a, plain_long a p_a, plain_short a p_a) (refl, refl)

pub generate_0 : IsRefused (codes "generate" ∷ [])
unfolding clap_on_literals
generate_0 = λ e. cc e

pub generate_1 : (a : Text) → IsPlain a → IsTaken (codes "generate" ∷ a ∷ [])
unfolding clap_on_literals
generate_1 a p_a = rw (plain_dashes a p_a, plain_long a p_a, plain_short a p_a) (refl, refl)

pub counters_0 : IsRefused (codes "counters" ∷ [])
unfolding clap_on_literals
counters_0 = λ e. cc e

pub counters_1 : (a : Text) → IsPlain a → IsTaken (codes "counters" ∷ a ∷ [])
unfolding clap_on_literals
counters_1 a p_a = rw (plain_dashes a p_a, plain_long a p_a, plain_short a p_a, p_a) (refl, refl)
