-- All words are taken for what they ask for, or are refused and ask for nothing.
use Rattle.std.proofs.Common.{◌≡◌, ◌||◌, ◌⊎◌, Bool, true, false, List, [], ◌∷◌, Option}
use Rattle.std.proofs.Common.{None, codes, refl, sym, ap, subst, ◌∙◌, inl, inr}
use Rattle.std.specs.List.{list_any}
use Rattle.std.specs.Str.{bytes_eq}
use Rattle.std.proofs.lemmas.Slice.Eq.{bytes_eq-Decides}
use Rattle.clap.specs.Walk.{Row as Argument, Text}
use Rattle.clap.specs.Kinds.{HasKind, IsAmong}
use Rattle.clap.specs.Values.{kind_of}
use Rattle.clap.specs.declared.error.Error.{Error}
use Rattle.clap.specs.declared.error.kind.ErrorKind.TheVariants as kind
use Rattle.clap.specs.declared.error.kind.ErrorKind.{ErrorKind}
use Rattle.clap.specs.Simple.{App, is_simple, new_app, subcommand_of}
use Rattle.clap.specs.Faults.{fault_of, is_simple_and_free}
use Rattle.clap.proofs.OnLiterals.{clap_on_literals}
use Rattle.command_words.specs.Commands.{asked_of, is_dashed}
use Rattle.command_words.specs.Forms.{one_word_form, whole_form}
use Rattle.command_words.specs.Matches.{asked_by}
use Rattle.command_words.proofs.Walks as walks
use Rattle.command_words.proofs.Walks.{IsCommand, IsTaken, IsRefused, simple, simple_and_free}
use Rattle.command_words.proofs.Walks.{no_words, no_name}

abbrev Sorts : List Text → Type 0
Sorts ws = IsTaken ws ⊎ (IsRefused ws × (asked_of ws ≡ None))

-- no word begins with a hyphen
abbrev pub ArePlain : List Text → Type 0
ArePlain ws = list_any is_dashed ws ≡ false

neither : (a b : Bool) → (a || b) ≡ false → (a ≡ false) × (b ≡ false)
neither true b h = cc h
neither false b h = (refl, h)

first_plain : (w : Text) (ws : List Text) → ArePlain (w ∷ ws) → (is_dashed w ≡ false) × ArePlain ws
first_plain w ws h = neither (is_dashed w) (list_any is_dashed ws) h

-- a command without words behind its name
no_word : (name : Text) → IsCommand name (new_app name) → Sorts (name ∷ [])
    → ((a : Text) (ws : List Text) → asked_of (name ∷ a ∷ ws) ≡ None)
    → (ws : List Text) → ArePlain ws → Sorts (name ∷ ws)
no_word name is none more [] h = none
no_word name is none more (a ∷ ws) h =
    inr (walks.one_too_many name is a ws (first_plain a ws h).0, more a ws)

-- one with one word at most
one_word : (name id : Text) (is_needed : Bool) → IsCommand name (one_word_form name id is_needed)
    → Sorts (name ∷ []) → ((a : Text) → is_dashed a ≡ false → IsTaken (name ∷ a ∷ []))
    → ((a b : Text) (ws : List Text) → asked_of (name ∷ a ∷ b ∷ ws) ≡ None)
    → (ws : List Text) → ArePlain ws → Sorts (name ∷ ws)
one_word name id is_needed is none one more [] h = none
one_word name id is_needed is none one more (a ∷ []) h = inl (one a (first_plain a [] h).0)
one_word name id is_needed is none one more (a ∷ b ∷ ws) h =
    let (p, q) = first_plain a (b ∷ ws) h in
    inr (
      walks.second_too_many name id is_needed is a b ws p (first_plain b ws q).0,
      more a b ws,
    )

checks : (ws : List Text) → ArePlain ws → Sorts (codes "check" ∷ ws)
unfolding clap_on_literals
checks = no_word (codes "check") (refl, refl) (inl walks.check_0) (λ a ws. refl)

pipes : (ws : List Text) → ArePlain ws → Sorts (codes "pipe" ∷ ws)
unfolding clap_on_literals
pipes = no_word (codes "pipe") (refl, refl) (inl walks.pipe_0) (λ a ws. refl)

exports : (ws : List Text) → ArePlain ws → Sorts (codes "export" ∷ ws)
unfolding clap_on_literals
exports =
    one_word (codes "export") (codes "part") true (refl, refl) (inr (walks.export_0, refl))
    walks.export_1 (λ a b ws. refl)

migrates : (ws : List Text) → ArePlain ws → Sorts (codes "migrate" ∷ ws)
unfolding clap_on_literals
migrates = no_word (codes "migrate") (refl, refl) (inl walks.migrate_0) (λ a ws. refl)

follows : (ws : List Text) → ArePlain ws → Sorts (codes "follow" ∷ ws)
unfolding clap_on_literals
follows = no_word (codes "follow") (refl, refl) (inl walks.follow_0) (λ a ws. refl)

inits : (ws : List Text) → ArePlain ws → Sorts (codes "init" ∷ ws)
unfolding clap_on_literals
inits =
    one_word (codes "init") (codes "origin") false (refl, refl) (inl walks.init_0) walks.init_1
    (λ a b ws. refl)

reports : (ws : List Text) → ArePlain ws → Sorts (codes "report" ∷ ws)
unfolding clap_on_literals
reports =
    one_word (codes "report") (codes "at") false (refl, refl) (inl walks.report_0) walks.report_1
    (λ a b ws. refl)

serves : (ws : List Text) → ArePlain ws → Sorts (codes "serve" ∷ ws)
unfolding clap_on_literals
serves =
    one_word (codes "serve") (codes "port") true (refl, refl) (inr (walks.serve_0, refl))
    walks.serve_1 (λ a b ws. refl)

generates : (ws : List Text) → ArePlain ws → Sorts (codes "generate" ∷ ws)
unfolding clap_on_literals
generates =
    one_word (codes "generate") (codes "number") true (refl, refl)
    (inr (walks.generate_0, refl)) walks.generate_1 (λ a b ws. refl)

counts : (ws : List Text) → ArePlain ws → Sorts (codes "counters" ∷ ws)
unfolding clap_on_literals
counts =
    one_word (codes "counters") (codes "sli") true (refl, refl)
    (inr (walks.counters_0, refl)) walks.counters_1 (λ a b ws. refl)

budgets : (ws : List Text) → ArePlain ws → Sorts (codes "budget" ∷ ws)
budgets [] h = inr (walks.budget_0, refl)
budgets (a ∷ []) h = inr (walks.budget_1 a (first_plain a [] h).0, refl)
budgets (a ∷ b ∷ []) h =
    let p = first_plain a (b ∷ []) h in
    inr (walks.budget_2 a b p.0 (first_plain b [] p.1).0, refl)
budgets (a ∷ b ∷ c ∷ []) h =
    let p = first_plain a (b ∷ c ∷ []) h in
    let q = first_plain b (c ∷ []) p.1 in
    inl (walks.budget_3 a b c p.0 q.0 (first_plain c [] q.1).0)
budgets (a ∷ b ∷ c ∷ d ∷ ws) h =
    let p = first_plain a (b ∷ c ∷ d ∷ ws) h in
    let q = first_plain b (c ∷ d ∷ ws) p.1 in
    let r = first_plain c (d ∷ ws) q.1 in
    inr (walks.budget_4 a b c d ws p.0 q.0 r.0 (first_plain d ws r.1).0, refl)

same : (a w : Text) → bytes_eq a w ≡ true → a ≡ w
same a w h = (bytes_eq-Decides a w).0 h

-- a name that differs from another, seen from the other
differs : (a w : Text) → bytes_eq a w ≡ false → bytes_eq w a ≡ false
differs a w h = by (bytes_eq w a) refl
  where
    by : (x : Bool) → bytes_eq w a ≡ x → x ≡ false
    by false e = refl
    by true e =
        let bad : bytes_eq w w ≡ false =
        subst (λ (v : Text). bytes_eq v w ≡ false) (sym (same w a e)) h in
        let good : bytes_eq w w ≡ true = (bytes_eq-Decides w w).1 refl in
        let no : true ≡ false = sym good ∙ bad in
        cc no

-- a first word that is no name
others : (w : Text) (ws : List Text) → is_dashed w ≡ false
    → bytes_eq (codes "budget") w ≡ false → bytes_eq (codes "check") w ≡ false
    → bytes_eq (codes "init") w ≡ false → bytes_eq (codes "pipe") w ≡ false
    → bytes_eq (codes "report") w ≡ false → bytes_eq (codes "serve") w ≡ false
    → bytes_eq (codes "generate") w ≡ false → bytes_eq (codes "counters") w ≡ false
    → bytes_eq (codes "migrate") w ≡ false → bytes_eq (codes "export") w ≡ false
    → bytes_eq (codes "follow") w ≡ false
    → Sorts (w ∷ ws)
others w ws p budget check init pipe report serve generate counters migrate export follow =
    inr (
      no_name w ws p budget check init pipe report serve generate counters migrate export follow,
      rw (
        differs (codes "budget") w budget,
        differs (codes "check") w check,
        differs (codes "init") w init,
        differs (codes "pipe") w pipe,
        differs (codes "report") w report,
        differs (codes "serve") w serve,
        differs (codes "generate") w generate,
        differs (codes "counters") w counters,
        differs (codes "migrate") w migrate,
        differs (codes "export") w export,
        differs (codes "follow") w follow,
      ) refl,
    )

-- words whose first one is this name, or isn't
by_name : (name w : Text) (ws : List Text)
    → ((vs : List Text) → ArePlain vs → Sorts (name ∷ vs)) → ArePlain ws
    → (bytes_eq name w ≡ false → Sorts (w ∷ ws)) → Sorts (w ∷ ws)
by_name name w ws sorts plain otherwise = by (bytes_eq name w) refl
  where
    by : (x : Bool) → bytes_eq name w ≡ x → Sorts (w ∷ ws)
    by true e = subst (λ (v : Text). Sorts (v ∷ ws)) (same name w e) (sorts ws plain)
    by false e = otherwise e

all_words : (ws : List Text) → ArePlain ws → Sorts ws
all_words [] h = inr (no_words, refl)
all_words (w ∷ ws) h =
    let p = first_plain w ws h in
    by_name (codes "budget") w ws budgets p.1
    (λ budget. by_name (codes "check") w ws checks p.1
    (λ check. by_name (codes "init") w ws inits p.1
    (λ init. by_name (codes "pipe") w ws pipes p.1
    (λ pipe. by_name (codes "report") w ws reports p.1
    (λ report. by_name (codes "serve") w ws serves p.1
    (λ serve. by_name (codes "generate") w ws generates p.1
    (λ generate. by_name (codes "counters") w ws counts p.1
    (λ counters. by_name (codes "migrate") w ws migrates p.1
    (λ migrate. by_name (codes "export") w ws exports p.1
    (λ export. by_name (codes "follow") w ws follows p.1
    (λ follow. others w ws p.0 budget check init pipe report serve generate counters migrate
    export follow)))))))))))

-- words that `clap` took
taken : (ws : List Text) (found : Option (Text × List Argument)) → ArePlain ws
    → fault_of whole_form ws ≡ [] → found ≡ subcommand_of whole_form ws
    → asked_by found ≡ asked_of ws
taken ws found plain fine is =
    elim (all_words ws plain)
    [ inl takes ↦ ap asked_by is ∙ takes.1 | inr refuses ↦ absurd (refuses.0 fine) ]

-- words that it refused
refused : (ws : List Text) (k : ErrorKind) → ArePlain ws
    → IsAmong k (fault_of whole_form ws) → asked_of ws ≡ None
refused ws k plain among = by (all_words ws plain)
  where
    by : Sorts ws → asked_of ws ≡ None
    by (inl takes) = let bad : IsAmong k [] = rw takes.0 at among in absurd bad
    by (inr refuses) = refuses.1

-- the same, of a command that is read as the whole form
pub taken_by : (a : App) (ws : List Text) (matches : Type 0) (found : Option (Text × List Argument))
    → a ≡ whole_form → ArePlain ws
    → (is_simple_and_free a ≡ true → fault_of a ws ≡ [])
    → (is_simple a ≡ true → matches × (found ≡ subcommand_of a ws))
    → asked_by found ≡ asked_of ws
taken_by a ws matches found whole plain fine is =
    taken ws found plain
    ((subst (λ (x : App). is_simple_and_free x ≡ true → fault_of x ws ≡ []) whole fine)
    simple_and_free)
    ((is (ap is_simple whole ∙ simple)).1 ∙ ap (λ (x : App). subcommand_of x ws) whole)

pub refused_by : (a : App) (ws : List Text) (e : Error) → a ≡ whole_form → ArePlain ws
    → (is_simple_and_free a ≡ true → HasKind (fault_of a ws) e)
    → (kind_of e ≡ kind.OutOfMemory → ⊥) → asked_of ws ≡ None
refused_by a ws e whole plain kinds no_memory =
    by ((subst (λ (x : App). is_simple_and_free x ≡ true → HasKind (fault_of x ws) e) whole kinds)
    simple_and_free)
  where
    by : HasKind (fault_of whole_form ws) e → asked_of ws ≡ None
    by (inl memory) = absurd (no_memory memory)
    by (inr among) = refused ws (kind_of e) plain among
