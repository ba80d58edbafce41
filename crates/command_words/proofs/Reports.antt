-- Of the words that ask for a command those that begin with `report` or `export` ask for one that
-- only reads.
use Rattle.std.proofs.Common.{◌≡◌, ◌||◌, Bool, true, false, List, [], ◌∷◌, Option, Some, None}
use Rattle.std.proofs.Common.{cond, codes, option_map, refl, sym, subst}
use Rattle.std.specs.Str.{bytes_eq}
use Rattle.std.proofs.lemmas.Slice.Eq.{bytes_eq-Decides}
use Rattle.clap.specs.Walk.{Text}
use Rattle.command_words.specs.Commands.{asked_alone, asked_named, asked_of, command_named}
use Rattle.command_words.specs.Commands.{counters_asked, minute_asked, number_asked}
use Rattle.command_words.specs.Commands.{only_reads, part_asked, port_asked}
use Rattle.command_words.specs.Matches.{begins_with_reader}
use Rattle.command_words.specs.declared.invocation.Invocation.{Invocation}
use Rattle.command_words.specs.declared.invocation.Invocation.TheVariants as invocation

-- what may be asked for, if anything, only reads, or doesn't
abbrev Reads : Bool → Option Invocation → Type 0
Reads reads found = (a : Invocation) → found ≡ Some a → reads ≡ only_reads a

in_both : (b : Bool) (x y : Option Invocation) → Reads false x → Reads false y
    → Reads false (cond b x y)
in_both true x y first second = first
in_both false x y first second = second

module _ {A : Type 0} where
  mapped : (reads : Bool) (f : A → Invocation) → ((x : A) → reads ≡ only_reads (f x))
      → (o : Option A) → Reads reads (option_map f o)
  mapped reads f is None a e = cc e
  mapped reads f is (Some x) a e =
      let same : f x ≡ a = cc e in subst (λ (b : Invocation). reads ≡ only_reads b) same (is x)

-- a form that is its name alone
alone : (asked : Invocation) → false ≡ only_reads asked → (ws : List Text)
    → Reads false (asked_alone asked ws)
alone asked is [] a e =
    let same : asked ≡ a = cc e in subst (λ (b : Invocation). false ≡ only_reads b) same is
alone asked is (w ∷ ws) a e = cc e

others : (name : Text) (ws : List Text) → bytes_eq name (codes "report") ≡ false
    → bytes_eq name (codes "export") ≡ false → Reads false (asked_named name ws)
others name ws other no_export =
    rw (other, no_export)
    (in_both (bytes_eq name (codes "init")) _ _
    (mapped false invocation.Init (λ x. refl) (minute_asked ws))
    (in_both (bytes_eq name (codes "pipe")) _ _ (alone invocation.Pipe refl ws)
    (in_both (bytes_eq name (codes "serve")) _ _
    (mapped false invocation.Serve (λ x. refl) (port_asked ws))
    (in_both (bytes_eq name (codes "generate")) _ _
    (mapped false invocation.Generate (λ x. refl) (number_asked ws))
    (in_both (bytes_eq name (codes "counters")) _ _
    (mapped false invocation.Counters (λ x. refl) (counters_asked ws))
    (in_both (bytes_eq name (codes "migrate")) _ _ (alone invocation.Migrate refl ws)
    (in_both (bytes_eq name (codes "follow")) _ _ (alone invocation.Follow refl ws)
    (mapped false invocation.Answer (λ x. refl) (command_named name ws)))))))))

reports : (ws : List Text) → Reads true (asked_of (codes "report" ∷ ws))
reports ws = mapped true invocation.Report (λ x. refl) (minute_asked ws)

exports : (ws : List Text) → Reads true (asked_of (codes "export" ∷ ws))
exports ws = mapped true invocation.Export (λ x. refl) (part_asked ws)

-- words whose first one is this name
by_name : (known name : Text) (ws : List Text) → Reads true (asked_of (known ∷ ws))
    → bytes_eq name known ≡ true → Reads true (asked_of (name ∷ ws))
by_name known name ws reads e =
    let same : name ≡ known = (bytes_eq-Decides name known).0 e in
    subst (λ (v : Text). Reads true (asked_of (v ∷ ws))) (sym same) reads

by_first : (name : Text) (ws : List Text)
    → Reads (bytes_eq name (codes "report") || bytes_eq name (codes "export"))
    (asked_named name ws)
by_first name ws = by (bytes_eq name (codes "report")) (bytes_eq name (codes "export")) refl refl
  where
    by : (a b : Bool) → bytes_eq name (codes "report") ≡ a → bytes_eq name (codes "export") ≡ b
        → Reads (a || b) (asked_named name ws)
    by true b e f = by_name (codes "report") name ws (reports ws) e
    by false true e f = by_name (codes "export") name ws (exports ws) f
    by false false e f = others name ws e f

pub by_words : (ws : List Text) (a : Invocation) → asked_of ws ≡ Some a
    → begins_with_reader ws ≡ only_reads a
by_words [] a e = cc e
by_words (name ∷ ws) a e = by_first name ws a e
