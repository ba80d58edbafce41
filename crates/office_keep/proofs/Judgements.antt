-- The judgement of a command, and what its records say of it.
use Rattle.std.proofs.Common.{◌≡◌, ℕ, List, [], ◌∷◌, length, sym, ap, ◌∙◌}
use Rattle.std.specs.List.{AllByRecursion}
use Rattle.sample_book.specs.declared.Row.{Row}
use Rattle.record_form.specs.declared.Command.{Command}
use Rattle.record_form.specs.declared.Command.TheVariants.{Define, Remove, PutZone, Samples}
use Rattle.record_form.specs.declared.Command.TheVariants.{Exclude, Lift, Tick, Take, Upgrade}
use Rattle.record_form.specs.Ranges.{IsInRange, IsRowInRange}
use Rattle.office_history.specs.Definitions.{Known}
use Rattle.definition_verdict.proofs.VerdictLemmas.{one_refusal, one_definition, no_refusal}
use Rattle.office_history.specs.declared.Judgement.{Judgement}
use Rattle.office_history.specs.declared.Judgement.TheVariants.{Refused}
use Rattle.office_history.specs.History.{Office}
use Rattle.office_history.specs.Judges.{Judges, JudgesText, known_of, refused, defined}
use Rattle.office_history.specs.Judges.{defined_verdict}
use Rattle.office_core.specs.Machine.{HasRevision, HasRevisions}

-- one judgement of a text
one_text : (known : Known) (entries : ℕ) (text : List ℕ) (a b : Judgement) →
    JudgesText known entries text a → JudgesText known entries text b → a ≡ b
one_text known entries text a b (refused is) (refused is2) =
    ap Refused (one_refusal known text _ _ is is2)
one_text known entries text a b (refused is) (defined is2) =
    absurd (no_refusal known text _ _ is2 is)
one_text known entries text a b (defined is) (refused is2) =
    absurd (no_refusal known text _ _ is is2)
one_text known entries text a b (defined is) (defined is2) =
    ap (defined_verdict known entries) (one_definition known text _ _ is is2)

pub one_judgement : (o : Office) (moment : ℕ) (command : Command) (a b : Judgement) →
    Judges o moment command a → Judges o moment command b → a ≡ b
one_judgement o moment (Define text) a b j k = one_text (known_of o) (length o.history) text a b j k
one_judgement o moment (Remove kind name) a b j k = j ∙ sym k
one_judgement o moment (PutZone name bytes) a b j k = j ∙ sym k
one_judgement o moment (Samples rows) a b j k = j ∙ sym k
one_judgement o moment (Exclude value) a b j k = j ∙ sym k
one_judgement o moment (Lift id) a b j k = j ∙ sym k
one_judgement o moment Tick a b j k = j ∙ sym k
one_judgement o moment (Take number) a b j k = j ∙ sym k
one_judgement o moment Upgrade a b j k = j ∙ sym k

-- a row of a record has a revision
revisions : (rows : List Row) → AllByRecursion IsRowInRange rows → AllByRecursion HasRevision rows
revisions [] a = tt
revisions (r ∷ rows) a =
    (record { first = a.0.first_revision; last = a.0.last_revision }, revisions rows a.1)

pub has_revisions : (command : Command) → IsInRange command → HasRevisions command
has_revisions (Define text) is = tt
has_revisions (Remove kind name) is = tt
has_revisions (PutZone name bytes) is = tt
has_revisions (Samples rows) is = revisions rows is.1
has_revisions (Exclude value) is = tt
has_revisions (Lift id) is = tt
has_revisions Tick is = tt
has_revisions (Take number) is = tt
has_revisions Upgrade is = tt
