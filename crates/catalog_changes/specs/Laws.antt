-- Laws of legal histories.
use Rattle.std.specs.Prelude.{◌≡◌, ℕ, ◌≤◌, List, ◌∷◌, ◌++◌, None}
use Rattle.record_form.specs.declared.Command.TheVariants.{PutZone}
use Rattle.record_form.specs.declared.Entry.{Entry}
use Rattle.record_form.specs.declared.Outcome.TheVariants.{Changed}
use Rattle.office_history.specs.declared.Judgement.TheVariants.{Same}
use Rattle.office_history.specs.History.{present}
use Rattle.office_history.specs.Judges.{Judges}
use Rattle.office_history.specs.Legal.{IsLegal, MayFollow, office}

-- the first entries of a legal history are one
abbrev pub BeginsLegally : Type 0
BeginsLegally = (origin : ℕ) (before after : List Entry) → IsLegal origin (before ++ after)
    → IsLegal origin before

-- each entry of a legal history may follow those before it
abbrev pub EachMayFollow : Type 0
EachMayFollow = (origin : ℕ) (before after : List Entry) (e : Entry)
    → IsLegal origin (before ++ e ∷ after) → MayFollow (office origin before) e

-- a zone that stands in a legal history is Same at any moment from its present on
abbrev pub ZoneActsOnce : Type 0
ZoneActsOnce = (origin : ℕ) (before after : List Entry) (e : Entry) (name bytes : List ℕ)
    (moment : ℕ) → IsLegal origin (before ++ e ∷ after) → e.command ≡ PutZone name bytes →
    present (office origin (before ++ e ∷ after)) ≤ moment →
    Judges (office origin (before ++ e ∷ after)) moment (PutZone name bytes) (Same (Changed None))
