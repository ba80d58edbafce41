-- What is found out about a definition, a removal and a zone, over what is kept.
use Rattle.std.specs.Prelude.{◌≡◌, ℕ, List, length, map, Some}
use Rattle.office_history.specs.Definitions.{Known, known}
use Rattle.object_terms.specs.declared.kind.Kind.{Kind}
use Rattle.object_terms.specs.declared.Object.{Object}
use Rattle.catalog_terms.specs.Catalog.{with_members, without}
use Rattle.zone_calendar.specs.ZoneBytes.{zone_of}
use Rattle.kept_sums.specs.declared.SumsPlan.{SumsPlan}
use Rattle.kept_sums.specs.Plans.{IsPlan}
use Rattle.office_history.specs.declared.Judgement.{Judgement}
use Rattle.office_history.specs.declared.Judgement.TheVariants.{Accepted, Same, Refused}
use Rattle.office_history.specs.History.{end_of}
use Rattle.office_history.specs.Catalog.{text_objects}
use Rattle.office_derived.specs.declared.Derived.{Derived}
use Rattle.office_derived.specs.declared.Work.{Work}
use Rattle.office_derived.specs.declared.Work.TheVariants as works
use Rattle.office_derived.specs.declared.Verdict.{Verdict}
use Rattle.office_derived.specs.declared.Verdict.TheVariants as judged
use Rattle.office_history.specs.Judges as judges
use Rattle.definition_verdict.specs.declared.Definition.{Definition as Answered}
use Rattle.definition_verdict.specs.Made.{in_words}

-- what a definition is judged by, as it is kept
abbrev pub known_by : Derived → Known
known_by d = known d.catalog (map (λ kept. kept.0) d.zones.kept) d.book.rows (end_of d.origin)

-- what becomes of a text for which this is answered
abbrev pub defined_verdict : Known → ℕ → Answered → Judgement
defined_verdict known entries made = judges.defined_verdict known entries (in_words made)

-- a judgement of these, with a work of these where it is accepted; or memory ran out
abbrev pub IsJudgedBy : (Judgement → Type 0) → (Work → Type 0) → Verdict Work → Type 0
IsJudgedBy IsJudgement IsWork (judged.Ready work) = IsJudgement Accepted × IsWork work
IsJudgedBy IsJudgement IsWork (judged.Same outcome) = IsJudgement (Same outcome)
IsJudgedBy IsJudgement IsWork (judged.Refused refusal) = IsJudgement (Refused refusal)
IsJudgedBy IsJudgement IsWork judged.NoMemory = Unit {0}

-- the plan is what becomes of the kept sums as this catalog takes the place of the one that is kept
abbrev pub IsPlanOver : Derived → List Object → SumsPlan → Type 0
IsPlanOver d catalog plan = IsPlan catalog d.book.exclusions d.book.rows plan

-- the work of a text: its objects, each put in its place among the members, with a plan of the sums
abbrev pub IsTextWork : Derived → List ℕ → Work → Type 0
IsTextWork d text (works.Define copy catalog applied plan) =
    (copy ≡ text) × (catalog ≡ with_members (text_objects text) d.catalog)
    × (applied ≡ length (text_objects text)) × IsPlanOver d catalog plan
IsTextWork d text _ = ⊥

-- the work of a removal: the members but for one, with a plan of the sums
abbrev pub IsRemoval : Derived → Kind → List ℕ → Work → Type 0
IsRemoval d kind name (works.Remove k n catalog plan) =
    (k ≡ kind) × (n ≡ name) × (catalog ≡ without kind name d.catalog) × IsPlanOver d catalog plan
IsRemoval d kind name _ = ⊥

-- the work of a zone: what its bytes say
abbrev pub IsZoneWork : List ℕ → List ℕ → Work → Type 0
IsZoneWork name bytes (works.PutZone n copy zone) = (n ≡ name) × (copy ≡ bytes)
    × (zone_of bytes ≡ Some zone)
IsZoneWork name bytes _ = ⊥
