-- The machine, and what it keeps.
use Rattle.std.specs.Prelude.{◌≡◌, ℕ, ◌≤◌, List, length, Option, Some, None}
use Rattle.std.specs.List.{AllByRecursion}
use Rattle.slo_limits.specs.declared.TheConstants.{MAX_REVISION}
use Rattle.sample_book.specs.declared.Row.{Row}
use Rattle.record_form.specs.declared.Command.{Command}
use Rattle.record_form.specs.declared.Command.TheVariants.{Samples}
use Rattle.record_form.specs.declared.Entry.{Entry}
use Rattle.record_form.specs.Records.{record_of}
use Rattle.record_form.specs.Ranges.{FitsRecord}
use Rattle.office_history.specs.declared.Judgement.TheVariants as judgements
use Rattle.office_history.specs.History.{Office, with_entry}
use Rattle.office_history.specs.Judges.{Judges}
use Rattle.office_history.specs.Legal.{IsLegal}
use Rattle.office_derived.specs.declared.Derived.{Derived}
use Rattle.office_derived.specs.Derived.{HasRoom, IsNext, IsSound, Reflects, entry_of}
use Rattle.office_derived.specs.declared.Verdict.{Verdict}
use Rattle.office_derived.specs.declared.Verdict.TheVariants as verdicts
use Rattle.office_derived.specs.declared.Work.{Work}
use Rattle.office_derived.specs.declared.Work.TheVariants as works
use Rattle.kept_lines.specs.Lines.{HasLines, LinesKept}
use Rattle.kept_lines.specs.Plans.{IsLinesPlan}
use Rattle.kept_lines.specs.declared.LinesPlan.{LinesPlan}
use Rattle.object_terms.specs.declared.Object.{Object}
use Rattle.office_core.specs.declared.machine.Pending.{Pending}
use Rattle.office_core.specs.Seen.{Machine}

abbrev pub office_of : Derived → List Entry → Office
office_of d history = record { origin = d.origin; history = history }

abbrev pub pending_of : Option Pending → Option Entry
pending_of None = None
pending_of (Some p) = Some (entry_of p.moment p.work)

-- what becomes of the lines as this catalog comes, and there is room for those that are new
abbrev pub HasLinesFor : Derived → LinesKept → List Object → Option LinesPlan → Type 0
HasLinesFor d lines catalog None = ⊥
HasLinesFor d lines catalog (Some plan) =
    IsLinesPlan d.origin d.catalog catalog plan × (length plan.made.items ≤ lines.spare)

-- a definition or a removal knows what becomes of the lines
abbrev pub HasLinesPlan : Derived → LinesKept → Work → Option LinesPlan → Type 0
HasLinesPlan d lines (works.Define text catalog applied sums) plan =
    HasLinesFor d lines catalog plan
HasLinesPlan d lines (works.Remove kind name catalog sums) plan = HasLinesFor d lines catalog plan
HasLinesPlan d lines _ plan = Unit {0}

-- an entry can be added with no memory: there is room for its bytes and its place among the records
pub record IsReady (d : Derived) (lines : LinesKept) (o : Office) (spare places : ℕ) (p : Pending) :
    Type 0 where
  pub next : IsNext d o p.moment p.work
  pub room : HasRoom d p.work
  pub fits : FitsRecord (entry_of p.moment p.work)
  pub bytes : length (record_of (entry_of p.moment p.work)) ≤ spare
  pub place : 1 ≤ places
  pub plan : HasLinesPlan d lines p.work p.plan

abbrev pub IsReadyIf : Derived → LinesKept → Office → ℕ → ℕ → Option Pending → Type 0
IsReadyIf d lines o spare places None = Unit {0}
IsReadyIf d lines o spare places (Some p) = IsReady d lines o spare places p

-- what the machine keeps is what its history says
pub record MachineIsKept (d : Derived) (lines : LinesKept) (history : List Entry)
    (spare places : ℕ) (pending : Option Pending) : Type 0 where
  pub sound : IsSound d
  pub reflects : Reflects d (office_of d history)
  pub legal : IsLegal d.origin history
  pub lines_right : HasLines d lines.kept
  pub ready : IsReadyIf d lines (office_of d history) spare places pending

-- What the preparing of a command answers: its verdict over the history, unless memory ran out. An
-- accepted one is pending, with its record; after every other answer nothing is.
abbrev pub IsVerdict : Office → Entry → Verdict (List ℕ) → Option Entry → Type 0
IsVerdict o e (verdicts.Ready prepared) pending = Judges o e.moment e.command judgements.Accepted
    × (prepared ≡ record_of e) × (pending ≡ Some e)
IsVerdict o e (verdicts.Same outcome) pending =
    Judges o e.moment e.command (judgements.Same outcome) × (pending ≡ None)
IsVerdict o e (verdicts.Refused refusal) pending =
    Judges o e.moment e.command (judgements.Refused refusal) × (pending ≡ None)
IsVerdict o e verdicts.NoMemory pending = pending ≡ None

-- What the taking in of an entry answers: its verdict over the history, unless memory ran out. An
-- accepted one is added; after every other answer the office is as it was.
abbrev pub IsAdded : Office → Entry → Verdict (Unit {0}) → Office → Type 0
IsAdded o e (verdicts.Ready done) new =
    Judges o e.moment e.command judgements.Accepted × (new ≡ with_entry o e)
IsAdded o e (verdicts.Same outcome) new =
    Judges o e.moment e.command (judgements.Same outcome) × (new ≡ o)
IsAdded o e (verdicts.Refused refusal) new =
    Judges o e.moment e.command (judgements.Refused refusal) × (new ≡ o)
IsAdded o e verdicts.NoMemory new = new ≡ o

-- the entry is the one for which room was made
abbrev pub IsPending : Machine → Entry → Type 0
IsPending m e = m.pending ≡ Some e

-- the revisions of a batch's rows are from 1 to 10^9
pub record HasRevision (r : Row) : Type 0 where
  pub first : 1 ≤ r.revision
  pub last : r.revision ≤ MAX_REVISION

abbrev pub HasRevisions : Command → Type 0
HasRevisions (Samples rows) = AllByRecursion HasRevision rows
HasRevisions _ = Unit {0}
