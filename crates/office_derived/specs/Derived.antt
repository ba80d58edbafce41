-- What is kept beside the history, and what ties it to the history.
use Rattle.std.specs.Prelude.{◌≡◌, ℕ, ◌+◌, ◌<◌, ◌≤◌, false, List, [], ◌∷◌, ◌++◌, length, Some}
use Rattle.std.specs.List.{All}
use Rattle.slo_limits.specs.declared.TheConstants as most
use Rattle.slice_method.specs.Readings.{HasForm, IsSmall}
use Rattle.slice_method.specs.declared.Reading.{Reading}
use Rattle.sample_book.specs.declared.Row.{Row}
use Rattle.sample_book.specs.Rows.{room_for}
use Rattle.sample_book.specs.History.{Holds}
use Rattle.sample_book.specs.Puts.{verdicts}
use Rattle.kept_sums.specs.Objectives.{HaveDays, HaveOwn, KeepsSums}
use Rattle.kept_sums.specs.Plans.{IsPlan, IsReady}
use Rattle.object_terms.specs.declared.Object.{Object}
use Rattle.zone_calendar.specs.ZoneBytes.{zone_of}
use Rattle.kept_sums.specs.declared.SumsPlan.{SumsPlan}
use Rattle.record_form.specs.declared.Command.{Command}
use Rattle.record_form.specs.declared.Command.TheVariants.{Define, Remove, PutZone, Samples}
use Rattle.record_form.specs.declared.Command.TheVariants.{Exclude, Lift, Tick, Take, Upgrade}
use Rattle.record_form.specs.declared.Entry.{Entry}
use Rattle.office_history.specs.declared.Judgement.TheVariants.{Accepted, Same, Refused}
use Rattle.office_history.specs.History.{Office, end_of, present, rows_in, current_in}
use Rattle.office_history.specs.History.{exclusions_in, arrivals_in, accepted_rows}
use Rattle.office_history.specs.Catalog.{catalog_in, text_objects}
use Rattle.office_history.specs.Zones.{zones_in}
use Rattle.office_history.specs.Objectives.{reading_named}
use Rattle.office_history.specs.Notices.{last_states, notices_in, tick_changes}
use Rattle.office_history.specs.Notices.{states_over, told_in, is_taken, waiting}
use Rattle.office_history.specs.Judges.{Judges}
use Rattle.office_history.specs.Versions.{is_upgraded, most_cells, most_rows}
use Rattle.office_derived.specs.declared.derived.Derived.{Derived}
use Rattle.office_derived.specs.declared.work.Work.{Work}
use Rattle.office_derived.specs.declared.work.Work.TheVariants as works
use Rattle.office_derived.specs.declared.verdict.Verdict.{Verdict}
use Rattle.office_derived.specs.declared.verdict.Verdict.TheVariants as judged
use Rattle.office_derived.specs.Tallies.{tally_of}

-- the row's indicator is a member, and reads its amount, which counts at most 10^9 events
abbrev pub RowIsRead : List Object → Row → Type 0
RowIsRead members row = (reading : Reading) × (reading_named members row.sli ≡ Some reading)
    × HasForm reading row.amount × IsSmall row.amount

-- the row's minute lies in the office's range
abbrev pub IsPlaced : ℕ → Row → Type 0
IsPlaced origin row = (origin ≤ row.minute) × (row.minute < end_of origin)

-- what is kept agrees in itself
pub record IsSound (d : Derived) : Type 0 where
  pub origin : d.origin ≤ most.MAX_MINUTE
  pub entries : d.entries ≤ most.MAX_ENTRIES
  pub cells : length d.book.rows ≤ most_cells d.upgraded
  pub summed : length d.book.rows ≤ most.MAX_SUMMED_ROWS
  pub accepted : d.accepted ≤ most_rows d.upgraded
  pub few_waiting : waiting d.notices.made ≤ most.MAX_NOTICES
  pub made : length d.notices.made ≤ waiting d.notices.made + d.entries
  pub read : All (RowIsRead d.catalog) d.book.rows
  pub placed : All (IsPlaced d.origin) d.book.rows
  pub sums : KeepsSums d.catalog d.book.exclusions d.book.rows d.sums

-- what is kept is what the history says
pub record Reflects (d : Derived) (o : Office) : Type 0 where
  pub origin : d.origin ≡ o.origin
  pub entries : d.entries ≡ length o.history
  pub present : d.present ≡ present o
  pub catalog : d.catalog ≡ catalog_in o.history
  pub zones : d.zones.kept ≡ zones_in o.history
  pub rows : d.book.rows ≡ current_in o.history
  pub exclusions : d.book.exclusions ≡ exclusions_in o.history
  pub held : Holds (arrivals_in o.history) d.book.rows d.book.exclusions
  pub accepted : d.accepted ≡ accepted_rows (rows_in o.history)
  pub upgraded : d.upgraded ≡ is_upgraded o.history
  pub notices : d.notices.made ≡ notices_in o
  pub states : d.states.items ≡ last_states o
  pub numbers : (number : ℕ) → length (told_in o) < number → is_taken o.history number ≡ false

-- all but the room stays
pub record Stays (a b : Derived) : Type 0 where
  pub origin : b.origin ≡ a.origin
  pub entries : b.entries ≡ a.entries
  pub present : b.present ≡ a.present
  pub catalog : b.catalog ≡ a.catalog
  pub zones : b.zones.kept ≡ a.zones.kept
  pub rows : b.book.rows ≡ a.book.rows
  pub exclusions : b.book.exclusions ≡ a.book.exclusions
  pub accepted : b.accepted ≡ a.accepted
  pub upgraded : b.upgraded ≡ a.upgraded
  pub notices : b.notices.made ≡ a.notices.made
  pub states : b.states.items ≡ a.states.items
  pub sums : KeepsSums a.catalog a.book.exclusions a.book.rows a.sums
      → KeepsSums b.catalog b.book.exclusions b.book.rows b.sums

-- the command that a work does
abbrev pub command_of : Work → Command
command_of (works.Define text catalog applied plan) = Define text
command_of (works.Remove kind name catalog plan) = Remove kind name
command_of (works.PutZone name bytes zone) = PutZone name bytes
command_of (works.Samples rows tally becomes) = Samples rows
command_of (works.Exclude value) = Exclude value
command_of (works.Lift id) = Lift id
command_of (works.Tick states told) = Tick
command_of (works.Take number) = Take number
command_of works.Upgrade = Upgrade

-- the entry of a work at a moment
abbrev pub entry_of : ℕ → Work → Entry
entry_of moment work = record { moment = moment; command = command_of work }

-- the plan is what becomes of the sums as this catalog takes the place of the one of the history
abbrev pub HasPlan : Office → List Object → SumsPlan → Type 0
HasPlan o catalog plan = IsPlan catalog (exclusions_in o.history) (current_in o.history) plan

-- what was found out of a work is right over a history
abbrev pub IsFound : Office → ℕ → Work → Type 0
IsFound o moment (works.Define text catalog applied plan) =
    (catalog ≡ catalog_in (o.history
    ++ entry_of moment (works.Define text catalog applied plan) ∷ []))
    × (applied ≡ length (text_objects text)) × HasPlan o catalog plan
IsFound o moment (works.Remove kind name catalog plan) =
    (catalog ≡ catalog_in (o.history ++ entry_of moment (works.Remove kind name catalog plan) ∷ []))
    × HasPlan o catalog plan
IsFound o moment (works.PutZone name bytes zone) = zone_of bytes ≡ Some zone
IsFound o moment (works.Samples rows tally becomes) =
    (tally ≡ tally_of (verdicts (rows_in o.history) rows))
    × (becomes.items ≡ verdicts (current_in o.history) rows)
IsFound o moment (works.Tick states told) =
    (states.items ≡ states_over o moment) × (told.items ≡ tick_changes (last_states o) o moment)
IsFound o moment _ = Unit {0}

-- a work can be done with no memory
abbrev pub HasRoom : Derived → Work → Type 0
HasRoom d (works.Define text catalog applied plan) = IsReady d.sums plan
HasRoom d (works.Remove kind name catalog plan) = IsReady d.sums plan
HasRoom d (works.Samples rows tally becomes) =
    (d.book.room ≡ room_for d.book.rows rows) × HaveDays rows d.sums.own
    × HaveDays rows d.sums.pooled
HasRoom d (works.Exclude value) =
    (0 < d.book.spare) × HaveOwn d.catalog d.sums.own value.slo
HasRoom d (works.Tick states told) = length told.items ≤ d.notices.spare
HasRoom d (works.PutZone name bytes zone) = 0 < d.zones.spare
HasRoom d _ = Unit {0}

-- what the judging of a command says of it
abbrev pub IsJudged : Office → ℕ → Command → Verdict Work → Type 0
IsJudged o moment command (judged.Ready work) = Judges o moment command Accepted
    × (command_of work ≡ command) × IsFound o moment work
IsJudged o moment command (judged.Same outcome) = Judges o moment command (Same outcome)
IsJudged o moment command (judged.Refused refusal) = Judges o moment command (Refused refusal)
IsJudged o moment command judged.NoMemory = Unit {0}

-- a work is the next that is done over an office
pub record IsNext (d : Derived) (o : Office) (moment : ℕ) (work : Work) : Type 0 where
  pub reflects : Reflects d o
  pub later : present o ≤ moment
  pub in_range : moment < end_of o.origin
  pub accepted : Judges o moment (command_of work) Accepted
  pub found : IsFound o moment work
