-- What is kept after a change that is no tick and no taking, and that it is sound.
use Rattle.std.proofs.Common.{◌≡◌, ℕ, ◌+◌, ◌≤◌, ◌<◌, ◌++◌, List, [], ◌∷◌, Bool, true, false, cond}
use Rattle.std.proofs.Common.{if◌then◌else◌, nat_lt, refl, ap, sym, ◌∙◌, subst, arith, length}
use Rattle.std.proofs.Common.{append_assoc, Option, Some, None}
use Rattle.std.proofs.lemmas.Bool.{ltb-true}
use Rattle.std.specs.List.{All, AllByRecursion}
use Rattle.std.proofs.lemmas.List.{append-nil}
use Rattle.std.proofs.lemmas.List.Elements.{All-from_recursion, recursion_from_All}
use Rattle.slo_limits.specs.declared.TheConstants as most
use Rattle.std.specs.Global.{Vec}
use Rattle.sample_book.specs.declared.Row.{Row}
use Rattle.sample_book.specs.declared.RowVerdict.{RowVerdict}
use Rattle.sample_book.specs.Rows.{current_rows, room_for, same_cell}
use Rattle.sample_book.specs.History.{MayComeAll}
use Rattle.sample_book.specs.Puts.{verdicts}
use Rattle.slo_terms.proofs.CurrentLemmas.{current-push, settle}
use Rattle.sample_book.proofs.BatchLemmas.{current-append}
use Rattle.sample_book.proofs.RoomLemmas.{room-enough}
use Rattle.sample_book.proofs.StandingLemmas.{cell_laws}
use Rattle.object_terms.specs.declared.Object.{Object}
use Rattle.notice_box.specs.declared.Notice.{Notice}
use Rattle.office_history.specs.Notices.{waiting}
use Rattle.record_form.specs.declared.LimitName.TheVariants as limits
use Rattle.record_form.specs.declared.Outcome.TheVariants.{Changed}
use Rattle.record_form.specs.declared.Refusal.{Refusal}
use Rattle.record_form.specs.declared.Refusal.TheVariants as refusals
use Rattle.sample_book.specs.declared.Exclusion.{Exclusion}
use Rattle.sample_book.specs.Exclusions.{exclusion_of}
use Rattle.office_history.specs.declared.Judgement.TheVariants.{Accepted, Same, Refused}
use Rattle.office_history.specs.Verdicts.{accepted, exclude_verdict_beside, lift_verdict_of}
use Rattle.office_history.specs.Verdicts.{new_exclusion_fault, same_content, unless_refused}
use Rattle.office_history.specs.Catalog.{catalog_in}
use Rattle.office_history.specs.History.{Office, accepted_rows, exclusions_in, rows_in, with_entry}
use Rattle.kept_sums.specs.Objectives.{KeepsSums}
use Rattle.office_derived.specs.declared.Derived.{Derived}
use Rattle.office_derived.specs.declared.BatchTally.{BatchTally}
use Rattle.office_derived.specs.declared.Work.TheVariants as works
use Rattle.office_derived.specs.Derived.{IsNext, IsPlaced, IsSound, Reflects, RowIsRead, entry_of}
use Rattle.office_derived.proofs.More.{rows_more}
use Rattle.office_derived.proofs.Sound.{more_cells, more_rows, within_cells, within_rows}
use Rattle.office_history.specs.Versions.{is_upgraded, most_cells, most_rows}
use Rattle.sample_changes.proofs.GoodRows.{IsGood, good_rows}
use Rattle.sample_changes.proofs.Judged.{IsAccepted, accepted_keeps}
use Rattle.sample_changes.proofs.Tallies.{accepted-more, count_put, verdicts_each}

all_settled : (P : Row → Type 0) (rows : List Row) (x : Row) → AllByRecursion P rows → P x
    → AllByRecursion P (settle same_cell (λ row. row.revision) rows x)
all_settled P [] x h p = (p, tt)
all_settled P (k ∷ ks) x h p =
    by (same_cell x k) (nat_lt k.revision x.revision) (all_settled P ks x h.1 p)
  where
    by : (b c : Bool) → AllByRecursion P (settle same_cell (λ row. row.revision) ks x) →
        AllByRecursion P (if b then (if c then x else k) ∷ ks
        else k ∷ settle same_cell (λ row. row.revision) ks x)
    by true true rest = (p, h.1)
    by true false rest = h
    by false c rest = (h.0, rest)

-- what holds of current rows and of others that come holds of the current rows of all
pub all_current : (P : Row → Type 0) (came more : List Row) → AllByRecursion P (current_rows came)
    → AllByRecursion P more → AllByRecursion P (current_rows (came ++ more))
all_current P came [] old new =
    subst (λ (rows : List Row). AllByRecursion P (current_rows rows)) (sym (append-nil came)) old
all_current P came (x ∷ more) old new =
    subst (λ (rows : List Row). AllByRecursion P (current_rows rows))
    (append_assoc came (x ∷ []) more)
    (all_current P (came ++ x ∷ []) more
    (subst (AllByRecursion P) (sym (current-push same_cell (λ row. row.revision) cell_laws came x))
    (all_settled P (current_rows came) x old new.0)) new.1)

pub each : {A : Type 0} (P Q : A → Type 0) → ((x : A) → P x → Q x) → (xs : List A) →
    AllByRecursion P xs → AllByRecursion Q xs
each P Q f [] h = tt
each P Q f (x ∷ xs) h = (f x h.0, each P Q f xs h.1)

-- what an accepted batch keeps, over what is kept
pub batch_keeps : (d : Derived) (o : Office) (m : ℕ) (rows : List Row) (tally : BatchTally)
    (becomes : Vec RowVerdict) → IsNext d o m (works.Samples rows tally becomes) →
    IsAccepted (is_upgraded o.history) o.origin m (catalog_in o.history) (rows_in o.history)
    (length o.history) rows
batch_keeps d o m rows tally becomes n = accepted_keeps (is_upgraded o.history) o.origin m
    (catalog_in o.history) (rows_in o.history) (length o.history) rows (sym n.accepted)

-- so many rows are accepted then
pub samples_taken : (d : Derived) (o : Office) (m : ℕ) (rows : List Row) (tally : BatchTally)
    (becomes : Vec RowVerdict) → IsNext d o m (works.Samples rows tally becomes) →
    d.accepted + (tally.new + tally.newer) ≡ accepted_rows (rows_in o.history ++ rows)
samples_taken d o m rows tally becomes n =
    (λ i. n.reflects.accepted i + ((ap (λ (t : BatchTally). t.new + t.newer) n.found.0 ∙ sym
    (count_put (verdicts (rows_in o.history) rows))) i))
    ∙ sym (accepted-more (rows_in o.history) rows)

pub record Few (d : Derived) (tally : BatchTally) : Type 0 where
  pub taken : d.accepted + (tally.new + tally.newer) ≤ most.MAX_UPGRADED_ROWS
  pub entries : d.entries < most.MAX_ENTRIES

pub samples_few : (d : Derived) (o : Office) (m : ℕ) (rows : List Row) (tally : BatchTally)
    (becomes : Vec RowVerdict) → IsNext d o m (works.Samples rows tally becomes) → Few d tally
samples_few d o m rows tally becomes n =
    let keeps = batch_keeps d o m rows tally becomes n in
    record {
      taken = omega (
        arith,
        samples_taken d o m rows tally becomes n,
        keeps.taken,
        more_rows (is_upgraded o.history),
      );
      entries = omega (arith, n.reflects.entries, keeps.room);
    }

-- so few current rows are there then
pub samples_summed : (d : Derived) (o : Office) (m : ℕ) (rows : List Row) (tally : BatchTally)
    (becomes : Vec RowVerdict) → IsNext d o m (works.Samples rows tally becomes) →
    length (current_rows (d.book.rows ++ rows)) ≤ most.MAX_SUMMED_ROWS
samples_summed d o m rows tally becomes n =
    omega (
      arith,
      ap (λ (kept : List Row). length (current_rows (kept ++ rows))) n.reflects.rows,
      ap length (current-append (rows_in o.history) rows),
      (batch_keeps d o m rows tally becomes n).cells,
      more_cells (is_upgraded o.history),
    )

-- the room that was made is enough
pub may_come : (d : Derived) (o : Office) (rows : List Row) → Reflects d o
    → d.book.room ≡ room_for d.book.rows rows → MayComeAll d.book.rows d.book.room rows
may_come d o rows r room =
    subst (λ room. MayComeAll d.book.rows room rows) (sym room)
    (subst (λ (kept : List Row). MayComeAll kept (room_for kept rows) rows) (sym r.rows)
    (room-enough (rows_in o.history) rows))

-- What is kept stays sound, where its rows are good and few.
pub sound_kept : (d d' : Derived) → IsSound d → d.entries < most.MAX_ENTRIES →
    d'.origin ≡ d.origin → d'.entries ≡ d.entries + 1 → d'.catalog ≡ d.catalog →
    d'.notices.made ≡ d.notices.made → length d'.book.rows ≤ most_cells d'.upgraded →
    d'.accepted ≤ most_rows d'.upgraded →
    AllByRecursion (RowIsRead d.catalog) d'.book.rows →
    AllByRecursion (IsPlaced d.origin) d'.book.rows →
    KeepsSums d'.catalog d'.book.exclusions d'.book.rows d'.sums → IsSound d'
sound_kept d d' s few origin entries catalog notices cells taken read placed sums = record {
  origin = omega (arith, s.origin, origin);
  entries = omega (arith, few, entries);
  cells = cells;
  summed = omega (arith, cells, more_cells d'.upgraded);
  accepted = taken;
  few_waiting = subst (λ (made : List (Notice × Bool)). waiting made ≤ most.MAX_NOTICES)
      (sym notices) s.few_waiting;
  made = subst (λ (made : List (Notice × Bool)). length made ≤ waiting made + d'.entries)
      (sym notices) (omega (arith, s.made, entries));
  read = subst (λ (members : List Object). All (RowIsRead members) d'.book.rows) (sym catalog)
      (All-from_recursion (RowIsRead d.catalog) d'.book.rows read);
  placed = subst (λ (n : ℕ). All (IsPlaced n) d'.book.rows) (sym origin)
      (All-from_recursion (IsPlaced d.origin) d'.book.rows placed);
  sums = sums;
}

-- the rows of an accepted batch are read, and lie in the range
pub rows_good : (d : Derived) (o : Office) (m : ℕ) (rows : List Row) (tally : BatchTally)
    (becomes : Vec RowVerdict) → IsNext d o m (works.Samples rows tally becomes) →
    AllByRecursion (IsGood d.origin m d.catalog) rows
rows_good d o m rows tally becomes n =
    subst (λ (origin : ℕ). AllByRecursion (IsGood origin m d.catalog) rows) (sym n.reflects.origin)
    (subst (λ (members : List Object). AllByRecursion (IsGood o.origin m members) rows)
    (sym n.reflects.catalog)
    (good_rows (is_upgraded o.history) o.origin m (catalog_in o.history) 1 rows
    (verdicts (rows_in o.history) rows)
    (verdicts_each (rows_in o.history) rows) (batch_keeps d o m rows tally becomes n).clean))

pub samples_sound : (d d' : Derived) (o : Office) (m : ℕ) (rows : List Row) (tally : BatchTally)
    (becomes : Vec RowVerdict) → IsSound d → IsNext d o m (works.Samples rows tally becomes) →
    Reflects d' (with_entry o (entry_of m (works.Samples rows tally becomes))) →
    d'.origin ≡ d.origin → d'.entries ≡ d.entries + 1 → d'.catalog ≡ d.catalog →
    d'.notices.made ≡ d.notices.made → d'.upgraded ≡ d.upgraded →
    KeepsSums d'.catalog d'.book.exclusions d'.book.rows d'.sums → IsSound d'
samples_sound d d' o m rows tally becomes s n r' origin entries catalog notices upgraded sums =
    let keeps = batch_keeps d o m rows tally becomes n in
    let e = entry_of m (works.Samples rows tally becomes) in
    let came = rows_in o.history in
    let is : d'.book.rows ≡ current_rows (came ++ rows) = r'.rows
    ∙ ap current_rows (rows_more o.history e) in
    let version : is_upgraded o.history ≡ d'.upgraded = sym (upgraded ∙ n.reflects.upgraded) in
    let good = rows_good d o m rows tally becomes n in
    let placed : (row : Row) → IsGood d.origin m d.catalog row → IsPlaced d.origin row =
    λ row g. (g.begun, omega (arith, g.over, n.in_range, n.reflects.origin)) in
    sound_kept d d' s (samples_few d o m rows tally becomes n).entries origin entries catalog
    notices
    (within_cells (is_upgraded o.history) d'.upgraded (length (current_rows (came ++ rows)))
    (length d'.book.rows) version (ap length is) keeps.cells)
    (within_rows (is_upgraded o.history) d'.upgraded (accepted_rows (came ++ rows)) d'.accepted
    version (r'.accepted ∙ ap accepted_rows (rows_more o.history e)) keeps.taken)
    (subst (AllByRecursion (RowIsRead d.catalog)) (sym is)
    (all_current (RowIsRead d.catalog) came rows (subst (AllByRecursion (RowIsRead d.catalog))
    n.reflects.rows (recursion_from_All (RowIsRead d.catalog) d.book.rows s.read))
    (each (IsGood d.origin m d.catalog) (RowIsRead d.catalog) (λ row g. g.read) rows good)))
    (subst (AllByRecursion (IsPlaced d.origin)) (sym is)
    (all_current (IsPlaced d.origin) came rows (subst (AllByRecursion (IsPlaced d.origin))
    n.reflects.rows (recursion_from_All (IsPlaced d.origin) d.book.rows s.placed))
    (each (IsGood d.origin m d.catalog) (IsPlaced d.origin) placed rows good)))
    sums

-- what is kept of rows stays
pub sound_still : (d d' : Derived) → IsSound d → d.entries < most.MAX_ENTRIES →
    d'.origin ≡ d.origin → d'.entries ≡ d.entries + 1 → d'.catalog ≡ d.catalog →
    d'.notices.made ≡ d.notices.made → d'.book.rows ≡ d.book.rows → d'.accepted ≡ d.accepted →
    d'.upgraded ≡ d.upgraded → KeepsSums d'.catalog d'.book.exclusions d'.book.rows d'.sums →
    IsSound d'
sound_still d d' s few origin entries catalog notices rows taken upgraded sums =
    sound_kept d d' s few origin entries catalog notices
    (within_cells d.upgraded d'.upgraded (length d.book.rows) (length d'.book.rows) (sym upgraded)
    (ap length rows) s.cells)
    (within_rows d.upgraded d'.upgraded d.accepted d'.accepted (sym upgraded) taken s.accepted)
    (subst (AllByRecursion (RowIsRead d.catalog)) (sym rows)
    (recursion_from_All (RowIsRead d.catalog) d.book.rows s.read))
    (subst (AllByRecursion (IsPlaced d.origin)) (sym rows)
    (recursion_from_All (IsPlaced d.origin) d.book.rows s.placed))
    sums

pub room_for_one : (n : ℕ) → accepted n ≡ Accepted → n < most.MAX_ENTRIES
room_for_one n h = by (nat_lt n most.MAX_ENTRIES) refl h
  where
    by : (b : Bool) → nat_lt n most.MAX_ENTRIES ≡ b
        → cond b Accepted (Refused (refusals.Limit limits.Entries)) ≡ Accepted
        → n < most.MAX_ENTRIES
    by true e h = ltb-true n most.MAX_ENTRIES e
    by false e h = cc h

excluded_room : (kept : Option (Exclusion × Bool)) (origin : ℕ) (members : List Object) (made n : ℕ)
    (value : Exclusion) → exclude_verdict_beside kept origin members made n value ≡ Accepted
    → n < most.MAX_ENTRIES
excluded_room None origin members made n value h =
    by (new_exclusion_fault origin members made value) h
  where
    by : (fault : Option Refusal) → unless_refused fault (accepted n) ≡ Accepted
        → n < most.MAX_ENTRIES
    by None h = room_for_one n h
    by (Some refusal) h = cc h
excluded_room (Some kept) origin members made n value h = by kept.1 (same_content kept.0 value) h
  where
    by : (b c : Bool) → cond b (cond c (Same (Changed None))
        (Refused (refusals.ExclusionConflict kept.0.from kept.0.slo kept.0.to)))
        (Refused (refusals.Withdrawn value.id)) ≡ Accepted → n < most.MAX_ENTRIES
    by true true h = cc h
    by true false h = cc h
    by false c h = cc h

lifted_room : (kept : Option (Exclusion × Bool)) (n : ℕ) → lift_verdict_of kept n ≡ Accepted
    → n < most.MAX_ENTRIES
lifted_room None n h = cc h
lifted_room (Some kept) n h = by kept.1 h
  where
    by : (b : Bool) → cond b (accepted n) (Same (Changed None)) ≡ Accepted → n < most.MAX_ENTRIES
    by true h = room_for_one n h
    by false h = cc h

pub exclude_entries : (d : Derived) (o : Office) (m : ℕ) (value : Exclusion)
    → IsNext d o m (works.Exclude value) → d.entries < most.MAX_ENTRIES
exclude_entries d o m value n =
    omega (
      arith,
      n.reflects.entries,
      excluded_room (exclusion_of (exclusions_in o.history) value.id) o.origin (catalog_in
          o.history) (length (exclusions_in o.history)) (length o.history) value (sym n.accepted),
    )

pub lift_entries : (d : Derived) (o : Office) (m : ℕ) (id : List ℕ) → IsNext d o m (works.Lift id)
    → d.entries < most.MAX_ENTRIES
lift_entries d o m id n = omega (
  arith,
  n.reflects.entries,
  lifted_room (exclusion_of (exclusions_in o.history) id) (length o.history) (sym n.accepted),
)

-- a command that brings no rows
pub accepted_still : (d : Derived) (o : Office) → Reflects d o
    → d.accepted ≡ accepted_rows (rows_in o.history ++ [])
accepted_still d o r = r.accepted ∙ ap accepted_rows (sym (append-nil (rows_in o.history)))
