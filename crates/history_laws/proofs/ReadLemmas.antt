-- In a legal history each row is read.
use Rattle.std.proofs.Common.{◌≡◌, ◌∙◌, ℕ, ◌||◌, Bool, true, false, cond, List, [], ◌∷◌, ◌++◌}
use Rattle.std.proofs.Common.{Option, Some, None, refl, sym, ap, subst, fold, bytes_eq, length}
use Rattle.std.specs.List.{AllByRecursion, find, list_any}
use Rattle.std.specs.Option.{option_or}
use Rattle.std.proofs.lemmas.List.{append-nil}
use Rattle.std.proofs.lemmas.List.Elements.{All-from_recursion, recursion_from_All}
use Rattle.cell_index.specs.declared.Cell.{Cell}
use Rattle.sample_book.specs.declared.Row.{Row}
use Rattle.sample_book.specs.Counting.{first_of, is_of}
use Rattle.sample_book.specs.Puts.{verdicts}
use Rattle.sample_book.specs.Rows.{cell_of, current_rows, same_cell}
use Rattle.sample_book.proofs.StandingLemmas.{cell_same}
use Rattle.object_terms.specs.declared.kind.Kind.{Kind}
use Rattle.object_terms.specs.declared.Object.{Object}
use Rattle.object_terms.specs.declared.Sli.{Sli}
use Rattle.object_terms.specs.Sli.{sli_in}
use Rattle.catalog_terms.specs.Catalog.{with_members, without}
use Rattle.catalog_terms.specs.NeedsOp.{sli_named}
use Rattle.record_form.specs.declared.Command.{Command}
use Rattle.record_form.specs.declared.Command.TheVariants.{Define, Remove, PutZone, Samples}
use Rattle.record_form.specs.declared.Command.TheVariants.{Exclude, Lift, Tick, Take, Upgrade}
use Rattle.record_form.specs.declared.Entry.{Entry}
use Rattle.office_history.specs.Readings.{first_read_anew, is_other_reading, reading_of}
use Rattle.office_history.specs.Readings.{row_read_anew}
use Rattle.office_history.specs.declared.Judgement.TheVariants.{Accepted}
use Rattle.office_history.specs.Catalog.{catalog_in, definitions_of, members_after, text_objects}
use Rattle.office_history.specs.History.{current_in, rows_in, rows_of}
use Rattle.office_history.specs.Judges.{Judges, known_of}
use Rattle.office_history.specs.Legal.{empty, followed, office}
use Rattle.office_history.specs.Verdicts.{first_row_of}
use Rattle.office_history.specs.Versions.{is_upgraded}
use Rattle.office_derived.specs.Derived.{RowIsRead}
use Rattle.office_derived.proofs.More.{catalog_more, rows_more}
use Rattle.objective_days.proofs.Current.{any-current}
use Rattle.sample_changes.proofs.GoodRows.{IsGood, good_rows}
use Rattle.sample_changes.proofs.Judged.{accepted_keeps}
use Rattle.sample_changes.proofs.Kept.{all_current}
use Rattle.sample_changes.proofs.Tallies.{verdicts_each}
use Rattle.catalog_changes.specs.Kinds.{TextsHaveKinds}
use Rattle.catalog_changes.proofs.ChangeLemmas.{accepted_removal, accepted_text}
use Rattle.catalog_changes.proofs.DefineLemmas.{changes_put, kinds_of_text, made_of_text}
use Rattle.catalog_changes.proofs.ReadingLemmas.{define_read, remove_read}
use Rattle.history_laws.specs.Kept.{CurrentRowsAreRead, RowsAreRead}

-- INDICATORS WITH ROWS

first_none : {A : Type 0} (p : A → Bool) (xs : List A) → list_any p xs ≡ false → find p xs ≡ None
first_none p [] h = refl
first_none p (x ∷ xs) h = by (p x) h (first_none p xs)
  where
    by : (b : Bool) → (b || list_any p xs) ≡ false → (list_any p xs ≡ false → find p xs ≡ None) →
        cond b (Some x) (find p xs) ≡ None
    by true h go = cc h
    by false h go = go h

none_passes : {A : Type 0} (p : A → Bool) (xs : List A) → find p xs ≡ None → list_any p xs ≡ false
none_passes p [] h = refl
none_passes p (x ∷ xs) h = by (p x) h (none_passes p xs)
  where
    by : (b : Bool) → cond b (Some x) (find p xs) ≡ None →
        (find p xs ≡ None → list_any p xs ≡ false) → (b || list_any p xs) ≡ false
    by true h go = cc h
    by false h go = go h

one_indicator : (sli : List ℕ) (a b : Row) → same_cell a b ≡ true → is_of sli a ≡ is_of sli b
one_indicator sli a b h =
    ap (λ (c : Cell). bytes_eq c.sli sli) (cell_same (cell_of a) (cell_of b) h)

-- an indicator that has no current row has no row at all
none_came : (came : List Row) (sli : List ℕ) → first_of (current_rows came) sli ≡ None →
    first_of came sli ≡ None
none_came came sli h =
    first_none (is_of sli) came
    (sym (any-current (is_of sli) (one_indicator sli) [] came)
    ∙ none_passes (is_of sli) (current_rows came) h)

neither : {A : Type 0} (a b : Option A) → option_or a b ≡ None → (a ≡ None) × (b ≡ None)
neither None b h = (refl, h)
neither (Some x) b h = cc h

-- objects that read no indicator with a current row otherwise read none with a row otherwise
none_anew : (old : List Object) (came : List Row) (objects : List Object) →
    first_read_anew old (current_rows came) objects ≡ None →
    first_read_anew old came objects ≡ None
none_anew old came [] h = refl
none_anew old came (o ∷ os) h =
    let n = neither (row_read_anew old (current_rows came) o.name (sli_in o.body))
    (first_read_anew old (current_rows came) os) h in
    λ i. option_or (one o.name (sli_in o.body) n.0 i) (none_anew old came os n.1 i)
  where
    by : (name : List ℕ) (b : Bool) → cond b (first_of (current_rows came) name) None ≡ None →
        cond b (first_of came name) None ≡ None
    by name true h = none_came came name h
    by name false h = refl

    one : (name : List ℕ) (sli : Option Sli) →
        row_read_anew old (current_rows came) name sli ≡ None →
        row_read_anew old came name sli ≡ None
    one name None h = refl
    one name (Some sli) h =
        by name (is_other_reading (reading_of sli.metric) (sli_named old name)) h

-- ENTRIES

-- each row is read
abbrev AreRead : List Object → List Row → Type 0
AreRead members rows = AllByRecursion (RowIsRead members) rows

joined : {A : Type 0} (P : A → Type 0) (a b : List A) → AllByRecursion P a → AllByRecursion P b →
    AllByRecursion P (a ++ b)
joined P [] b h k = k
joined P (x ∷ xs) b h k = (h.0, joined P xs b h.1 k)

each : {A : Type 0} (P Q : A → Type 0) → ((x : A) → P x → Q x) → (xs : List A) →
    AllByRecursion P xs → AllByRecursion Q xs
each P Q f [] h = tt
each P Q f (x ∷ xs) h = (f x h.0, each P Q f xs h.1)

same_read : (members : List Object) (rows : List Row) → AreRead members rows →
    AreRead members (rows ++ [])
same_read members rows read = subst (AreRead members) (sym (append-nil rows)) read

-- what an accepted command leaves of the catalog reads all rows, those that it brings too
read_after : TextsHaveKinds → (origin : ℕ) (h : List Entry) (m : ℕ) (c : Command) →
    AreRead (catalog_in h) (rows_in h) → Judges (office origin h) m c Accepted →
    AreRead (fold members_after (catalog_in h) (definitions_of c)) (rows_in h ++ rows_of c)
read_after law origin h m (Define text) read v =
    let known = known_of (office origin h) in
    let objects = text_objects text in
    let a = accepted_text known (length h) text Accepted v refl in
    let made = made_of_text known text a.made a.is in
    let old = All-from_recursion (RowIsRead (catalog_in h)) (rows_in h) read in
    let anew = none_anew (catalog_in h) (rows_in h) objects made.same_readings in
    let new = define_read (catalog_in h) (rows_in h) objects old
    (kinds_of_text law known text a.made a.is) anew in
    subst (λ (members : List Object). AreRead members (rows_in h ++ []))
    (sym (changes_put objects (catalog_in h)))
    (same_read (with_members objects (catalog_in h)) (rows_in h)
    (recursion_from_All (RowIsRead (with_members objects (catalog_in h))) (rows_in h) new))
read_after law origin h m (Remove kind name) read v =
    let a = accepted_removal (catalog_in h) (current_in h) (length h) kind name v in
    let old = All-from_recursion (RowIsRead (catalog_in h)) (rows_in h) read in
    let new = remove_read (catalog_in h) (rows_in h) kind name old
    (λ sli. none_came (rows_in h) name
    (sym (ap (λ (k : Kind). first_row_of (current_in h) k name) sli) ∙ a.no_rows)) in
    same_read (without kind name (catalog_in h)) (rows_in h)
    (recursion_from_All (RowIsRead (without kind name (catalog_in h))) (rows_in h) new)
read_after law origin h m (Samples rows) read v =
    let came = rows_in h in
    let u = is_upgraded h in
    let keeps = accepted_keeps u origin m (catalog_in h) came (length h) rows (sym v) in
    let good = good_rows u origin m (catalog_in h) 1 rows (verdicts came rows)
    (verdicts_each came rows) keeps.clean in
    joined (RowIsRead (catalog_in h)) came rows read
    (each (IsGood origin m (catalog_in h)) (RowIsRead (catalog_in h)) (λ row g. g.read) rows good)
read_after law origin h m (PutZone name bytes) read v = same_read (catalog_in h) (rows_in h) read
read_after law origin h m (Exclude value) read v = same_read (catalog_in h) (rows_in h) read
read_after law origin h m (Lift id) read v = same_read (catalog_in h) (rows_in h) read
read_after law origin h m Tick read v = same_read (catalog_in h) (rows_in h) read
read_after law origin h m (Take number) read v = same_read (catalog_in h) (rows_in h) read
read_after law origin h m Upgrade read v = same_read (catalog_in h) (rows_in h) read

-- HISTORIES

pub rows_are_read : TextsHaveKinds → RowsAreRead
rows_are_read law origin _ empty = tt
rows_are_read law origin _ (followed {h = h} e legal may) =
    subst (λ (p : List Object × List Row). AreRead p.0 p.1)
    (λ i. (sym (catalog_more h e) i, sym (rows_more h e) i))
    (read_after law origin h e.moment e.command (rows_are_read law origin h legal) may.accepted)

pub current_rows_are_read : TextsHaveKinds → CurrentRowsAreRead
current_rows_are_read law origin h legal =
    all_current (RowIsRead (catalog_in h)) [] (rows_in h) tt (rows_are_read law origin h legal)
