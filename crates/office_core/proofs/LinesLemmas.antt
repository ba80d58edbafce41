-- What an accepted command leaves of the catalog and the samples, which the lines are of.
use Rattle.std.proofs.Common.{◌≡◌, ◌∙◌, ℕ, ◌<◌, ◌++◌, ◌∷◌, ◌||◌, [], Bool, true, false, List}
use Rattle.std.proofs.Common.{Option, Some, None, ap, arith, cond, fold, length, refl, sym, subst}
use Rattle.std.specs.Global.{Vec}
use Rattle.std.specs.List.{AllByRecursion}
use Rattle.std.proofs.lemmas.List.{append-nil}
use Rattle.sample_book.specs.declared.Exclusion.{Exclusion}
use Rattle.sample_book.specs.declared.Row.{Row}
use Rattle.sample_book.specs.declared.RowVerdict.{RowVerdict}
use Rattle.sample_book.specs.Exclusions.{excludes, exclusion_of, is_excluded}
use Rattle.sample_book.specs.History as book
use Rattle.sample_book.specs.Rows.{current_rows}
use Rattle.sample_book.proofs.BatchLemmas.{current-append}
use Rattle.object_terms.specs.declared.Object.{Object}
use Rattle.object_terms.specs.declared.Kind.{Kind}
use Rattle.record_form.specs.declared.Entry.{Entry}
use Rattle.record_form.specs.declared.Outcome.TheVariants.{Changed}
use Rattle.office_history.specs.declared.Judgement.TheVariants.{Accepted, Same}
use Rattle.office_history.specs.Catalog.{catalog_in, definitions_of, members_after}
use Rattle.office_history.specs.Counts.{Samples}
use Rattle.office_history.specs.History.{Office, changes_in, changes_of, end_of, exclusions_in}
use Rattle.office_history.specs.History.{rows_in, rows_of, with_entry}
use Rattle.office_history.specs.Verdicts.{accepted, lift_verdict_of}
use Rattle.kept_sums.specs.declared.SumsPlan.{SumsPlan}
use Rattle.kept_sums.specs.Walks.{made_on}
use Rattle.line_forgetting.proofs.RightLemmas.{right-alike}
use Rattle.office_derived.specs.declared.Derived.{Derived}
use Rattle.office_derived.specs.declared.BatchTally.{BatchTally}
use Rattle.office_derived.specs.declared.Work.{Work}
use Rattle.office_derived.specs.declared.Work.TheVariants as works
use Rattle.office_derived.specs.Derived.{IsNext, IsPlaced, Reflects, command_of, entry_of}
use Rattle.office_derived.proofs.More.{catalog_more, changes_more, rows_more}
use Rattle.sample_changes.proofs.Following.{made_anew}
use Rattle.sample_changes.proofs.GoodRows.{IsGood}
use Rattle.sample_changes.proofs.Kept.{each, rows_good}
use Rattle.kept_lines.specs.declared.WatchLine.{WatchLine}
use Rattle.kept_lines.specs.Lines.{AreRight, HasLines, KeepsLines}
use Rattle.kept_lines.specs.Sums.{samples_of}

module _ (d d' : Derived) (o : Office) (e : Entry) (r : Reflects d o)
    (r' : Reflects d' (with_entry o e)) where
  pub same_origin : d'.origin ≡ d.origin
  same_origin = r'.origin ∙ sym r.origin

  -- a command that defines nothing leaves the catalog
  pub same_catalog : definitions_of e.command ≡ [] → d'.catalog ≡ d.catalog
  same_catalog none =
      r'.catalog ∙ catalog_more o.history e
      ∙ ap (λ ds. fold members_after (catalog_in o.history) ds) none
      ∙ sym r.catalog

  -- a command that brings no rows leaves them
  pub same_rows : rows_of e.command ≡ [] → d'.book.rows ≡ d.book.rows
  same_rows none =
      r'.rows ∙ ap current_rows (rows_more o.history e ∙ ap (λ rs. rows_in o.history ++ rs) none
      ∙ append-nil (rows_in o.history)) ∙ sym r.rows

  -- a batch makes its rows current
  pub batch_rows : (rows : List Row) → rows_of e.command ≡ rows →
      d'.book.rows ≡ current_rows (d.book.rows ++ rows)
  batch_rows rows is =
      r'.rows ∙ ap current_rows (rows_more o.history e ∙ ap (λ rs. rows_in o.history ++ rs) is)
      ∙ sym (current-append (rows_in o.history) rows)
      ∙ ap (λ (kept : List Row). current_rows (kept ++ rows)) (sym r.rows)

  -- a command that neither excludes nor lifts leaves the exclusions
  pub same_exclusions : changes_of e.command ≡ [] → d'.book.exclusions ≡ d.book.exclusions
  same_exclusions none =
      r'.exclusions ∙ ap book.exclusions_of (changes_more o.history e
      ∙ ap (λ cs. changes_in o.history ++ cs) none ∙ append-nil (changes_in o.history))
      ∙ sym r.exclusions

-- lines over samples and a catalog that are those of what is kept
pub lines_over : (d' : Derived) (kept : List WatchLine) (begin : ℕ) (members : List Object)
    (rows : List Row) (made : List (Exclusion × Bool)) → d'.origin ≡ begin → d'.catalog ≡ members →
    d'.book.rows ≡ rows → d'.book.exclusions ≡ made →
    KeepsLines begin members (record { rows = rows; exclusions = made }) kept → HasLines d' kept
lines_over d' kept begin members rows made origin catalog still same keeps =
    subst (λ (n : ℕ). KeepsLines n d'.catalog (samples_of d'.book) kept) (sym origin)
    (subst (λ (os : List Object). KeepsLines begin os (samples_of d'.book) kept) (sym catalog)
    (subst (λ (s : Samples). KeepsLines begin members s kept) (sym is) keeps))
  where
    is : samples_of d'.book ≡ record { rows = rows; exclusions = made }
    is = λ i. record { rows = still i; exclusions = same i }

-- a command that neither defines nor counts otherwise leaves the lines
pub still_lines : (d d' : Derived) (o : Office) (m : ℕ) (work : Work) (kept : List WatchLine) →
    IsNext d o m work → Reflects d' (with_entry o (entry_of m work)) →
    definitions_of (command_of work) ≡ [] → rows_of (command_of work) ≡ [] →
    changes_of (command_of work) ≡ [] → HasLines d kept → HasLines d' kept
still_lines d d' o m work kept n r' defines brings changes keeps =
    lines_over d' kept d.origin d.catalog d.book.rows d.book.exclusions
    (same_origin d d' o (entry_of m work) n.reflects r')
    (same_catalog d d' o (entry_of m work) n.reflects r' defines)
    (same_rows d d' o (entry_of m work) n.reflects r' brings)
    (same_exclusions d d' o (entry_of m work) n.reflects r' changes) keeps

-- the catalog of a definition or a removal is the one of the history with it
pub new_lines : (d d' : Derived) (o : Office) (m : ℕ) (work : Work) (catalog : List Object)
    (kept : List WatchLine) → IsNext d o m work → Reflects d' (with_entry o (entry_of m work)) →
    catalog ≡ catalog_in (o.history ++ entry_of m work ∷ []) →
    rows_of (command_of work) ≡ [] → changes_of (command_of work) ≡ [] →
    KeepsLines d.origin catalog (samples_of d.book) kept → HasLines d' kept
new_lines d d' o m work catalog kept n r' found brings changes keeps =
    lines_over d' kept d.origin catalog d.book.rows d.book.exclusions
    (same_origin d d' o (entry_of m work) n.reflects r') (r'.catalog ∙ sym found)
    (same_rows d d' o (entry_of m work) n.reflects r' brings)
    (same_exclusions d d' o (entry_of m work) n.reflects r' changes) keeps

-- the lines that forgot what a batch moves are those of the samples with it
pub batch_lines : (d d' : Derived) (o : Office) (m : ℕ) (rows : List Row) (tally : BatchTally)
    (becomes : Vec RowVerdict) (kept : List WatchLine) →
    IsNext d o m (works.Samples rows tally becomes) →
    Reflects d' (with_entry o (entry_of m (works.Samples rows tally becomes))) →
    KeepsLines d.origin d.catalog
    (record { rows = current_rows (d.book.rows ++ rows); exclusions = d.book.exclusions }) kept →
    HasLines d' kept
batch_lines d d' o m rows tally becomes kept n r' keeps =
    let e = entry_of m (works.Samples rows tally becomes) in
    lines_over d' kept d.origin d.catalog (current_rows (d.book.rows ++ rows)) d.book.exclusions
    (same_origin d d' o e n.reflects r') (same_catalog d d' o e n.reflects r' refl)
    (batch_rows d d' o e n.reflects r' rows refl) (same_exclusions d d' o e n.reflects r' refl)
    keeps

-- an accepted batch has its rows in the office's range
pub batch_placed : (d : Derived) (o : Office) (m : ℕ) (rows : List Row) (tally : BatchTally)
    (becomes : Vec RowVerdict) → IsNext d o m (works.Samples rows tally becomes) →
    AllByRecursion (IsPlaced d.origin) rows
batch_placed d o m rows tally becomes n =
    each (IsGood d.origin m d.catalog) (IsPlaced d.origin) placed rows
    (rows_good d o m rows tally becomes n)
  where
    placed : (row : Row) → IsGood d.origin m d.catalog row → IsPlaced d.origin row
    placed row g = (g.begun, omega (arith, g.over, n.in_range, n.reflects.origin))

-- the lines that forgot what an exclusion takes are those of the samples with it
pub excluded_lines : (d d' : Derived) (o : Office) (m : ℕ) (value : Exclusion)
    (kept : List WatchLine) → IsNext d o m (works.Exclude value) →
    Reflects d' (with_entry o (entry_of m (works.Exclude value))) →
    d'.book.exclusions ≡ d.book.exclusions ++ (value, true) ∷ [] →
    KeepsLines d.origin d.catalog
    (record { rows = d.book.rows; exclusions = made_on d.book.exclusions value true }) kept →
    HasLines d' kept
excluded_lines d d' o m value kept n r' made keeps =
    let e = entry_of m (works.Exclude value) in
    lines_over d' kept d.origin d.catalog d.book.rows (d.book.exclusions ++ (value, true) ∷ [])
    (same_origin d d' o e n.reflects r') (same_catalog d d' o e n.reflects r' refl)
    (same_rows d d' o e n.reflects r' refl) made keeps

-- lines that are right are so over other exclusions that take the same minutes
alike_lines : (begin : ℕ) (rows : List Row) (made other : List (Exclusion × Bool))
    (kept : List WatchLine) → ((slo : List ℕ) (minute : ℕ) →
    is_excluded made slo minute ≡ is_excluded other slo minute) →
    AreRight begin (record { rows = rows; exclusions = made }) kept →
    AreRight begin (record { rows = rows; exclusions = other }) kept
alike_lines begin rows made other [] alike right = tt
alike_lines begin rows made other (k ∷ kept) alike right = (
  right-alike begin made other rows k.watch k.line alike right.0,
  alike_lines begin rows made other kept alike right.1,
)

-- before lines follow a lifting, they are those of the samples with what it lifts made anew
pub lifting_lines : (d d' : Derived) (o : Office) (m : ℕ) (id : List ℕ) (value : Exclusion)
    (kept : List WatchLine) → IsNext d o m (works.Lift id) →
    Reflects d' (with_entry o (entry_of m (works.Lift id))) →
    ((slo : List ℕ) (minute : ℕ) → is_excluded d.book.exclusions slo minute
    ≡ (is_excluded d'.book.exclusions slo minute || excludes slo minute (value, true))) →
    HasLines d kept → KeepsLines d'.origin d'.catalog
    (record { rows = d'.book.rows; exclusions = made_on d'.book.exclusions value true }) kept
lifting_lines d d' o m id value kept n r' lifts keeps =
    subst (λ (n : ℕ). KeepsLines n d'.catalog (over d'.book.rows) kept)
    (sym (same_origin d d' o e n.reflects r'))
    (subst (λ (os : List Object). KeepsLines d.origin os (over d'.book.rows) kept)
    (sym (same_catalog d d' o e n.reflects r' refl))
    (subst (λ (rows : List Row). KeepsLines d.origin d.catalog (over rows) kept)
    (sym (same_rows d d' o e n.reflects r' refl)) anew))
  where
    e : Entry
    e = entry_of m (works.Lift id)

    over : List Row → Samples
    over rows = record { rows = rows; exclusions = made_on d'.book.exclusions value true }

    anew : KeepsLines d.origin d.catalog (over d.book.rows) kept
    anew = record {
      right = alike_lines d.origin d.book.rows d.book.exclusions
          (d'.book.exclusions ++ (value, true) ∷ []) kept
          (made_anew d.book.exclusions d'.book.exclusions value lifts) keeps.right;
      only = keeps.only;
      all = keeps.all;
      bound = keeps.bound;
    }

live_where : (kept : Option (Exclusion × Bool)) (n : ℕ) (value : Exclusion) (live : Bool) →
    kept ≡ Some (value, live) → lift_verdict_of kept n ≡ Accepted → live ≡ true
live_where None n value live is h = cc is
live_where (Some kept) n value live is h =
    let same : kept ≡ (value, live) = cc is in by live (subst
    (λ (k : Exclusion × Bool). cond k.1 (accepted n) (Same (Changed None)) ≡ Accepted) same h)
  where
    by : (b : Bool) → cond b (accepted n) (Same (Changed None)) ≡ Accepted → b ≡ true
    by true h = refl
    by false h = cc h

-- what an accepted lifting lifts is live
pub lifted_live : (d : Derived) (o : Office) (m : ℕ) (id : List ℕ) (value : Exclusion)
    (live : Bool) → IsNext d o m (works.Lift id) →
    exclusion_of d.book.exclusions id ≡ Some (value, live) →
    exclusion_of d.book.exclusions id ≡ Some (value, true)
lifted_live d o m id value live n is =
    let found : exclusion_of (exclusions_in o.history) id ≡ Some (value, live) =
    ap (λ (made : List (Exclusion × Bool)). exclusion_of made id) (sym n.reflects.exclusions)
    ∙ is in
    let yes = live_where (exclusion_of (exclusions_in o.history) id)
    (length o.history) value live found (sym n.accepted) in
    is ∙ ap (λ (b : Bool). Some (value, b)) yes

-- what an accepted lifting lifts is there
pub lifted_there : (d : Derived) (o : Office) (m : ℕ) (id : List ℕ) → IsNext d o m (works.Lift id) →
    exclusion_of d.book.exclusions id ≡ None → ⊥
lifted_there d o m id n is =
    none (exclusion_of (exclusions_in o.history) id) (ap (λ (made : List (Exclusion × Bool)).
    exclusion_of made id) (sym n.reflects.exclusions) ∙ is) (sym n.accepted)
  where
    none : (kept : Option (Exclusion × Bool)) → kept ≡ None →
        lift_verdict_of kept (length o.history) ≡ Accepted → ⊥
    none None is h = cc h
    none (Some kept) is h = cc is
