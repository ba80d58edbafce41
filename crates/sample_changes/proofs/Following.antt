-- The sums of the objectives follow batches, exclusions and liftings.
use Rattle.std.proofs.Common.{◌≡◌, ℕ, ◌++◌, ◌∷◌, [], ◌&&◌, ◌||◌, ◌∙◌, Bool, List, true, false, not}
use Rattle.std.proofs.Common.{if◌then◌else◌, inl, inr, map, nat_le, nat_lt, refl, ap, sym, subst}
use Rattle.std.specs.Str.{bytes_eq}
use Rattle.std.proofs.lemmas.Slice.Eq.{bytes_eq-Decides}
use Rattle.std.specs.Global.{Vec}
use Rattle.std.specs.List.{AllByRecursion, Contains}
use Rattle.std.proofs.lemmas.List.Folds.{list_any-append}
use Rattle.slice_method.specs.Readings.{counts}
use Rattle.sample_book.specs.declared.Exclusion.{Exclusion}
use Rattle.sample_book.specs.declared.Row.{Row}
use Rattle.sample_book.specs.declared.RowVerdict.{RowVerdict}
use Rattle.sample_book.specs.Counting.{is_of}
use Rattle.sample_book.specs.Exclusions.{excludes, is_excluded}
use Rattle.sample_book.specs.Rows.{current_rows}
use Rattle.sample_book.proofs.BatchLemmas.{current-append}
use Rattle.window_sums.specs.Shares.{IsSumOf}
use Rattle.window_sums.specs.Slices.{no_counts}
use Rattle.object_terms.specs.declared.Object.{Object}
use Rattle.office_history.specs.declared.Measure.{Measure}
use Rattle.office_history.specs.History.{Office, rows_in, with_entry}
use Rattle.kept_sums.specs.Sums.{row_counts, shares_by}
use Rattle.kept_sums.specs.declared.ObjectiveSums.{ObjectiveSums}
use Rattle.kept_sums.specs.Objectives.{AreKept, HasSums, HaveForms, HaveOwn, IsLike, IsObjective}
use Rattle.kept_sums.specs.Objectives.{KeepsSums, KeptObjectives, counted, key_by, keys_by}
use Rattle.kept_sums.specs.Objectives.{measures_of, pooled}
use Rattle.office_derived.specs.declared.Derived.{Derived}
use Rattle.office_derived.specs.declared.BatchTally.{BatchTally}
use Rattle.office_derived.specs.declared.Work.TheVariants as works
use Rattle.office_derived.specs.Derived.{IsNext, IsSound, Reflects, RowIsRead, entry_of}
use Rattle.office_derived.proofs.More.{rows_more}
use Rattle.office_derived.proofs.FormLemmas.{all_forms}
use Rattle.sample_changes.proofs.GoodRows.{IsGood}
use Rattle.sample_changes.proofs.Kept.{each, rows_good}

of_measures : (P : Measure → Type 0) (kept : List ObjectiveSums) →
    AllByRecursion (λ (k : ObjectiveSums). P k.measure) kept →
    AllByRecursion P (measures_of kept)
of_measures P [] all = tt
of_measures P (k ∷ kept) all = (all.0, of_measures P kept all.1)

by_measures : (P : Measure → Type 0) (kept : List ObjectiveSums) →
    AllByRecursion P (measures_of kept) →
    AllByRecursion (λ (k : ObjectiveSums). P k.measure) kept
by_measures P [] all = tt
by_measures P (k ∷ kept) all = (all.0, by_measures P kept all.1)

keys_measures : (pool : Bool) (kept : List ObjectiveSums)
    → keys_by pool kept ≡ map (key_by pool) (measures_of kept)
keys_measures pool [] = refl
keys_measures pool (k ∷ kept) =
    ap (λ (ks : List Measure). key_by pool k.measure ∷ ks) (keys_measures pool kept)

same_keys : (pool : Bool) (old new : List ObjectiveSums) → measures_of new ≡ measures_of old
    → keys_by pool new ≡ keys_by pool old
same_keys pool old new same =
    keys_measures pool new ∙ ap (map (key_by pool)) same ∙ sym (keys_measures pool old)

-- sums that follow what happens, and of which each objective has some, are kept of all of them
pub followed_sums : (members : List Object) (made : List (Exclusion × Bool)) (rows : List Row)
    (old new : KeptObjectives)
    → AllByRecursion (λ (k : ObjectiveSums). IsLike members false k.measure) old.own
    → AllByRecursion (λ (k : ObjectiveSums). IsLike members true k.measure) old.pooled
    → measures_of new.own ≡ measures_of old.own → measures_of new.pooled ≡ measures_of old.pooled
    → AreKept made rows new.own → AreKept [] rows new.pooled
    → ((m : Measure) → IsObjective members m → HasSums made old.own old.pooled m)
    → KeepsSums members made rows new
followed_sums members made rows old new own_only pooled_only own pool are pooled_are all = record {
  own = are;
  pooled = pooled_are;
  own_only = by_measures (IsLike members false) new.own
      (subst (AllByRecursion (IsLike members false)) (sym own)
      (of_measures (IsLike members false) old.own own_only));
  pooled_only = by_measures (IsLike members true) new.pooled
      (subst (AllByRecursion (IsLike members true)) (sym pool)
      (of_measures (IsLike members true) old.pooled pooled_only));
  all = λ m is. moved m (all m is);
}
  where
    moved : (m : Measure) → HasSums made old.own old.pooled m → HasSums made new.own new.pooled m
    moved m (inl has) =
        inl (subst (λ (ks : List Measure). Contains ks (counted m))
        (sym (same_keys false old.own new.own own)) has)
    moved m (inr has) = inr (
      subst (λ (ks : List Measure). Contains ks (pooled m))
          (sym (same_keys true old.pooled new.pooled pool)) has.0,
      has.1,
    )

-- so it is where what is counted stays, and each objective still has sums
pub still_sums : (members : List Object) (made made' : List (Exclusion × Bool))
    (rows rows' : List Row) (old new : KeptObjectives) → measures_of new.own ≡ measures_of old.own →
    measures_of new.pooled ≡ measures_of old.pooled → AreKept made' rows' new.own →
    AreKept [] rows' new.pooled →
    ((m : Measure) → IsObjective members m → HasSums made old.own old.pooled m
    → HasSums made' old.own old.pooled m) →
    KeepsSums members made rows old → KeepsSums members made' rows' new
still_sums members made made' rows rows' old new own pool are pooled_are still keeps =
    followed_sums members made' rows' old new keeps.own_only keeps.pooled_only own pool are
    pooled_are (λ m is. still m is (keeps.all m is))

-- an exclusion leaves sums to each objective, where those of its SLO have sums of their own
pub excluded_still : (members : List Object) (made : List (Exclusion × Bool)) (value : Exclusion)
    (own pool : List ObjectiveSums) → HaveOwn members own value.slo → (m : Measure)
    → IsObjective members m → HasSums made own pool m
    → HasSums (made ++ (value, true) ∷ []) own pool m
excluded_still members made value own pool room m is (inl has) = inl has
excluded_still members made value own pool room m is (inr has) =
    by (bytes_eq value.slo m.slo) refl
  where
    none : (minute : ℕ) → bytes_eq value.slo m.slo ≡ false
        → is_excluded (made ++ (value, true) ∷ []) m.slo minute ≡ false
    none minute e =
        list_any-append (excludes m.slo minute) made ((value, true) ∷ [])
        ∙ (λ i. has.1 minute i || (((e i && nat_le value.from minute) && nat_lt minute value.to)
        || false))

    by : (b : Bool) → bytes_eq value.slo m.slo ≡ b
        → HasSums (made ++ (value, true) ∷ []) own pool m
    by true e = inl (room m is (sym ((bytes_eq-Decides value.slo m.slo).0 e)))
    by false e = inr (has.0, λ minute. none minute e)

-- so does a lifting, which excludes no more
pub lifted_still : (members : List Object) (before after : List (Exclusion × Bool))
    (value : Exclusion) (own pool : List ObjectiveSums)
    → ((slo : List ℕ) (minute : ℕ) → is_excluded before slo minute
    ≡ (is_excluded after slo minute || excludes slo minute (value, true)))
    → (m : Measure) → IsObjective members m → HasSums before own pool m
    → HasSums after own pool m
lifted_still members before after value own pool lifts m is (inl has) = inl has
lifted_still members before after value own pool lifts m is (inr has) =
    inr (
      has.0,
      λ minute. by (is_excluded after m.slo minute) (excludes m.slo minute (value, true))
          (sym (lifts m.slo minute) ∙ has.1 minute),
    )
  where
    by : (b c : Bool) → (b || c) ≡ false → b ≡ false
    by true c e = e
    by false c e = refl

-- the same minutes of each SLO are excluded
abbrev pub ExcludeAlike : List (Exclusion × Bool) → List (Exclusion × Bool) → Type 0
ExcludeAlike made other =
    (slo : List ℕ) (minute : ℕ) → is_excluded made slo minute ≡ is_excluded other slo minute

-- so each row counts the same
same_counts : (m : Measure) (made other : List (Exclusion × Bool)) → ExcludeAlike made other →
    (row : Row) → row_counts m made row ≡ row_counts m other row
same_counts m made other alike row =
    ap (λ (b : Bool). if is_of m.sli row && not b then counts m.reading m.op m.value row.amount
    else no_counts) (alike m.slo row.minute)

same_shares : (m : Measure) (made other : List (Exclusion × Bool)) → ExcludeAlike made other →
    (rows : List Row) → shares_by (row_counts m made) rows ≡ shares_by (row_counts m other) rows
same_shares m made other alike [] = refl
same_shares m made other alike (row ∷ rows) = λ i.
    record { minute = row.minute; counts = same_counts m made other alike row i }
    ∷ same_shares m made other alike rows i

-- and the sums of each objective are kept over either exclusions
pub kept_alike : (made other : List (Exclusion × Bool)) (rows : List Row)
    (kept : List ObjectiveSums) → ExcludeAlike made other → AreKept made rows kept →
    AreKept other rows kept
kept_alike made other rows [] alike all = tt
kept_alike made other rows (k ∷ kept) alike all = (
  record {
    method = all.0.method;
    counted = subst (IsSumOf k.sums) (same_shares k.measure made other alike rows) all.0.counted;
    days = all.0.days;
  },
  kept_alike made other rows kept alike all.1,
)

-- A lifting gives back what the exclusion took: made anew, it excludes as before.
pub made_anew : (before after : List (Exclusion × Bool)) (value : Exclusion) →
    ((slo : List ℕ) (minute : ℕ) → is_excluded before slo minute
    ≡ (is_excluded after slo minute || excludes slo minute (value, true))) →
    ExcludeAlike before (after ++ (value, true) ∷ [])
made_anew before after value lifts slo minute =
    lifts slo minute
    ∙ ap (λ (b : Bool). is_excluded after slo minute || b)
    (sym (or_false (excludes slo minute (value, true))))
    ∙ sym (list_any-append (excludes slo minute) after ((value, true) ∷ []))
  where
    or_false : (b : Bool) → (b || false) ≡ b
    or_false true = refl
    or_false false = refl

-- the rows of an accepted batch have the forms that are read
pub batch_fits : (d : Derived) (o : Office) (m : ℕ) (rows : List Row) (tally : BatchTally)
    (becomes : Vec RowVerdict) → IsSound d → IsNext d o m (works.Samples rows tally becomes) →
    HaveForms rows d.sums.own
batch_fits d o m rows tally becomes s n =
    all_forms d.catalog false d.sums.own rows s.sums.own_only
    (each (IsGood d.origin m d.catalog) (RowIsRead d.catalog) (λ row g. g.read) rows
    (rows_good d o m rows tally becomes n))

pub batch_fits_pooled : (d : Derived) (o : Office) (m : ℕ) (rows : List Row) (tally : BatchTally)
    (becomes : Vec RowVerdict) → IsSound d → IsNext d o m (works.Samples rows tally becomes) →
    HaveForms rows d.sums.pooled
batch_fits_pooled d o m rows tally becomes s n =
    all_forms d.catalog true d.sums.pooled rows s.sums.pooled_only
    (each (IsGood d.origin m d.catalog) (RowIsRead d.catalog) (λ row g. g.read) rows
    (rows_good d o m rows tally becomes n))

pub kept_over : (made made' : List (Exclusion × Bool)) (rows rows' : List Row)
    (kept : List ObjectiveSums) → made' ≡ made → rows' ≡ rows → AreKept made rows kept →
    AreKept made' rows' kept
kept_over made made' rows rows' kept same still are =
    subst (λ (es : List (Exclusion × Bool)). AreKept es rows' kept) (sym same)
    (subst (λ (rs : List Row). AreKept made rs kept) (sym still) are)

-- the sums have followed a batch
pub batch_followed : (d d' : Derived) (o : Office) (m : ℕ) (rows : List Row) (tally : BatchTally)
    (becomes : Vec RowVerdict) → IsSound d → IsNext d o m (works.Samples rows tally becomes) →
    Reflects d' (with_entry o (entry_of m (works.Samples rows tally becomes))) →
    d'.catalog ≡ d.catalog → d'.book.exclusions ≡ d.book.exclusions →
    measures_of d'.sums.own ≡ measures_of d.sums.own →
    measures_of d'.sums.pooled ≡ measures_of d.sums.pooled →
    AreKept d.book.exclusions (current_rows (d.book.rows ++ rows)) d'.sums.own →
    AreKept [] (current_rows (d.book.rows ++ rows)) d'.sums.pooled →
    KeepsSums d'.catalog d'.book.exclusions d'.book.rows d'.sums
batch_followed d d' o m rows tally becomes s n r' catalog made own pool are pooled_are =
    let e = entry_of m (works.Samples rows tally becomes) in
    let came = rows_in o.history in
    let is : d'.book.rows ≡ current_rows (d.book.rows ++ rows) =
    r'.rows ∙ ap current_rows (rows_more o.history e) ∙ sym (current-append came rows)
    ∙ ap (λ (kept : List Row). current_rows (kept ++ rows)) (sym n.reflects.rows) in
    subst (λ (members : List Object). KeepsSums members d'.book.exclusions d'.book.rows
    d'.sums) (sym catalog)
    (subst (λ (made : List (Exclusion × Bool)). KeepsSums d.catalog made d'.book.rows d'.sums)
    (sym made)
    (subst (λ (rows : List Row). KeepsSums d.catalog d.book.exclusions rows d'.sums) (sym is)
    (still_sums d.catalog d.book.exclusions d.book.exclusions d.book.rows
    (current_rows (d.book.rows ++ rows)) d.sums d'.sums own pool are pooled_are
    (λ m is has. has) s.sums)))

-- the sums that were left have followed an exclusion or a lifting
pub change_followed : (d d' : Derived) (left : KeptObjectives) → IsSound d →
    d'.catalog ≡ d.catalog → d'.book.rows ≡ d.book.rows →
    AllByRecursion (λ (k : ObjectiveSums). IsLike d.catalog false k.measure) left.own →
    left.pooled ≡ d.sums.pooled → measures_of d'.sums.own ≡ measures_of left.own →
    d'.sums.pooled ≡ left.pooled → AreKept d'.book.exclusions d'.book.rows d'.sums.own →
    ((m : Measure) → IsObjective d.catalog m →
    HasSums d.book.exclusions d.sums.own d.sums.pooled m
    → HasSums d'.book.exclusions left.own left.pooled m) →
    KeepsSums d'.catalog d'.book.exclusions d'.book.rows d'.sums
change_followed d d' left s catalog rows only stays own pool are still =
    subst (λ (members : List Object). KeepsSums members d'.book.exclusions d'.book.rows
    d'.sums) (sym catalog)
    (followed_sums d.catalog d'.book.exclusions d'.book.rows left d'.sums only
    (subst (AllByRecursion (λ (k : ObjectiveSums). IsLike d.catalog true k.measure)) (sym stays)
    s.sums.pooled_only)
    own (ap measures_of pool) are
    (subst (AreKept [] d'.book.rows) (sym (pool ∙ stays))
    (kept_over [] [] d.book.rows d'.book.rows d.sums.pooled refl rows s.sums.pooled))
    (λ m is. still m is (s.sums.all m is)))

-- more days leave them as they are
pub days_made : (members : List Object) (made made' : List (Exclusion × Bool))
    (rows rows' : List Row) (old new : KeptObjectives) → made' ≡ made → rows' ≡ rows →
    measures_of new.own ≡ measures_of old.own → measures_of new.pooled ≡ measures_of old.pooled →
    (AreKept made rows old.own → AreKept made rows new.own) →
    (AreKept [] rows old.pooled → AreKept [] rows new.pooled) →
    KeepsSums members made rows old → KeepsSums members made' rows' new
days_made members made made' rows rows' old new exclusions still own pool are pooled_are keeps =
    still_sums members made made' rows rows' old new own pool
    (kept_over made made' rows rows' new.own exclusions still (are keeps.own))
    (kept_over [] [] rows rows' new.pooled refl still (pooled_are keeps.pooled))
    (λ m is has. subst (λ (es : List (Exclusion × Bool)). HasSums es old.own old.pooled m)
    (sym exclusions) has) keeps
