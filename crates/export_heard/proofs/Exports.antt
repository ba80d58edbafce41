-- The requests of an export have records.
use Rattle.std.proofs.Common.{◌≡◌, ◌≤◌, ◌*◌, ◌-◌, ℕ, zero, suc, Bool, true, false, cond, not}
use Rattle.std.proofs.Common.{List}
use Rattle.std.proofs.Common.{[], ◌∷◌, ◌++◌, length, take, drop, map, filter, fold, Option, Some}
use Rattle.std.proofs.Common.{None, option_map, nat_lt, refl, arith, length-take}
use Rattle.std.proofs.Common.{bytes_eq, if◌then◌else◌, is_some}
use Rattle.std.specs.List.{AllByRecursion, find, flat_map, list_any}
use Rattle.std.proofs.lemmas.Bool.{ltb-false}
use Rattle.slo_limits.specs.declared.TheConstants.{MAX_TEXT_BYTES, MAX_ZONE_BYTES}
use Rattle.yaml_terms.specs.Spelling.{writing}
use Rattle.exact_fraction.specs.ZoneName.{is_zone_name}
use Rattle.object_terms.specs.declared.Object.{Object}
use Rattle.object_terms.specs.Document.{written}
use Rattle.slo_terms.specs.Rows.{first_of_each, newer, newest}
use Rattle.sample_book.specs.declared.Exclusion.{Exclusion}
use Rattle.sample_book.specs.declared.Row.{Row}
use Rattle.sample_book.specs.Exclusions.{Change, Excluded, Lifted, excluded_in, lifted_in}
use Rattle.sample_book.specs.Rows.{current_rows, same_cell}
use Rattle.record_form.specs.declared.Command.{Command}
use Rattle.record_form.specs.declared.Command.TheVariants.{Define, Remove, PutZone, Samples}
use Rattle.record_form.specs.declared.Command.TheVariants.{Exclude, Lift, Tick, Take, Upgrade}
use Rattle.record_form.specs.declared.Entry.{Entry}
use Rattle.record_form.specs.Ranges.{Fits, FitsExclusion, FitsRecord, FitsRow}
use Rattle.office_history.specs.Catalog.{catalog_in}
use Rattle.office_history.specs.History.{changes_in, changes_of, current_in, exclusions_in, rows_in}
use Rattle.office_history.specs.History.{rows_of}
use Rattle.office_history.specs.Objectives.{slo_named}
use Rattle.office_history.specs.Versions.{is_upgraded}
use Rattle.office_history.specs.Zones.{zones_in, zones_of}
use Rattle.export_terms.specs.Moves.{definition, exclusion_moves, export_kinds, in_order, moves}
use Rattle.export_terms.specs.Moves.{of_members, upgrades, zone_move}
use Rattle.export_terms.specs.Parts.{in_thousands, part_of, parts_within}
use Rattle.export_terms.specs.Sizes.{first_too_large, is_too_large, kind_and_name}
use Rattle.export_terms.specs.Zones.{zones_by_name}
use Rattle.export_terms.proofs.ZoneLemmas.{all_by_name, all_joined}
use Rattle.export_heard.specs.Laws.{ChangesAreHeard, PartsAreHeard}

-- LISTS

all_taken : {A : Type 0} (P : A → Type 0) (n : ℕ) (xs : List A) → AllByRecursion P xs
    → AllByRecursion P (take n xs)
all_taken P zero xs h = tt
all_taken P (suc n) [] h = tt
all_taken P (suc n) (x ∷ xs) h = (h.0, all_taken P n xs h.1)

all_dropped : {A : Type 0} (P : A → Type 0) (n : ℕ) (xs : List A) → AllByRecursion P xs
    → AllByRecursion P (drop n xs)
all_dropped P zero xs h = h
all_dropped P (suc n) [] h = tt
all_dropped P (suc n) (x ∷ xs) h = all_dropped P n xs h.1

all_filtered : {A : Type 0} (P : A → Type 0) (test : A → Bool) (xs : List A) → AllByRecursion P xs
    → AllByRecursion P (filter test xs)
all_filtered P test [] h = tt
all_filtered P test (x ∷ xs) h = by (test x) (all_filtered P test xs h.1)
  where
    by : (b : Bool) → AllByRecursion P (filter test xs)
        → AllByRecursion P (cond b (x ∷ filter test xs) (filter test xs))
    by true rest = (h.0, rest)
    by false rest = rest

-- what holds of what each item gives
all_mapped : {A B : Type 0} (P : A → Type 0) (Q : B → Type 0) (f : A → B)
    → ((x : A) → P x → Q (f x)) → (xs : List A) → AllByRecursion P xs → AllByRecursion Q (map f xs)
all_mapped P Q f each [] h = tt
all_mapped P Q f each (x ∷ xs) h = (each x h.0, all_mapped P Q f each xs h.1)

all_flat : {A B : Type 0} (P : A → Type 0) (Q : B → Type 0) (f : A → List B)
    → ((x : A) → P x → AllByRecursion Q (f x)) → (xs : List A) → AllByRecursion P xs
    → AllByRecursion Q (flat_map f xs)
all_flat P Q f each [] h = tt
all_flat P Q f each (x ∷ xs) h =
    all_joined Q (f x) (flat_map f xs) (each x h.0) (all_flat P Q f each xs h.1)

-- what is found nowhere holds of none
none_passes : {A : Type 0} (test : A → Bool) (xs : List A) → find test xs ≡ None
    → AllByRecursion (λ x. test x ≡ false) xs
none_passes test [] h = tt
none_passes test (x ∷ xs) h = by (test x) refl h (none_passes test xs)
  where
    by : (b : Bool) → test x ≡ b → cond b (Some x) (find test xs) ≡ None
        → (find test xs ≡ None → AllByRecursion (λ y. test y ≡ false) xs)
        → AllByRecursion (λ y. test y ≡ false) (x ∷ xs)
    by true e g rest = absurd (cc g)
    by false e g rest = (e, rest g)

-- ZONES

abbrev ZoneFits : List ℕ × List ℕ → Type 0
ZoneFits z = (is_zone_name z.0 ≡ true) × (length z.1 ≤ MAX_ZONE_BYTES)

zone_fits : (e : Entry) → FitsRecord e → AllByRecursion ZoneFits (zones_of e.command)
zone_fits e fits = by e.command fits.command
  where
    by : (c : Command) → Fits c → AllByRecursion ZoneFits (zones_of c)
    by (Define text) h = tt
    by (Remove kind name) h = tt
    by (PutZone name bytes) h = (h, tt)
    by (Samples rows) h = tt
    by (Exclude x) h = tt
    by (Lift id) h = tt
    by Tick h = tt
    by (Take number) h = tt
    by Upgrade h = tt

zones_fit : (h : List Entry) → AllByRecursion FitsRecord h
    → AllByRecursion Fits (map zone_move (zones_by_name (zones_in h)))
zones_fit h fits =
    all_mapped ZoneFits Fits zone_move (λ z is. is) (zones_by_name (zones_in h))
    (all_by_name ZoneFits (zones_in h)
    (all_flat FitsRecord ZoneFits (λ (e : Entry). zones_of e.command) zone_fits h fits))

-- OBJECTS

none_mapped : {A B : Type 0} (f : A → B) (o : Option A) → option_map f o ≡ None → o ≡ None
none_mapped f None h = refl
none_mapped f (Some x) h = absurd (cc h)

objects_fit : (members : List Object) → first_too_large members ≡ None
    → AllByRecursion Fits (map definition (in_order members export_kinds))
objects_fit members none =
    let all = in_order members export_kinds in
    all_mapped (λ (o : Object). is_too_large o ≡ false) Fits definition
    (λ o small. ltb-false MAX_TEXT_BYTES (length (writing 0 (written o))) small) all
    (none_passes is_too_large all (none_mapped kind_and_name (find is_too_large all) none))

-- ROWS

row_fits : (e : Entry) → FitsRecord e → AllByRecursion FitsRow (rows_of e.command)
row_fits e fits = by e.command fits.command
  where
    by : (c : Command) → Fits c → AllByRecursion FitsRow (rows_of c)
    by (Define text) h = tt
    by (Remove kind name) h = tt
    by (PutZone name bytes) h = tt
    by (Samples rows) h = h.1
    by (Exclude x) h = tt
    by (Lift id) h = tt
    by Tick h = tt
    by (Take number) h = tt
    by Upgrade h = tt

all_first : (P : Row → Type 0) (rows : List Row) → AllByRecursion P rows
    → AllByRecursion P (first_of_each same_cell rows)
all_first P [] h = tt
all_first P (r ∷ rows) h = (
  h.0,
  all_filtered P (λ later. not (same_cell r later)) (first_of_each same_cell rows)
      (all_first P rows h.1),
)

newer_holds : (P : Row → Type 0) (row : Row) (rows : List Row) → P row → AllByRecursion P rows
    → P (fold (newer (λ (r : Row). r.revision)) row rows)
newer_holds P row [] p h = p
newer_holds P row (r ∷ rows) p h =
    newer_holds P (newer (λ (r : Row). r.revision) row r) rows
    (by (nat_lt row.revision r.revision)) h.1
  where
    by : (b : Bool) → P (if b then r else row)
    by true = h.0
    by false = p

-- what holds of all rows holds of the current ones
all_current : (P : Row → Type 0) (rows : List Row) → AllByRecursion P rows
    → AllByRecursion P (current_rows rows)
all_current P rows h =
    all_mapped P P (newest same_cell (λ (r : Row). r.revision) rows)
    (λ row p. newer_holds P row (filter (same_cell row) rows) p
    (all_filtered P (same_cell row) rows h)) (first_of_each same_cell rows) (all_first P rows h)

taken_few : (n : ℕ) (rows : List Row) → length (take n rows) ≤ n
taken_few n rows = omega (arith, length-take n rows)

batches_within : (fuel : ℕ) (rows : List Row) → AllByRecursion FitsRow rows
    → AllByRecursion Fits (map Samples (parts_within fuel 1000 rows))
batches_within zero rows h = tt
batches_within (suc fuel) [] h = tt
batches_within (suc fuel) (r ∷ rows) h = (
  (
    taken_few 1000 (r ∷ rows),
    all_taken FitsRow 1000 (r ∷ rows) h,
  ),
  batches_within fuel (drop 1000 (r ∷ rows)) (all_dropped FitsRow 1000 (r ∷ rows) h),
)

rows_fit : (h : List Entry) → AllByRecursion FitsRecord h
    → AllByRecursion Fits (map Samples (in_thousands (current_in h)))
rows_fit h fits =
    batches_within (length (current_in h)) (current_in h)
    (all_current FitsRow (rows_in h)
    (all_flat FitsRecord FitsRow (λ (e : Entry). rows_of e.command) row_fits h fits))

-- EXCLUSIONS

abbrev ChangeFits : Change → Type 0
ChangeFits (Excluded x) = FitsExclusion x
ChangeFits (Lifted id) = Unit {0}

change_fits : (e : Entry) → FitsRecord e → AllByRecursion ChangeFits (changes_of e.command)
change_fits e fits = by e.command fits.command
  where
    by : (c : Command) → Fits c → AllByRecursion ChangeFits (changes_of c)
    by (Define text) h = tt
    by (Remove kind name) h = tt
    by (PutZone name bytes) h = tt
    by (Samples rows) h = tt
    by (Exclude x) h = (h, tt)
    by (Lift id) h = (tt, tt)
    by Tick h = tt
    by (Take number) h = tt
    by Upgrade h = tt

all_excluded : (changes : List Change) → AllByRecursion ChangeFits changes
    → AllByRecursion FitsExclusion (excluded_in changes)
all_excluded [] h = tt
all_excluded (Excluded x ∷ changes) h = (h.0, all_excluded changes h.1)
all_excluded (Lifted id ∷ changes) h = all_excluded changes h.1

abbrev KeptFits : Exclusion × Bool → Type 0
KeptFits kept = FitsExclusion kept.0

moves_fit : (kept : Exclusion × Bool) → KeptFits kept → AllByRecursion Fits (exclusion_moves kept)
moves_fit kept fits = (fits, by kept.1)
  where
    by : (b : Bool) → AllByRecursion Fits (cond b [] (Lift kept.0.id ∷ []))
    by true = tt
    by false = (fits.id, tt)

exclusions_fit : (h : List Entry) → AllByRecursion FitsRecord h
    → AllByRecursion Fits
    (flat_map exclusion_moves (of_members (catalog_in h) (exclusions_in h)))
exclusions_fit h fits =
    all_flat KeptFits Fits exclusion_moves moves_fit (of_members (catalog_in h) (exclusions_in h))
    (all_filtered KeptFits
    (λ (kept : Exclusion × Bool). is_some (slo_named (catalog_in h) kept.0.slo)) (exclusions_in h)
    (all_mapped FitsExclusion KeptFits (λ (x : Exclusion). (
      x,
      not (list_any (bytes_eq x.id)
          (lifted_in (changes_in h))),
    )) (λ x is. is) (excluded_in (changes_in h))
    (all_excluded (changes_in h)
    (all_flat FitsRecord ChangeFits (λ (e : Entry). changes_of e.command) change_fits h fits))))

-- ALL OF THEM

upgrade_fits : (upgraded : Bool) → AllByRecursion Fits (upgrades upgraded)
upgrade_fits true = (tt, tt)
upgrade_fits false = tt

all_fit : (h : List Entry) (origin : ℕ) → AllByRecursion FitsRecord h
    → first_too_large (catalog_in h) ≡ None
    → AllByRecursion Fits (moves (record { origin = origin; history = h }))
all_fit h origin fits none =
    let zones = map zone_move (zones_by_name (zones_in h)) in
    let objects = map definition (in_order (catalog_in h) export_kinds) in
    let batches = map Samples (in_thousands (current_in h)) in
    let others = flat_map exclusion_moves (of_members (catalog_in h) (exclusions_in h)) in
    all_joined Fits (upgrades (is_upgraded h)) (zones ++ (objects ++ (batches ++ others)))
    (upgrade_fits (is_upgraded h))
    (all_joined Fits zones (objects ++ (batches ++ others)) (zones_fit h fits)
    (all_joined Fits objects (batches ++ others) (objects_fit (catalog_in h) none)
    (all_joined Fits batches others (rows_fit h fits) (exclusions_fit h fits))))

-- The bytes of each part are heard as its requests.
pub parts_heard : ChangesAreHeard → PartsAreHeard
parts_heard heard o part fits none =
    heard (part_of part (moves o))
    (all_taken Fits 1000 (drop (1000 * (part - 1)) (moves o))
    (all_dropped Fits (1000 * (part - 1)) (moves o) (all_fit o.history o.origin fits none)))
