-- The moves of an office that was made by moves are these moves; and its exclusions count alike.
use Rattle.std.proofs.Common.{◌≡◌, ℕ, ◌*◌, ◌-◌, Bool, true, false, ◌&&◌, ◌||◌, cond, List, [], ◌∷◌}
use Rattle.std.proofs.Common.{◌++◌}
use Rattle.std.proofs.Common.{map, filter, refl, sym, ap, ◌∙◌, Ordering, Less, Equal, Greater}
use Rattle.std.proofs.Common.{nat_cmp, is_some, flat_map, bytes_eq, nat_le, nat_lt}
use Rattle.std.specs.List.{AllByRecursion}
use Rattle.std.specs.Ordering.{match_ordering, ordering_reverse}
use Rattle.std.specs.Cmp.Lexicographic.{slice_cmp}
use Rattle.std.proofs.lemmas.Cmp.{nat_list_cmp_total}
use Rattle.std.proofs.lemmas.Slice.Eq.{bytes_eq-Decides}
use Rattle.object_terms.specs.declared.Object.{Object}
use Rattle.sample_book.specs.declared.Exclusion.{Exclusion}
use Rattle.sample_book.specs.Exclusions.{excludes, is_excluded}
use Rattle.sample_book.specs.Counting.{counts_of_minute}
use Rattle.record_form.specs.declared.Command.TheVariants.{Samples}
use Rattle.office_history.specs.declared.Measure.{Measure}
use Rattle.office_history.specs.Catalog.{catalog_in}
use Rattle.office_history.specs.History.{Office, current_in, exclusions_in}
use Rattle.office_history.specs.Objectives.{slo_named}
use Rattle.office_history.specs.Versions.{is_upgraded}
use Rattle.office_history.specs.Zones.{zones_in}
use Rattle.export_terms.specs.Zones.{with_zone, zones_by_name}
use Rattle.export_terms.specs.Moves.{moves, of_members, zone_move}
use Rattle.export_terms.specs.Moves.{definition, in_order, export_kinds, exclusion_moves, upgrades}
use Rattle.export_terms.specs.Parts.{in_thousands}
use Rattle.office_history.specs.Counts as counting
use Rattle.export_laws.specs.Replay.{IsEqualOffice}
use Rattle.office_history.specs.Notices.{samples_in}
use Rattle.export_laws.specs.Alike.{SameSums, SameAlerts, SameStates}
use Rattle.burn_core.specs.Alert.{lookback_of, wait_of}
use Rattle.burn_core.specs.Condition.{condition}
use Rattle.burn_core.specs.Timeline.{is_active, state_of}
use Rattle.window_sums.specs.Slices.{width_of}
use Rattle.slice_method.specs.Leaves.{leaf}
use Rattle.slo_terms.specs.Sums.{sum_over, sum_of_slices}

abbrev Zones : Type 0
Zones = List (List ℕ × List ℕ)

-- none of them comes before a zone
abbrev pub NoneBefore : List ℕ × List ℕ → Zones → Type 0
NoneBefore z zs =
    AllByRecursion (λ (y : List ℕ × List ℕ). (slice_cmp nat_cmp z.0 y.0 ≡ Greater) → ⊥) zs

abbrev pub AreByName : Zones → Type 0
AreByName [] = Unit {0}
AreByName (z ∷ zs) = NoneBefore z zs × AreByName zs

first_put : (z : List ℕ × List ℕ) (zs : Zones) → NoneBefore z zs → with_zone z zs ≡ z ∷ zs
first_put z [] h = refl
first_put z (y ∷ ys) h = by (slice_cmp nat_cmp z.0 y.0) refl
  where
    by : (r : Ordering) → slice_cmp nat_cmp z.0 y.0 ≡ r
        → match_ordering r (z ∷ y ∷ ys) (z ∷ y ∷ ys) (y ∷ with_zone z ys) ≡ z ∷ y ∷ ys
    by Less e = refl
    by Equal e = refl
    by Greater e = absurd (h.0 e)

pub again_by_name : (zs : Zones) → AreByName zs → zones_by_name zs ≡ zs
again_by_name [] h = refl
again_by_name (z ∷ zs) h = ap (with_zone z) (again_by_name zs h.1) ∙ first_put z zs h.0

none_put : (y z : List ℕ × List ℕ) (zs : Zones)
    → ((slice_cmp nat_cmp y.0 z.0 ≡ Greater) → ⊥) → NoneBefore y zs → NoneBefore y (with_zone z zs)
none_put y z [] h k = (h, tt)
none_put y z (x ∷ xs) h k = by (slice_cmp nat_cmp z.0 x.0) (none_put y z xs h k.1)
  where
    by : (r : Ordering) → NoneBefore y (with_zone z xs)
        → NoneBefore y (match_ordering r (z ∷ x ∷ xs) (z ∷ x ∷ xs) (x ∷ with_zone z xs))
    by Less more = (h, k)
    by Equal more = (h, k)
    by Greater more = (k.0, more)

-- what comes behind the one comes behind all that come before it
all_behind : (z y : List ℕ × List ℕ) (ys : Zones) → ((slice_cmp nat_cmp z.0 y.0 ≡ Greater) → ⊥)
    → NoneBefore y ys → NoneBefore z ys
all_behind z y [] h k = tt
all_behind z y (x ∷ xs) h k = (between, all_behind z y xs h k.1)
  where
    below : slice_cmp nat_cmp z.0 x.0 ≡ Greater → slice_cmp nat_cmp x.0 z.0 ≡ Less
    below e = nat_list_cmp_total.antisymm x.0 z.0 ∙ ap ordering_reverse e

    by : (r : Ordering) → slice_cmp nat_cmp z.0 y.0 ≡ r → slice_cmp nat_cmp z.0 x.0 ≡ Greater → ⊥
    by Less f e = k.0 (nat_list_cmp_total.antisymm y.0 x.0
        ∙ ap ordering_reverse (nat_list_cmp_total.trans x.0 z.0 y.0 (below e) f))
    by Equal f e = k.0 (sym (nat_list_cmp_total.congr z.0 y.0 x.0 f) ∙ e)
    by Greater f e = h f

    between : (slice_cmp nat_cmp z.0 x.0 ≡ Greater) → ⊥
    between e = by (slice_cmp nat_cmp z.0 y.0) refl e

by_name_put : (z : List ℕ × List ℕ) (zs : Zones) → AreByName zs → AreByName (with_zone z zs)
by_name_put z [] h = (tt, tt)
by_name_put z (y ∷ ys) h = by (slice_cmp nat_cmp z.0 y.0) refl (by_name_put z ys h.1)
  where
    not_greater : (r : Ordering) → slice_cmp nat_cmp z.0 y.0 ≡ r → (r ≡ Greater → ⊥)
        → (slice_cmp nat_cmp z.0 y.0 ≡ Greater) → ⊥
    not_greater r e n g = n (sym e ∙ g)

    less_greater : Less ≡ Greater → ⊥
    less_greater f = cc f

    back : slice_cmp nat_cmp z.0 y.0 ≡ Greater → (slice_cmp nat_cmp y.0 z.0 ≡ Greater) → ⊥
    back e g = less_greater (sym (nat_list_cmp_total.antisymm y.0 z.0 ∙ ap ordering_reverse e) ∙ g)

    by : (r : Ordering) → slice_cmp nat_cmp z.0 y.0 ≡ r → AreByName (with_zone z ys)
        → AreByName (match_ordering r (z ∷ y ∷ ys) (z ∷ y ∷ ys) (y ∷ with_zone z ys))
    by Less e more = (
      (not_greater Less e (λ f. cc f), all_behind z y ys (not_greater Less e (λ f. cc f)) h.0),
      h,
    )
    by Equal e more = (
      (not_greater Equal e (λ f. cc f), all_behind z y ys (not_greater Equal e (λ f. cc f)) h.0),
      h,
    )
    by Greater e more = (none_put y z ys (back e) h.0, more)

pub are_by_name : (zs : Zones) → AreByName (zones_by_name zs)
are_by_name [] = tt
are_by_name (z ∷ zs) = by_name_put z (zones_by_name zs) (are_by_name zs)

-- EXCLUSIONS

again_filtered : {A : Type 0} (p : A → Bool) (xs : List A) → filter p (filter p xs) ≡ filter p xs
again_filtered p [] = refl
again_filtered p (x ∷ xs) = by (p x) refl (again_filtered p xs)
  where
    by : (b : Bool) → p x ≡ b → filter p (filter p xs) ≡ filter p xs
        → filter p (cond b (x ∷ filter p xs) (filter p xs)) ≡ cond b (x ∷ filter p xs) (filter p xs)
    by true e more = ap (λ c. cond c (x ∷ filter p (filter p xs)) (filter p (filter p xs))) e
        ∙ ap (λ ys. x ∷ ys) more
    by false e more = more

-- the moves of an equal office
pub same_moves : (old new : Office) → IsEqualOffice old new → moves new ≡ moves old
same_moves old new e =
    (λ i. upgrades (e.version i) ++ (map zone_move (zones_by_name (e.zones i))
    ++ (map definition (in_order (e.catalog i) export_kinds)
    ++ (map Samples (in_thousands (e.rows i))
    ++ flat_map exclusion_moves (of_members (e.catalog i) (e.exclusions i))))))
    ∙ (λ i. upgrades (is_upgraded old.history) ++ (map zone_move
    (again_by_name (zones_by_name (zones_in old.history)) (are_by_name (zones_in old.history)) i)
    ++ (map definition (in_order (catalog_in old.history) export_kinds)
    ++ (map Samples (in_thousands (current_in old.history))
    ++ flat_map exclusion_moves
    (again_filtered (λ (kept : Exclusion × Bool). is_some (slo_named (catalog_in old.history)
    kept.0.slo)) (exclusions_in old.history) i)))))

-- COUNTS

excluded_alike : (members : List Object) (slo : List ℕ) (minute : ℕ)
    (made : List (Exclusion × Bool)) → is_some (slo_named members slo) ≡ true
    → is_excluded (of_members members made) slo minute ≡ is_excluded made slo minute
excluded_alike members slo minute [] there = refl
excluded_alike members slo minute (k ∷ ks) there =
    by (is_some (slo_named members k.0.slo)) refl (excluded_alike members slo minute ks there)
  where
    other : is_some (slo_named members k.0.slo) ≡ false → (b : Bool) → bytes_eq k.0.slo slo ≡ b
        → b ≡ false
    other e false f = refl
    other e true f = cc (sym e ∙ ap (λ n. is_some (slo_named members n))
        ((bytes_eq-Decides k.0.slo slo).0 f) ∙ there)

    never : (live b c d : Bool) → b ≡ false → live && b && c && d ≡ false
    never true b c d e = ap (λ a. a && c && d) e
    never false b c d e = refl

    by : (b : Bool) → is_some (slo_named members k.0.slo) ≡ b
        → is_excluded (of_members members ks) slo minute ≡ is_excluded ks slo minute
        → is_excluded (cond b (k ∷ of_members members ks) (of_members members ks)) slo minute
        ≡ (excludes slo minute k || is_excluded ks slo minute)
    by true e more = ap (λ b. excludes slo minute k || b) more
    by false e more = more ∙ ap (λ b. b || is_excluded ks slo minute)
        (sym (never k.1 (bytes_eq k.0.slo slo) (nat_le k.0.from minute) (nat_lt minute k.0.to)
        (other e (bytes_eq k.0.slo slo) refl)))

-- each minute counts alike in an objective of an SLO of the catalog
pub counts_alike : (old new : Office) → IsEqualOffice old new → (m : Measure) (minute : ℕ)
    → is_some (slo_named (catalog_in old.history) m.slo) ≡ true
    → counting.counts_at (record {
      rows = current_in new.history;
      exclusions = exclusions_in new.history;
    }) m minute
    ≡ counting.counts_at (record {
      rows = current_in old.history;
      exclusions = exclusions_in old.history;
    }) m minute
counts_alike old new e m minute there =
    (λ i. counting.counts_at (record { rows = e.rows i; exclusions = e.exclusions i }) m minute)
    ∙ ap (λ b. cond b (record { good = 0; total = 0 })
    (counts_of_minute m.reading m.op m.value (current_in old.history) m.sli minute))
    (excluded_alike (catalog_in old.history) m.slo minute (exclusions_in old.history) there)

-- so does each slice, and all that is said over slices
leaves_alike : (old new : Office) → IsEqualOffice old new → (m : Measure)
    → is_some (slo_named (catalog_in old.history) m.slo) ≡ true
    → counting.leaf_at (samples_in new.history) m ≡ counting.leaf_at (samples_in old.history) m
leaves_alike old new e m there = λ i slice. leaf m.method (record {
  good = sum_over (λ minute. (counts_alike old new e m minute there i).good)
      (slice * width_of m.method) (width_of m.method);
  total = sum_over (λ minute. (counts_alike old new e m minute there i).total)
      (slice * width_of m.method) (width_of m.method);
})

pub same_sums : SameSums
same_sums old new m from to e there =
    λ i. sum_of_slices (width_of m.method) (leaves_alike old new e m there i) from to

pub same_alerts : SameAlerts
same_alerts old new w minute e there =
    λ i. is_active (wait_of w.rule) (λ at. condition w.rule w.measure.target (e.origin i)
    (width_of w.measure.method) (leaves_alike old new e w.measure there i) at) minute

pub same_states : SameStates
same_states old new w minute e there =
    λ i. state_of (same_alerts old new w minute e there i)
    (same_sums old new w.measure (minute - lookback_of w.rule) minute e there i).den
