-- What a table makes of a civil moment depends on the table's text and the moment's second alone.
use Rattle.std.proofs.Common.{◌≡◌, ℕ, ◌-◌, ◌<◌, ◌≤◌, ℤ, Bool, true, false, cond, nat_eq, int_le}
use Rattle.std.proofs.Common.{int_lt, List, [], ◌∷◌, length, map, vec_len, Option, Some, None}
use Rattle.std.proofs.Common.{option_map, refl, sym, ap, ◌∙◌, arith}
use Rattle.std.specs.List.{prefix_len}
use Rattle.std.proofs.lemmas.Bool.Decides.{nat_tests}
use Rattle.std.proofs.lemmas.List.{get_or-map, length-map}
use Rattle.std.proofs.lemmas.List.Sums.{prefix_len-le-length}
use Rattle.jiff_core.specs.DateTime.{civil_seconds}
use Rattle.jiff_core.specs.declared.civil.datetime.DateTime.{DateTime}
use Rattle.jiff_tz.specs.declared.ambiguous.AmbiguousOffset.{AmbiguousOffset}
use Rattle.jiff_tz.specs.declared.ambiguous.AmbiguousOffset.TheVariants.{Unambiguous}
use Rattle.jiff_tz.specs.declared.posix.TimeZone.{TimeZone}
use Rattle.jiff_tz.specs.declared.tzif.Tzif.{Tzif}
use Rattle.jiff_tz.specs.declared.tzif.transition.LocalTimeType.{LocalTimeType}
use Rattle.jiff_tz.specs.declared.tzif.transition.Transition.{Transition}
use Rattle.jiff_tz.specs.PosixRule as Posix
use Rattle.jiff_tz.specs.PosixRule.{match_some}
use Rattle.jiff_tz.specs.PosixText.{tz_view}
use Rattle.jiff_tz.specs.Tzif.{tzif_view, no_transition, transition_at, offsets_in, ambiguous_at}
use Rattle.jiff_tz.specs.Tzif.{civil_count_at, is_inside, ambiguous_after, rule_after}
use Rattle.jiff_tz.specs.TzifText.{TransitionText, transition_text, civil_start, civil_end, no_row}
use Rattle.zone_calendar.specs.Kind.{reading_of}
use Rattle.zone_calendar.specs.Zone.{Reading, Once, change_at, change_reading, rule_reading}
use Rattle.zone_calendar.specs.Zone.{table_reading, table_reading_by}
use Rattle.zone_calendar.proofs.RuleLemmas.{reading_of-cond, ambiguous_at-rule}

prefix_len-map : {A B : Type 0} (p : B → Bool) (f : A → B) (xs : List A)
    → prefix_len p (map f xs) ≡ prefix_len (λ x. p (f x)) xs
prefix_len-map p f [] = refl
prefix_len-map p f (x ∷ xs) = simp (prefix_len-map p f xs)

rule-cond : (b : Bool) (rule : Option TimeZone)
    → option_map tz_view (cond b rule None) ≡ cond b (option_map tz_view rule) None
rule-cond true rule = refl
rule-cond false rule = refl

same_length : (z : Tzif) → vec_len z.transitions ≡ length z.transitions.items
same_length z = omega arith

below_count : (count most : ℕ) → nat_eq count 0 ≡ false → count ≤ most → count - 1 < most
below_count count most some le = grind (arith, nat_tests)

-- the row at a place of the table
same_row : (z : Tzif) (place : ℕ) → place < length z.transitions.items → transition_text
    (transition_at z place) ≡ change_at (map transition_text z.transitions.items) place
same_row z place below =
    sym (get_or-map transition_text z.transitions.items place (no_transition z) no_row below)

-- past the table's end its rule holds, or its last offset
past : (rule : Option TimeZone) (type : LocalTimeType) (seconds : ℤ) (moment : DateTime)
    → moment.time.subsec_nanosecond ≡ 0 → type.offset.seconds ≡ seconds
    → reading_of (match_some rule (Unambiguous type.offset) (λ tz. Posix.ambiguous_at tz moment))
    ≡ match_some (option_map tz_view rule) (Once seconds)
    (λ text. rule_reading text (civil_seconds moment))
past None type seconds moment whole same = ap Once same
past (Some rule) type seconds moment whole same = ambiguous_at-rule rule moment whole

chosen : (b : Bool) (x y : AmbiguousOffset) (p q : Reading) → reading_of x ≡ p → reading_of y ≡ q
    → reading_of (cond b x y) ≡ cond b p q
chosen true x y p q e f = e
chosen false x y p q e f = f

-- within a change
during : (t : Transition) → reading_of (offsets_in t) ≡ change_reading (transition_text t)
during t = simp reading_of-cond

-- `none_yet` says that no change has begun; else the last one that has is at hand
by_last : (none_yet : Bool) (first : LocalTimeType) (t : Transition) (row : TransitionText)
    (rule : Option TimeZone) (moment : DateTime) → moment.time.subsec_nanosecond ≡ 0 →
    (none_yet ≡ false → transition_text t ≡ row) →
    reading_of (cond (cond none_yet false (int_lt
    (civil_seconds moment) (civil_end (transition_text t)))) (offsets_in t) (match_some rule
    (Unambiguous (cond none_yet first t.after).offset) (λ tz. Posix.ambiguous_at tz moment)))
    ≡ cond (cond none_yet false (int_lt (civil_seconds moment) (civil_end row)))
    (change_reading row) (match_some (option_map tz_view rule)
    (Once (cond none_yet first.offset.seconds row.after.seconds))
    (λ text. rule_reading text (civil_seconds moment)))
by_last true first t row rule moment whole same = past rule first _ moment whole refl
by_last false first t row rule moment whole same =
    rw (← same refl) (chosen (int_lt (civil_seconds moment) (civil_end (transition_text t))) _ _ _ _
    (during t) (past rule t.after _ moment whole refl))

by_count : (z : Tzif) (count : ℕ) (moment : DateTime) → moment.time.subsec_nanosecond ≡ 0 →
    count ≤ length z.transitions.items →
    reading_of (cond (is_inside z count (civil_seconds moment))
    (offsets_in (transition_at z (count - 1))) (ambiguous_after z count moment))
    ≡ table_reading_by (tzif_view z) count (civil_seconds moment)
by_count z count moment whole le =
    let rows : vec_len z.transitions ≡ length (map transition_text z.transitions.items) =
    same_length z ∙ sym (length-map z.transitions.items transition_text) in
    by_last (nat_eq count 0) z.first (transition_at z (count - 1)) _ (rule_after z count) moment
    whole (λ some. same_row z (count - 1) (below_count count _ some le))
    ∙ rw (rule-cond (nat_eq count (vec_len z.transitions)) z.posix_tz, rows) refl

-- what jiff's table answers is what its text says
pub ambiguous_at-table : (z : Tzif) (moment : DateTime) → moment.time.subsec_nanosecond ≡ 0
    → reading_of (ambiguous_at z moment) ≡ table_reading (tzif_view z) (civil_seconds moment)
ambiguous_at-table z moment whole =
    by_count z (civil_count_at z (civil_seconds moment)) moment whole (prefix_len-le-length _ _)
    ∙ ap (λ count. table_reading_by (tzif_view z) count (civil_seconds moment))
    (sym (prefix_len-map (λ row. int_le (civil_start row) (civil_seconds moment))
    transition_text z.transitions.items))
