-- A line that knows nothing from the earliest row of a batch on.
use Rattle.std.proofs.Common.{◌≡◌, ◌⊎◌, ℕ, ◌+◌, ◌*◌, ◌/◌, ◌≤◌, ◌<◌, nat_le, nat_lt, min}
use Rattle.std.proofs.Common.{Bool, true, false, Option, Some, None, inl, inr, refl, arith, sym}
use Rattle.std.proofs.Common.{◌∙◌, List, slice_get, subst, take}
use Rattle.std.proofs.Math.Nat.{div-add-mod'}
use Rattle.std.proofs.lemmas.Nat.{mod_below}
use Rattle.std.proofs.lemmas.Bool.{and_parts}
use Rattle.std.proofs.lemmas.Bool.Decides.{leb_tells, nat_tests}
use Rattle.std.specs.List.{AllByRecursion}
use Rattle.sample_book.specs.declared.Row.{Row}
use Rattle.sample_book.specs.declared.RowVerdict.{RowVerdict}
use Rattle.burn_core.specs.Alert.{reach_of}
use Rattle.window_sums.specs.Slices.{width_of}
use Rattle.alert_line.specs.Line.{Line, knowledge}
use Rattle.office_history.specs.declared.Measure.{Measure}
use Rattle.kept_sums.specs.Replacing.{HasMoved}
use Rattle.kept_sums.proofs.ListLemmas.{all_at, one_more}
use Rattle.line_forgetting.specs.Touched.{Forgets, IsMinuteOfRow, is_near}
use Rattle.line_forgetting.proofs.ForgetLemmas.{only-none}

-- the lesser of two numbers is one of them
lesser : (a b : ℕ) → (min a b ≡ a) ⊎ (min a b ≡ b)
lesser a b = by (leb_tells a b)
  where
    by : ((nat_le a b ≡ true) × (a ≤ b)) ⊎ ((nat_le a b ≡ false) × (b < a)) →
        (min a b ≡ a) ⊎ (min a b ≡ b)
    by (inl x) = inl (omega (arith, x.1))
    by (inr x) = inr (omega (arith, x.1))

-- no row up to a place and with it is before the earliest minute
pub earliest-bounds : (rows : List Row) (at earliest least : ℕ) (row : Row) →
    slice_get rows at ≡ Some row → least ≡ min earliest row.minute →
    AllByRecursion (λ (row : Row). earliest ≤ row.minute) (take at rows) →
    AllByRecursion (λ (row : Row). least ≤ row.minute) (take (at + 1) rows)
earliest-bounds rows at earliest least row here is so_far =
    one_more (λ (row : Row). earliest ≤ row.minute) (λ (row : Row). least ≤ row.minute) rows at row
    here (λ (row : Row) bound. omega (arith, is, bound)) so_far (omega (arith, is))

-- the earliest minute is that of a row, or the number with which one begins
pub earliest-own : (rows : List Row) (at earliest least : ℕ) (row : Row) →
    slice_get rows at ≡ Some row → least ≡ min earliest row.minute →
    (earliest ≡ 4294967295) ⊎ IsMinuteOfRow rows earliest →
    (least ≡ 4294967295) ⊎ IsMinuteOfRow rows least
earliest-own rows at earliest least row here is own = by (lesser earliest row.minute) own
  where
    by : (min earliest row.minute ≡ earliest) ⊎ (min earliest row.minute ≡ row.minute) →
        (earliest ≡ 4294967295) ⊎ IsMinuteOfRow rows earliest →
        (least ≡ 4294967295) ⊎ IsMinuteOfRow rows least
    by (inl e) (inl last) = inl (is ∙ e ∙ last)
    by (inl e) (inr some) = inr (subst (IsMinuteOfRow rows) (sym (is ∙ e)) some)
    by (inr e) own = inr (record {
      place = at;
      row = row;
      here = here;
      is = sym (is ∙ e);
    })

-- a minute near a slice is behind its first minute
near-from : (width reach slice minute : ℕ) → is_near width reach slice minute ≡ true →
    slice * width + width ≤ minute
near-from width reach slice minute near =
    let from : nat_le (slice * width + width) minute ≡ true =
    (and_parts (nat_le (slice * width + width) minute) (nat_lt minute (slice * width + reach + 1))
    near).0 in
    grind (arith, nat_tests, from)

-- a minute lies before the end of its slice
before-end : (width minute : ℕ) → 0 < width → minute < minute / width * width + width
before-end width minute some =
    omega (arith, div-add-mod' minute width, mod_below minute width some)

-- Where nothing is known from a minute on that no row of a batch is before, nothing has to be
-- forgotten: what is near the slice of a row lies behind the row.
pub unknown-forgets : (m : Measure) (rows : List Row) (verdicts : List RowVerdict)
    (width earliest : ℕ) (line : Line) → width ≡ width_of m.method → 0 < width →
    AllByRecursion (λ (row : Row). earliest ≤ row.minute) rows →
    ((u : ℕ) → earliest ≤ u → knowledge line u ≡ None) →
    Forgets (HasMoved m rows verdicts) width line line
unknown-forgets m rows verdicts width earliest line widths some bound unknown = record {
  only = only-none (HasMoved m rows verdicts) width line;
  clear = λ slice moved minute holds known.
      apart slice moved minute holds known (is_near width (reach_of line.rule) slice minute) refl;
}
  where
    behind : (slice minute : ℕ) → HasMoved m rows verdicts slice →
        slice * width + width ≤ minute → earliest ≤ minute
    behind slice minute moved from =
        let lies : moved.row.minute / width ≡ slice =
        subst (λ n. moved.row.minute / n ≡ slice) (sym widths) moved.lies in
        let end : moved.row.minute < slice * width + width =
        subst (λ n. moved.row.minute < n * width + width) lies
        (before-end width moved.row.minute some) in
        let late : earliest ≤ moved.row.minute =
        all_at (λ (row : Row). earliest ≤ row.minute) rows moved.place moved.row moved.here bound in
        omega (arith, end, late, from)

    apart : (slice : ℕ) → HasMoved m rows verdicts slice → (minute : ℕ) (holds : Bool) →
        knowledge line minute ≡ Some holds → (near : Bool) →
        is_near width (reach_of line.rule) slice minute ≡ near →
        is_near width (reach_of line.rule) slice minute ≡ false
    apart slice moved minute holds known false near = near
    apart slice moved minute holds known true near =
        let from = near-from width (reach_of line.rule) slice minute near in
        let no : ◌≡◌ {A = Option Bool} None (Some holds) =
        sym (unknown minute (behind slice minute moved from)) ∙ known in
        cc no
