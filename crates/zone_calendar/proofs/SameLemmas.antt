-- Moments with the same numbers are the same moment.
use Rattle.std.proofs.Common.{◌≡◌, ℕ, ◌<◌, ℤ, pos, unsigned_abs, false, true≢false, Option, Some}
use Rattle.std.proofs.Common.{None, sym, ap, ◌∙◌, arith}
use Rattle.std.proofs.Math.Path.{to_path_p}
use Rattle.std.proofs.Props.{props}
use Rattle.std.specs.Prelude.{IfSome, IfNone}
use Rattle.std.specs.Int.{IsInRange}
use Rattle.jiff_core.specs.Calendar.{IsBetween, days_in_month}
use Rattle.jiff_core.proofs.SignedLemmas.{signed_arith}
use Rattle.zone_calendar.specs.CivilText.{parts_of, is_moment}
use Rattle.zone_calendar.specs.declared.civil.Civil.{Civil}
use Rattle.zone_calendar.specs.declared.civil_text.Parts.{Parts}
use Rattle.zone_calendar.proofs.CivilLemmas.{unsigned, is_moment-civil}

-- what a moment keeps of its numbers
abbrev Kept : ℤ → ℕ → ℕ → ℕ → ℕ → ℕ → Type 0
Kept year month day hour minute second =
    IsBetween (pos 1971) (pos 2097) year × IsInRange 1 12 month
    × IsInRange 1 (days_in_month year month) day
    × (hour < 24) × (minute < 60) × (second < 60)

kept_once : (year : ℤ) (month day hour minute second : ℕ)
    → IsProp (Kept year month day hour minute second)
kept_once year month day hour minute second = hlevel props

made : (year : ℤ) (month day hour minute second : ℕ)
    → Kept year month day hour minute second → Civil
made year month day hour minute second kept = record {
  year = year;
  month = month;
  day = day;
  hour = hour;
  minute = minute;
  second = second;
  year_in = kept.0;
  month_in = kept.1;
  day_in = kept.2;
  hour_in = kept.3;
  minute_in = kept.4;
  second_in = kept.5;
}

made_same : (y year : ℤ) (m month d day h hour n minute s second : ℕ) (one : Kept y m d h n s)
    (other : Kept year month day hour minute second) → y ≡ year → m ≡ month → d ≡ day → h ≡ hour
    → n ≡ minute → s ≡ second → made y m d h n s one ≡ made year month day hour minute second other
made_same y year m month d day h hour n minute s second one other ey em ed eh en es =
    let kept = to_path_p (λ i. Kept (ey i) (em i) (ed i) (eh i) (en i) (es i))
    (kept_once year month day hour minute second _ other) in
    λ i. made (ey i) (em i) (ed i) (eh i) (en i) (es i) (kept i)

year_of : (moment : Civil) → pos (unsigned_abs moment.year) ≡ moment.year
year_of moment = unsigned moment.year (omega (arith, signed_arith, moment.year_in))

-- moments with the same numbers are the same
pub civil_same : (a b : Civil) → parts_of a ≡ parts_of b → a ≡ b
unfolding made
civil_same a b e =
    made_same a.year b.year a.month b.month a.day b.day a.hour b.hour a.minute b.minute
    a.second b.second
    (a.year_in, a.month_in, a.day_in, a.hour_in, a.minute_in, a.second_in)
    (b.year_in, b.month_in, b.day_in, b.hour_in, b.minute_in, b.second_in)
    (sym (year_of a) ∙ ap (λ (p : Parts). pos p.year) e ∙ year_of b)
    (ap (λ (p : Parts). p.month) e) (ap (λ (p : Parts). p.day) e) (ap (λ (p : Parts). p.hour) e)
    (ap (λ (p : Parts). p.minute) e) (ap (λ (p : Parts). p.second) e)

-- the moment whose numbers these are is found
pub found : (r : Option Civil) (parts : Parts) (moment : Civil) → IfSome r (λ m. parts_of m ≡ parts)
    → IfNone r (is_moment parts ≡ false) → parts ≡ parts_of moment → r ≡ Some moment
found None parts moment some none same =
    absurd (true≢false (sym (is_moment-civil moment) ∙ ap is_moment (sym same) ∙ none))
found (Some m) parts moment some none same = ap Some (civil_same m moment (some ∙ same))
