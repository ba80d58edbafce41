-- Durations with the same count and unit are the same duration.
use Rattle.std.proofs.Common.{◌≡◌, ℕ, ◌*◌, ◌≤◌, Bool, true, false, Ok, refl, sym, ap, ◌∙◌}
use Rattle.std.proofs.Common.{nat_le, true≢false}
use Rattle.std.proofs.Math.Path.{to_path_p}
use Rattle.std.proofs.Props.{props}
use Rattle.std.proofs.lemmas.Bool.{le-leb}
use Rattle.slo_duration.specs.Unit.{unit_minutes}
use Rattle.slo_duration.specs.Reading.{fitting, fitting_where}
use Rattle.slo_duration.specs.declared.unit.Unit.{Unit}
use Rattle.slo_duration.specs.declared.duration.Duration.{Duration}

abbrev Fits : ℕ → Unit → Type 0
Fits count unit = count * unit_minutes unit ≤ 4_294_967_295

fits_once : (count : ℕ) (unit : Unit) → IsProp (Fits count unit)
fits_once count unit = hlevel props

made : (count : ℕ) (unit : Unit) → Fits count unit → Duration
made count unit fits = record { count = count; unit = unit; fits = fits }

made_same : (a count : ℕ) (u unit : Unit) (one : Fits a u) (other : Fits count unit) → a ≡ count
    → u ≡ unit → made a u one ≡ made count unit other
made_same a count u unit one other same_count same_unit =
    let fits = to_path_p (λ i. Fits (same_count i) (same_unit i)) (fits_once count unit _ other) in
    λ i. made (same_count i) (same_unit i) (fits i)

-- durations with the same count and unit are the same
pub duration_same : (a b : Duration) → a.count ≡ b.count → a.unit ≡ b.unit → a ≡ b
unfolding made
duration_same a b count unit = made_same a.count b.count a.unit b.unit a.fits b.fits count unit

again_where : (d : Duration) (b : Bool) (fact : b ≡ true → Fits d.count d.unit) → b ≡ true
    → fitting_where b d.count d.unit fact ≡ Ok d
again_where d true fact e = ap Ok (duration_same _ d refl refl)
again_where d false fact e = absurd (true≢false (sym e))

-- a duration is made again of its count and its unit
pub fitting_again : (d : Duration) → fitting d.count d.unit ≡ Ok d
fitting_again d =
    again_where d (nat_le (d.count * unit_minutes d.unit) 4_294_967_295) _ (le-leb _ _ d.fits)

-- a duration is the one of a count that is its own
pub fitted : (d : Duration) (count : ℕ) → count ≡ d.count → Ok d ≡ fitting count d.unit
fitted d count e = sym (ap (λ n. fitting n d.unit) e ∙ fitting_again d)
