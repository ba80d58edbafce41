use Rattle.std.proofs.Common.{◌≡◌, ℤ, pos, ◌-ℤ◌, ◌*ℤ◌, arith, w64, to_z, of_z, FitsSigned}
use Rattle.std.specs.Int.{int_max, int_min}
use Rattle.std.proofs.lemmas.Int.{to_z-of_z}
use Rattle.jiff_core.proofs.SignedLemmas.{signed_arith}
use Rattle.jiff_core.specs.Calendar.{IsWithin}
use Rattle.jiff_core.specs.DateTime.{IsCivilNanos}
use Rattle.zone_calendar.proofs.StartLemmas.{near_max, near_min}
use Rattle.zone_calendar.proofs.zone.instant_by.Goals as goal

-- one of two instants near a second, picked by a call on 64 bits, is near it too
near_picked : (pick : ℤ → ℤ → ℤ) →
    ((a b s : ℤ) → IsWithin 93_599 (a -ℤ s) → IsWithin 93_599 (b -ℤ s)
    → IsWithin 93_599 (pick a b -ℤ s)) →
    (a b picked second : ℤ) → IsCivilNanos (second *ℤ pos 1_000_000_000) →
    IsWithin 93_599 (a -ℤ second) → IsWithin 93_599 (b -ℤ second) →
    picked ≡ pick (to_z w64 (of_z w64 a)) (to_z w64 (of_z w64 b)) →
    IsWithin 93_599 (to_z w64 (of_z w64 picked) -ℤ second)
near_picked pick near a b picked second civil before after value =
    let fits_a : FitsSigned w64 a = omega (arith, signed_arith, before, civil) in
    let fits_b : FitsSigned w64 b = omega (arith, signed_arith, after, civil) in
    let here = near a b second before after in
    let same : picked ≡ pick a b =
    rw (to_z-of_z w64 a fits_a, to_z-of_z w64 b fits_b) at value in
    let fits : FitsSigned w64 (pick a b) = omega (arith, signed_arith, here, civil) in
    rw (same, to_z-of_z w64 (pick a b) fits) here

pub returns-in-Gap-clause-near : goal.returns-in-Gap-clause-near
returns-in-Gap-clause-near c = near_picked int_max near_max c.instant_at-in-Gap.result
    c.instant_at-in-Gap-2.result c.max.result c.args.second
    c.requires (
      omega (arith, signed_arith, c.instant_at-in-Gap.ensures.near),
      omega (arith, signed_arith, c.instant_at-in-Gap.ensures.near),
    ) (
      omega (arith, signed_arith, c.instant_at-in-Gap-2.ensures.near),
      omega (arith, signed_arith, c.instant_at-in-Gap-2.ensures.near),
    ) c.max.ensures.value

pub returns-in-Fold-clause-near : goal.returns-in-Fold-clause-near
returns-in-Fold-clause-near c = near_picked int_min near_min c.instant_at-in-Fold.result
    c.instant_at-in-Fold-2.result c.min.result c.args.second
    c.requires (
      omega (arith, signed_arith, c.instant_at-in-Fold.ensures.near),
      omega (arith, signed_arith, c.instant_at-in-Fold.ensures.near),
    ) (
      omega (arith, signed_arith, c.instant_at-in-Fold-2.ensures.near),
      omega (arith, signed_arith, c.instant_at-in-Fold-2.ensures.near),
    ) c.min.ensures.value
