-- Lines that forget first agree with the sums that follow.
use Rattle.std.proofs.Common.{◌≡◌, ℕ, ◌<◌, ap, sym, subst, ◌∙◌}
use Rattle.slice_method.specs.declared.Method.{Method}
use Rattle.slice_method.specs.Leaves.{leaf}
use Rattle.window_sums.specs.Slices.{CountedDays, counts_of, leaf_at, width_of}
use Rattle.alert_line.specs.Line.{Agrees, Line}
use Rattle.office_history.specs.declared.Measure.{Measure}
use Rattle.line_forgetting.specs.Following.{AreOf}
use Rattle.line_forgetting.specs.Touched.{Forgets, IsClear}
use Rattle.line_forgetting.proofs.NearLemmas.{clear-agrees}

pub line-follows : (m : Measure) (touched : ℕ → Type 0) (before after : Line)
    (old new : CountedDays) → AreOf m old new →
    ((slice : ℕ) → (touched slice → ⊥) → counts_of new slice ≡ counts_of old slice) →
    Forgets touched (width_of m.method) before after → Agrees before old → Agrees after new
line-follows m touched before after old new of same forgets agrees =
    clear-agrees after old new touched (subst (λ (w : ℕ). 0 < w) width of.some)
    (ap width_of (of.after ∙ sym of.before))
    (λ slice free. ap (λ (method : Method). leaf method (counts_of old slice))
    (of.before ∙ sym of.after) ∙ ap (leaf new.method) (sym (same slice free)))
    (λ slice is. subst (λ (w : ℕ). IsClear after w slice) width (forgets.clear slice is))
    (forgets.only.agrees old agrees)
  where
    width : width_of m.method ≡ width_of old.method
    width = ap width_of (sym of.before)
