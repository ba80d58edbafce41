-- What a machine lends is what its history says.
use Rattle.std.proofs.Common.{◌≡◌, ◌∙◌, ℕ, List, Option, None, Some, ap, subst, sym}
use Rattle.std.specs.List.{Contains}
use Rattle.slice_method.specs.Leaves.{leaf}
use Rattle.window_sums.specs.Slices.{CountedDays, counts_of}
use Rattle.alert_line.specs.Line.{Agrees, Line}
use Rattle.catalog_terms.specs.declared.Binding.{Binding}
use Rattle.object_terms.specs.declared.Object.{Object}
use Rattle.office_history.specs.declared.Measure.{Measure}
use Rattle.office_history.specs.Alerts.{Watch, watched}
use Rattle.office_history.specs.Catalog.{catalog_in}
use Rattle.office_history.specs.Counts.{Samples, slice_counts}
use Rattle.office_history.specs.History.{Office}
use Rattle.office_history.specs.Notices.{samples_in}
use Rattle.office_history.specs.Objectives.{measure_at}
use Rattle.line_forgetting.specs.Right.{IsRight}
use Rattle.kept_sums.specs.declared.ObjectiveSums.{ObjectiveSums}
use Rattle.office_derived.specs.declared.Derived.{Derived}
use Rattle.office_derived.specs.Derived.{Reflects}
use Rattle.kept_lines.specs.Known.{IsLineOf}
use Rattle.kept_lines.specs.Sums.{AreSums, samples_of}
use Rattle.kept_lines.specs.declared.WatchLine.{WatchLine}
use Rattle.office_core.specs.Lent.{LendsLine, LendsSums}
use Rattle.office_core.specs.Seen.{Machine}

module _ (d : Derived) (o : Office) (machine : Machine) (r : Reflects d o)
    (is : o ≡ machine.office) where
  catalog : d.catalog ≡ catalog_in machine.office.history
  catalog = r.catalog ∙ ap (λ (o : Office). catalog_in o.history) is

  samples : samples_of d.book ≡ samples_in machine.office.history
  samples = (λ i. record { rows = r.rows i; exclusions = r.exclusions i })
      ∙ ap (λ (o : Office). samples_in o.history) is

  measured : (slo : List ℕ) (n : ℕ) →
      measure_at d.catalog slo n ≡ measure_at (catalog_in machine.office.history) slo n
  measured slo n = ap (λ (os : List Object). measure_at os slo n) catalog

  bound : (b : Binding) → watched d.catalog b ≡ watched (catalog_in machine.office.history) b
  bound b = ap (λ (os : List Object). watched os b) catalog

  pub lent_sums : (slo : List ℕ) (n : ℕ) (m : Measure) (sums : CountedDays)
      (kept : List ObjectiveSums) → kept ≡ machine.sums → Some m ≡ measure_at d.catalog slo n →
      AreSums (samples_of d.book) m sums →
      ((slice : ℕ) → counts_of sums slice ≡ slice_counts (samples_of d.book) m slice) →
      Contains kept (record { measure = m; sums = sums }) →
      LendsSums machine (measure_at (catalog_in machine.office.history) slo n) sums
  lent_sums slo n m sums kept same found are counts there =
      subst (λ (f : Option Measure). LendsSums machine f sums) (found ∙ measured slo n) (record {
        among = subst (λ (ks : List ObjectiveSums).
            Contains ks (record { measure = m; sums = sums })) same there;
        over = record {
          method = are.method;
          counts = λ slice. counts slice ∙ ap (λ (s : Samples). slice_counts s m slice) samples;
        };
      })

  pub no_objective : (slo : List ℕ) (n : ℕ) → measure_at d.catalog slo n ≡ None →
      measure_at (catalog_in machine.office.history) slo n ≡ None
  no_objective slo n none = sym (measured slo n) ∙ none

  pub lent_line : (b : Binding) (w : Watch) (line : Line) (kept : List WatchLine) →
      kept ≡ machine.lines → Some w ≡ watched d.catalog b → IsLineOf kept w line →
      IsRight d.origin (samples_of d.book) w line →
      ((sums : CountedDays) → AreSums (samples_of d.book) w.measure sums → Agrees line sums) →
      LendsLine machine (watched (catalog_in machine.office.history) b) line
  lent_line b w line kept same found there right agrees =
      subst (λ (f : Option Watch). LendsLine machine f line) (found ∙ bound b) (record {
        among = subst (λ (ks : List WatchLine). IsLineOf ks w line) same there;
        rule = right.rule;
        target = right.target;
        origin = right.origin ∙ r.origin ∙ ap (λ (o : Office). o.origin) is;
        agrees = λ sums over. agrees sums (record {
          method = over.method;
          leaves = λ slice i. leaf (over.method i)
              ((over.counts slice
              ∙ ap (λ (s : Samples). slice_counts s w.measure slice) (sym samples)) i);
        });
      })

  pub no_binding : (b : Binding) → watched d.catalog b ≡ None →
      watched (catalog_in machine.office.history) b ≡ None
  no_binding b none = sym (bound b) ∙ none
