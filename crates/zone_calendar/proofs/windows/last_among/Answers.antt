use Rattle.std.proofs.Common.{◌≡◌, ◌<◌, ◌≤◌, ◌-◌, ◌+◌, ℕ, max, Option, Some, refl, sym, subst}
use Rattle.std.proofs.Common.{arith}
use Rattle.std.specs.Prelude.{unwrap_or}
use Rattle.zone_calendar.specs.Starts.{start_at}
use Rattle.zone_calendar.specs.Window.{IsLast}
use Rattle.zone_calendar.proofs.LastLemmas.{last_kept, last_taken}
use Rattle.zone_calendar.proofs.windows.last_among.Goals.{then-start-minute, else-start-minute}
use Rattle.zone_calendar.proofs.windows.last_among.Goals as goal

pub loop-k-preserved : goal.loop-k-preserved
loop-k-preserved c =
    let value = start_at c.args.zone.now c.args.first.now c.args.step in
    let from = c.args.count - 6 in
    let next = λ (last : Option ℕ).
    IsLast (λ n. (from ≤ n) × (n < c.loop-k.k + 1)) value c.args.minute last in
    elim c.if-start-minute.branch [
      | then-start-minute w ↦
          let begun =
          subst (λ (n : ℕ). n ≤ c.args.minute) c.start-start.ensures w.if-start-minute.true in
          let is : c.if-start-minute.last
          ≡ Some (max (value c.loop-k.k) (unwrap_or c.loop-k.last 0)) =
          rw (w.last-is, w.max.ensures, w.unwrap_or.ensures, c.start-start.ensures) refl in
          subst next (sym is)
          (last_taken value c.args.minute from c.loop-k.k c.loop-k.last
          (omega (arith, c.loop-k.auto.k, c.saturating_sub-k.ensures)) begun c.loop-k.invariant)
      | else-start-minute w ↦
          let late =
          subst (λ (n : ℕ). c.args.minute < n) c.start-start.ensures w.if-start-minute.false in
          subst next (sym w.last-is)
          (last_kept value c.args.minute from c.loop-k.k c.loop-k.last late c.loop-k.invariant)
    ]
