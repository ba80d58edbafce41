use Rattle.std.proofs.Common.{◌≡◌, ◌++◌, ◌∷◌, [], true, ap, subst, sym, ◌∙◌}
use Rattle.sample_book.specs.Rows.{current_rows}
use Rattle.window_sums.specs.Shares.{IsSumOf}
use Rattle.kept_sums.specs.Objectives.{made_for}
use Rattle.kept_sums.specs.Replacing.{MayReplace, among, changes_counts}
use Rattle.kept_sums.specs.Sums.{HasItsDay, row_counts}
use Rattle.kept_sums.proofs.FollowLemmas.{all_next, fits_replaced, moved, moved_facts, moves_own}
use Rattle.kept_sums.proofs.FollowLemmas.{same_days, stayed}
use Rattle.kept_sums.proofs.batch.follow_row.Goals as goal

pub returns-then-not-changes_counts-clause-kept : goal.returns-then-not-changes_counts-clause-kept
returns-then-not-changes_counts-clause-kept c = λ came may.
    stayed c.args.measure.now (made_for c.args.pool c.args.book.now.exclusions) c.args.row.now
    c.args.verdict.now
    c.args.sums.now came may (sym c.changes_counts.ensures ∙ c.if-not-changes_counts.true)

pub replaced_counts-old-requires : goal.replaced_counts-old-requires
replaced_counts-old-requires c =
    let k = c.requires.may in
    let is : changes_counts c.args.measure.now c.args.row.now c.args.verdict.now ≡ true =
    sym c.changes_counts.ensures
    ∙ c.if-not-changes_counts.false in
    fits_replaced c.args.measure.now (current_rows k.0) c.args.row.now c.args.verdict.now
    (current_rows (k.0 ++ c.args.row.now ∷ []))
    (moved c.args.measure.now (made_for c.args.pool c.args.book.now.exclusions) c.args.row.now
    c.args.verdict.now
    c.args.sums.now k.0 k.1 is) k.1.forms

pub exchange-requires-clause-day : goal.exchange-requires-clause-day
exchange-requires-clause-day c = λ differ.
    c.requires.may.1.day (moves_own c.args.measure.now c.args.row.now c.args.verdict.now
    (sym c.changes_counts.ensures ∙ c.if-not-changes_counts.false))

pub exchange-requires-clause-may : goal.exchange-requires-clause-may
exchange-requires-clause-may c =
    let k = c.requires.may in
    let is : changes_counts c.args.measure.now c.args.row.now c.args.verdict.now ≡ true =
    sym c.changes_counts.ensures
    ∙ c.if-not-changes_counts.false in
    let facts = moved_facts c.args.measure.now (made_for c.args.pool c.args.book.now.exclusions)
    c.args.row.now
    c.args.verdict.now c.args.sums.now k.0 k.1 is in
    let minute = c.args.row.now.minute in (
      facts.before,
      facts.after,
      subst (λ n. MayReplace c.args.sums.now minute c.replaced_counts-old.result n facts.before
          facts.after) (sym c.counts_near-new.ensures)
          (subst (λ m. MayReplace c.args.sums.now minute m (row_counts c.args.measure.now
          (made_for c.args.pool c.args.book.now.exclusions) c.args.row.now) facts.before
          facts.after)
          (sym c.replaced_counts-old.ensures) facts.may),
    )

pub returns-clause-kept : goal.returns-clause-kept
returns-clause-kept c = λ came may.
    let m = c.args.measure.now in
    let row = c.args.row.now in
    let is : changes_counts m row c.args.verdict.now ≡ true =
    sym c.changes_counts.ensures ∙ c.if-not-changes_counts.false in
    let facts = moved_facts m (made_for c.args.pool c.args.book.now.exclusions) row
    c.args.verdict.now c.args.sums.now
    came may is in
    record {
      method = c.exchange.ensures.method ∙ may.kept.method;
      counted = subst (IsSumOf c.exchange.new.sums)
          (ap (λ n. among facts.before row.minute n facts.after) c.counts_near-new.ensures
          ∙ sym facts.put)
          (c.exchange.ensures.counted facts.before facts.after
          (subst (λ n. IsSumOf c.args.sums.now (among facts.before row.minute n facts.after))
          (sym c.replaced_counts-old.ensures) facts.may.counted));
      days = same_days m (current_rows (came ++ row ∷ [])) c.args.sums.now c.exchange.new.sums
          c.exchange.ensures.days
          (all_next (HasItsDay m c.args.sums.now) came row may.kept.days may.day);
    }

pub returns-clause-touched : goal.returns-clause-touched
returns-clause-touched c = λ slice apart.
    c.exchange.ensures.touched slice
    (apart (sym c.changes_counts.ensures ∙ c.if-not-changes_counts.false))
