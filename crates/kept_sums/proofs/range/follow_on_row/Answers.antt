use Rattle.std.proofs.Common.{not, subst, sym, ◌∙◌}
use Rattle.slice_method.specs.declared.Counts.{Counts}
use Rattle.sample_book.specs.declared.Row.{Row}
use Rattle.window_sums.specs.Shares.{IsSumOf}
use Rattle.kept_sums.specs.Replacing.{MayReplace, among}
use Rattle.kept_sums.specs.Sums.{row_counts}
use Rattle.kept_sums.specs.Walks.{followed, made_on}
use Rattle.kept_sums.proofs.RangeLemmas.{apart, now_and_then}
use Rattle.kept_sums.proofs.range.follow_on_row.Goals as goal

-- outside these minutes a row counts as before
pub returns-then-not-is_between-clause-counted : goal.returns-then-not-is_between-clause-counted
returns-then-not-is_between-clause-counted c = λ before after counted.
    let m = c.args.measure.now in
    let made = c.args.book.now.exclusions in
    let row = c.args.row.now in
    let value = c.args.value.now in
    let a : Row → Counts = row_counts m (made_on made value (not c.args.taken)) in
    let b : Row → Counts = row_counts m (made_on made value c.args.taken) in
    let out = sym c.is_between.ensures ∙ c.if-not-is_between.true in
    subst (λ n. IsSumOf c.args.sums.now (among before row.minute n after))
    (apart m.sli value.from c.args.from c.args.to a b row c.requires.order out) counted

pub exchange-requires-clause-may : goal.exchange-requires-clause-may
exchange-requires-clause-may c =
    let k = c.requires.may in
    let m = c.args.measure.now in
    let made = c.args.book.now.exclusions in
    let row = c.args.row.now in
    let value = c.args.value.now in
    let sums = c.args.sums.now in
    let both = now_and_then m made value c.args.taken c.args.from c.args.to row c.requires.begun
    c.requires.own (sym c.is_between.ensures ∙ c.if-not-is_between.false) in (
      k.0,
      k.1,
      subst (λ n. MayReplace sums row.minute c.counts_on-old.result n k.0 k.1)
          (both.1 ∙ sym c.counts_on-new.ensures)
          (subst (λ n. MayReplace sums row.minute n
          (followed m made value c.args.taken c.args.to row) k.0 k.1)
          (both.0 ∙ sym c.counts_on-old.ensures) k.2),
    )

pub returns-clause-counted : goal.returns-clause-counted
returns-clause-counted c = λ before after counted.
    let m = c.args.measure.now in
    let made = c.args.book.now.exclusions in
    let row = c.args.row.now in
    let value = c.args.value.now in
    let both = now_and_then m made value c.args.taken c.args.from c.args.to row c.requires.begun
    c.requires.own (sym c.is_between.ensures ∙ c.if-not-is_between.false) in
    let was = subst (λ n. IsSumOf c.args.sums.now (among before row.minute n after))
    (both.0 ∙ sym c.counts_on-old.ensures) counted in
    subst (λ n. IsSumOf c.exchange.new.sums (among before row.minute n after))
    (c.counts_on-new.ensures ∙ sym both.1) (c.exchange.ensures.counted before after was)
