use Rattle.std.proofs.Common.{◌≡◌, not, Bool, true, false, refl, subst, sym, ◌∙◌, inl, inr}
use Rattle.std.specs.Str.{bytes_eq}
use Rattle.window_sums.specs.Shares.{IsSumOf}
use Rattle.kept_sums.specs.Sums.{SumsAreKept}
use Rattle.kept_sums.specs.Walks.{made_on}
use Rattle.kept_sums.proofs.DayLemmas.{none_taken}
use Rattle.kept_sums.proofs.RangeLemmas.{counted_begins, kept_after}
use Rattle.kept_sums.proofs.ShareLemmas.{untouched}
use Rattle.kept_sums.proofs.range.follow_exclusion.Goals as goal

pub returns-then-ne-clause-kept : goal.returns-then-ne-clause-kept
returns-then-ne-clause-kept c =
    let m = c.args.measure.now in
    let rows = c.args.book.now.rows in record {
      method = c.requires.kept.method;
      counted = subst (IsSumOf c.args.sums.now)
          (none_taken m c.args.book.now.exclusions c.args.value.now c.args.taken rows (inl
          (turned (bytes_eq c.args.value.now.slo m.slo) (sym c.ne.ensures ∙ c.if-ne.true))))
          c.requires.kept.counted;
      days = c.requires.kept.days;
    }
  where
    turned : (b : Bool) → not b ≡ true → b ≡ false
    turned true e = cc e
    turned false e = refl

pub returns-then-value-clause-kept : goal.returns-then-value-clause-kept
returns-then-value-clause-kept c = record {
  method = c.requires.kept.method;
  counted = subst (IsSumOf c.args.sums.now)
      (none_taken c.args.measure.now c.args.book.now.exclusions c.args.value.now c.args.taken
      c.args.book.now.rows (inr c.if-value.true)) c.requires.kept.counted;
  days = c.requires.kept.days;
}

pub follow_taking-requires-clause-own : goal.follow_taking-requires-clause-own
follow_taking-requires-clause-own c =
    turned (bytes_eq c.args.value.now.slo c.args.measure.now.slo) (sym c.ne.ensures ∙ c.if-ne.false)
  where
    turned : (b : Bool) → not b ≡ false → b ≡ true
    turned true e = refl
    turned false e = cc e

pub follow_taking-requires-clause-counted : goal.follow_taking-requires-clause-counted
follow_taking-requires-clause-counted c =
    counted_begins c.args.measure.now c.args.book.now.exclusions c.args.value.now c.args.taken true
    c.args.book.now.rows c.args.sums.now c.if-taken.true c.requires.kept

pub follow_lifting-requires-clause-counted : goal.follow_lifting-requires-clause-counted
follow_lifting-requires-clause-counted c =
    counted_begins c.args.measure.now c.args.book.now.exclusions c.args.value.now c.args.taken false
    c.args.book.now.rows c.args.sums.now c.if-taken.false c.requires.kept

taken_kept : (c : goal.After-follow_taking) → SumsAreKept c.args.measure.now
    (made_on c.args.book.now.exclusions c.args.value.now c.args.taken) c.args.book.now.rows
    c.follow_taking.new.sums
taken_kept c =
    kept_after c.args.measure.now c.args.book.now.exclusions c.args.value.now c.args.taken true
    c.args.book.now.rows c.args.sums.now c.follow_taking.new.sums c.if-taken.true c.requires.kept
    c.follow_taking.ensures.counted c.follow_taking.ensures.method c.follow_taking.ensures.days

lifted_kept : (c : goal.After-follow_lifting) → SumsAreKept c.args.measure.now
    (made_on c.args.book.now.exclusions c.args.value.now c.args.taken) c.args.book.now.rows
    c.follow_lifting.new.sums
lifted_kept c =
    kept_after c.args.measure.now c.args.book.now.exclusions c.args.value.now c.args.taken false
    c.args.book.now.rows c.args.sums.now c.follow_lifting.new.sums c.if-taken.false c.requires.kept
    c.follow_lifting.ensures.counted c.follow_lifting.ensures.method c.follow_lifting.ensures.days

pub returns-then-taken-clause-kept : goal.returns-then-taken-clause-kept
returns-then-taken-clause-kept c = taken_kept c

pub returns-else-taken-clause-kept : goal.returns-else-taken-clause-kept
returns-else-taken-clause-kept c = lifted_kept c

pub returns-then-taken-clause-touched : goal.returns-then-taken-clause-touched
returns-then-taken-clause-touched c = λ slice free.
    untouched c.args.measure.now c.args.book.now.exclusions c.args.value.now c.args.taken
    c.args.book.now.rows c.args.sums.now c.follow_taking.new.sums c.requires.kept (taken_kept c)
    slice free

pub returns-else-taken-clause-touched : goal.returns-else-taken-clause-touched
returns-else-taken-clause-touched c = λ slice free.
    untouched c.args.measure.now c.args.book.now.exclusions c.args.value.now c.args.taken
    c.args.book.now.rows c.args.sums.now c.follow_lifting.new.sums c.requires.kept (lifted_kept c)
    slice free
