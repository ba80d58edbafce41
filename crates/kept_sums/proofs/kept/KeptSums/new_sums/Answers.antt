use Rattle.std.proofs.Common.{◌≡◌, subst, sym}
use Rattle.std.proofs.lemmas.Result.{IfOk-weaker}
use Rattle.window_sums.specs.Slices.{CountedDays}
use Rattle.kept_sums.specs.Objectives.{made_for}
use Rattle.kept_sums.specs.Sums.{SumsAreKept}
use Rattle.kept_sums.proofs.SharedLemmas.{told-either}
use Rattle.kept_sums.proofs.kept.KeptSums.new_sums.Goals as goal

pub returns-in-Some : goal.returns-in-Some
returns-in-Some c =
    let made = c.args.book.now.exclusions in
    let rows = c.args.book.now.rows in
    let m = c.args.measure.now in
    let sums : CountedDays = c.in-Some.sums.now in
    IfOk-weaker c.copy.result (λ (copy : CountedDays). copy ≡ sums)
    (SumsAreKept m (made_for c.args.pool made) rows)
    (λ (copy : CountedDays) same.
    subst (SumsAreKept m (made_for c.args.pool made) rows) (sym same)
    (told-either c.args.pool made rows c.args.self.now m sums c.requires.own c.requires.pooled
    (c.has_exclusions-excluded.ensures c.if-excluded.false) c.in-Some.ensures.some))
    c.copy.ensures
