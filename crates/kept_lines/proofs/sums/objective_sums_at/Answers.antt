use Rattle.std.proofs.Common.{◌≡◌, ◌<◌, ◌∙◌, ℕ, ap, subst}
use Rattle.window_sums.specs.Slices.{counts_of, width_of}
use Rattle.office_history.specs.Counts.{slice_counts}
use Rattle.kept_sums.specs.Sums.{SumsAreKept}
use Rattle.kept_lines.specs.Sums.{samples_of}
use Rattle.kept_lines.proofs.KeptLemmas.{are_sums, kept_there, never_lacking}
use Rattle.kept_lines.proofs.sums.objective_sums_at.Goals as goal

pub unreachable-requires : goal.unreachable-requires
unreachable-requires c =
    never_lacking c.args.derived.now c.args.measure.now c.requires.sound c.requires.objective
    (c.find_at.ensures.own c.in-None.is) (c.find_at.ensures.pooled c.in-None.is)

-- the sums that are found are those of the rows
found : (c : goal.After-width) → SumsAreKept c.args.measure.now c.args.derived.now.book.exclusions
    c.args.derived.now.book.rows c.in-Some.sums.now
found c =
    kept_there c.args.derived.now c.args.measure.now c.in-Some.sums.now c.requires.sound
    c.requires.objective c.in-Some.ensures.some

counted : (c : goal.After-width) (slice : ℕ) → counts_of c.in-Some.sums.now slice
    ≡ slice_counts (samples_of c.args.derived.now.book) c.args.measure.now slice
counted c slice =
    let d = c.args.derived.now in
    let m = c.args.measure.now in
    let some : 0 < width_of m.method =
    subst (λ n. 0 < n) (c.width.ensures.value ∙ ap width_of (found c).method)
    c.width.ensures.some in
    c.kept_counts_are_those_of_the_minutes.ensures m d.book.exclusions d.book.rows
    c.in-Some.sums.now slice some (found c)

pub returns-clause-sums : goal.returns-clause-sums
returns-clause-sums c =
    are_sums (samples_of c.args.derived.now.book) c.args.measure.now c.in-Some.sums.now
    (counted c) (found c)

pub returns-clause-counts : goal.returns-clause-counts
returns-clause-counts c = counted c

pub returns-clause-kept : goal.returns-clause-kept
returns-clause-kept c = found c
