use Rattle.std.proofs.Common.{◌≡◌, ℕ, ◌+◌, ◌<◌, ◌≤◌, Bool, true, IfOk, ap, arith}
use Rattle.std.proofs.Common.{length, subst, sym}
use Rattle.slo_limits.specs.declared.TheConstants.{RANGE_MINUTES}
use Rattle.burn_core.specs.Timeline.{AreSpansOf}
use Rattle.office_history.specs.declared.Measure.{Measure}
use Rattle.kept_sums.specs.Objectives.{IsObjective}
use Rattle.line_forgetting.specs.Right.{IsRight}
use Rattle.kept_lines.specs.Lines.{LinesKept}
use Rattle.kept_lines.specs.Sums.{AreSums, samples_of}
use Rattle.kept_lines.proofs.KnownLemmas.{if_ok, know_there, knows_put, learnt_each}
use Rattle.kept_lines.proofs.LineLemmas.{agrees_there, found, keeps_there, objective_watched}
use Rattle.kept_lines.proofs.LineLemmas.{place_within, right_again, seen_active, watches_there}
use Rattle.kept_lines.proofs.kept.KeptLines.intervals.Goals as goal
use Rattle.kept_lines.proofs.kept.KeptLines.intervals.Goals.{After-index_mut}

pub objective_sums-sums-requires-clause-objective :
    goal.objective_sums-sums-requires-clause-objective
objective_sums-sums-requires-clause-objective c =
    let members = c.args.derived.now.catalog in
    subst (IsObjective members) (sym c.measure.ensures.value)
    (objective_watched members c.args.watch.now c.requires.watched)

pub index_mut-requires : goal.index_mut-requires
index_mut-requires c =
    let lines = c.self.inside.lines in
    let less : c.place-place.result < length lines.items =
    place_within c.args.watch.now c.args.self.now.kept lines.items c.place-place.result
    (ap (λ (k : LinesKept). k.kept) c.self.view_is) c.place-place.ensures.there in
    omega (arith, less, lines.ok.0)

-- the line at the place is right, and it is the alert's
there : (c : After-index_mut) → IsRight c.args.derived.now.origin
    (samples_of c.args.derived.now.book) c.args.watch.now c.index_mut.result.now.line
    × (c.index_mut.result.now.watch ≡ c.args.watch.now)
there c =
    let d = c.args.derived.now in
    found d.origin (samples_of d.book) c.args.watch.now c.args.self.now.kept
    c.self.inside.lines.items c.place-place.result c.index_mut.result.now
    (ap (λ (k : LinesKept). k.kept) c.self.view_is) c.requires.lines.right
    c.place-place.ensures.there c.index_mut.ensures.value

-- the sums are those of its objective
are : (c : After-index_mut) → AreSums (samples_of c.args.derived.now.book)
    c.args.watch.now.measure c.objective_sums-sums.result.now
are c =
    subst (λ (m : Measure). AreSums (samples_of c.args.derived.now.book) m
    c.objective_sums-sums.result.now) c.measure.ensures.value c.objective_sums-sums.ensures.sums

pub spans_of_line-requires-clause-begin : goal.spans_of_line-requires-clause-begin
spans_of_line-requires-clause-begin c =
    let at = (goal.at.spans_of_line-requires-clause-begin c).After-index_mut in
    subst (λ origin. origin ≤ c.args.from) (sym (there at).0.origin) c.requires.begin

pub spans_of_line-requires-clause-end : goal.spans_of_line-requires-clause-end
spans_of_line-requires-clause-end c =
    let at = (goal.at.spans_of_line-requires-clause-end c).After-index_mut in
    subst (λ origin. c.args.to ≤ origin + RANGE_MINUTES) (sym (there at).0.origin) c.requires.end

pub spans_of_line-requires-clause-agrees : goal.spans_of_line-requires-clause-agrees
spans_of_line-requires-clause-agrees c =
    let at = (goal.at.spans_of_line-requires-clause-agrees c).After-index_mut in
    let d = c.args.derived.now in
    agrees_there d.origin (samples_of d.book) c.args.watch.now c.index_mut.result.now.line
    c.objective_sums-sums.result.now (there at).0 (are at)

pub returns-clause-value : goal.returns-clause-value
returns-clause-value c =
    let at = (goal.at.returns-clause-value c).After-index_mut in
    let d = c.args.derived.now in
    subst (λ (active : ℕ → Bool). IfOk c.spans_of_line.result
    (λ spans. AreSpansOf (λ minute. active minute ≡ true) c.args.from c.args.to spans.items))
    (seen_active d.origin (samples_of d.book) c.args.watch.now c.index_mut.result.now.line
    c.objective_sums-sums.result.now (there at).0 (are at)) c.spans_of_line.ensures.value

pub returns-clause-lines : goal.returns-clause-lines
returns-clause-lines c =
    let at = (goal.at.returns-clause-lines c).After-index_mut in
    let d = c.args.derived.now in
    let s = samples_of d.book in
    let w = c.args.watch.now in
    let k = c.index_mut.result.now in
    let after = c.spans_of_line.new.line in
    keeps_there d.origin d.catalog s w c.args.self.now.kept c.self.inside.lines.items
    c.place-place.result k after (ap (λ (k : LinesKept). k.kept) c.self.view_is)
    c.requires.lines c.place-place.ensures.there c.index_mut.ensures.value c.requires.watched
    (there at).1
    (right_again d.origin s w k.line after c.objective_sums-sums.result.now (there at).0 (are at)
    c.spans_of_line.ensures.alert c.spans_of_line.ensures.agrees)

pub returns-clause-watches : goal.returns-clause-watches
returns-clause-watches c =
    watches_there c.args.watch.now c.args.self.now.kept c.self.inside.lines.items
    c.place-place.result c.index_mut.result.now c.spans_of_line.new.line
    (ap (λ (k : LinesKept). k.kept) c.self.view_is) c.place-place.ensures.there
    (there (goal.at.returns-clause-watches c).After-index_mut).1

pub returns-clause-know : goal.returns-clause-know
returns-clause-know c =
    know_there c.args.self.now.kept c.self.inside.lines.items c.place-place.result
    c.index_mut.result.now c.spans_of_line.new.line (ap (λ (k : LinesKept). k.kept) c.self.view_is)
    c.index_mut.ensures.value c.spans_of_line.ensures.alert c.spans_of_line.ensures.kept

pub returns-clause-learnt : goal.returns-clause-learnt
returns-clause-learnt c =
    let at = (goal.at.returns-clause-learnt c).After-index_mut in
    let k = c.index_mut.result.now in
    let after = c.spans_of_line.new.line in
    let begun = subst (λ origin. origin ≤ c.args.from) (sym (there at).0.origin)
    c.requires.begin in
    if_ok c.spans_of_line.result (λ learnt. knows_put c.args.self.now.kept
    c.self.inside.lines.items c.args.watch.now c.place-place.result c.args.from c.args.to k after
    (ap (λ (k : LinesKept). k.kept) c.self.view_is) c.place-place.ensures.there
    c.place-place.ensures.first (there at).1 (λ minute first last. learnt_each k.line after
    c.objective_sums-sums.result.now c.args.from c.args.to minute learnt begun first last))
    c.spans_of_line.ensures.learnt
