use Rattle.std.proofs.Common.{◌≡◌, ◌∙◌, ◌<◌, IfSome, ap, arith, length, subst, sym}
use Rattle.window_sums.specs.Slices.{width_of}
use Rattle.alert_line.specs.Summed.{AreSummedAt}
use Rattle.line_forgetting.specs.Right.{IsRight}
use Rattle.office_history.specs.Alerts.{Watch, state_at}
use Rattle.office_history.specs.Counts.{leaf_at}
use Rattle.office_history.specs.declared.Measure.{Measure}
use Rattle.kept_sums.specs.Objectives.{IsObjective}
use Rattle.kept_lines.specs.Carried.{HaveSameLeaves}
use Rattle.kept_lines.specs.Lines.{LinesKept}
use Rattle.kept_lines.specs.Sums.{AreSums, samples_of}
use Rattle.kept_lines.proofs.CarriedLemmas.{of-sums, over-sums}
use Rattle.kept_lines.proofs.KnownLemmas.{know_there}
use Rattle.kept_lines.proofs.LineLemmas.{agrees_there, found, is_minute, keeps_there}
use Rattle.kept_lines.proofs.LineLemmas.{objective_watched, one_there, place_within, right_again}
use Rattle.kept_lines.proofs.LineLemmas.{seen_state, watches_there}
use Rattle.kept_lines.proofs.kept.KeptLines.state_in.Goals as goal
use Rattle.kept_lines.proofs.kept.KeptLines.state_in.Goals.{After-go_on_to, After-index_mut}
use Rattle.kept_lines.proofs.kept.KeptLines.state_in.Goals.{After-measure-measure}

pub index-requires : goal.index-requires
index-requires c =
    let lines = c.self.inside.lines in
    let less : c.args.place < length lines.items =
    place_within c.requires.there.0 c.args.self.now.kept lines.items c.args.place
    (ap (λ (k : LinesKept). k.kept) c.self.view_is) c.requires.there.1 in
    omega (arith, less, lines.ok.0)

-- the objective that is read is the one of the alert that stands there
measured : (c : After-measure-measure) →
    c.measure-measure.result.now ≡ c.requires.there.0.measure
measured c =
    let d = c.args.derived.now in
    c.measure-measure.ensures.value
    ∙ ap (λ (w : Watch). w.measure)
    (found d.origin (samples_of d.book) c.requires.there.0 c.args.self.now.kept
    c.self.inside.lines.items c.args.place c.index.result.now
    (ap (λ (k : LinesKept). k.kept) c.self.view_is) c.requires.lines.right
    c.requires.there.1 c.index.ensures).1

pub objective_sums_at-sums-requires-clause-objective :
    goal.objective_sums_at-sums-requires-clause-objective
objective_sums_at-sums-requires-clause-objective c =
    let at = goal.at.objective_sums_at-sums-requires-clause-objective c in
    let members = c.args.derived.now.catalog in
    subst (IsObjective members) (sym (measured at.After-measure-measure))
    (objective_watched members c.requires.there.0 c.requires.there.2)

pub index_mut-requires : goal.index_mut-requires
index_mut-requires c =
    let lines = c.self.inside.lines in
    let less : c.args.place < length lines.items =
    place_within c.requires.there.0 c.args.self.now.kept lines.items c.args.place
    (ap (λ (k : LinesKept). k.kept) c.self.view_is) c.requires.there.1 in
    omega (arith, less, lines.ok.0)

-- the line at the place is right, and it is the alert's
there : (c : After-index_mut) → IsRight c.args.derived.now.origin
    (samples_of c.args.derived.now.book) c.requires.there.0 c.index_mut.result.now.line
    × (c.index_mut.result.now.watch ≡ c.requires.there.0)
there c =
    let d = c.args.derived.now in
    found d.origin (samples_of d.book) c.requires.there.0 c.args.self.now.kept
    c.self.inside.lines.items c.args.place c.index_mut.result.now
    (ap (λ (k : LinesKept). k.kept) c.self.view_is) c.requires.lines.right
    c.requires.there.1 c.index_mut.ensures.value

-- the sums are those of its objective
are : (c : After-index_mut) → c.measure-measure.result.now ≡ c.requires.there.0.measure →
    AreSums (samples_of c.args.derived.now.book) c.requires.there.0.measure
    c.objective_sums_at-sums.result.now
are c same =
    subst (λ (m : Measure). AreSums (samples_of c.args.derived.now.book) m
    c.objective_sums_at-sums.result.now) same c.objective_sums_at-sums.ensures.sums

pub state_of_line-requires-clause-minute : goal.state_of_line-requires-clause-minute
state_of_line-requires-clause-minute c =
    let at = (goal.at.state_of_line-requires-clause-minute c).After-index_mut in
    is_minute c.args.derived.now.origin c.args.minute c.index_mut.result.now.line
    (there at).0.origin c.requires.begun c.requires.in_range

pub state_of_line-requires-clause-agrees : goal.state_of_line-requires-clause-agrees
state_of_line-requires-clause-agrees c =
    let at = goal.at.state_of_line-requires-clause-agrees c in
    let d = c.args.derived.now in
    agrees_there d.origin (samples_of d.book) c.requires.there.0 c.index_mut.result.now.line
    c.objective_sums_at-sums.result.now (there at.After-index_mut).0
    (are at.After-index_mut (measured at.After-measure-measure))

-- the windows that are carried are over what it counts
carried : (c : After-go_on_to) → c.measure-measure.result.now ≡ c.requires.there.0.measure →
    AreSummedAt (width_of c.requires.there.0.measure.method)
    (leaf_at (samples_of c.args.derived.now.book) c.requires.there.0.measure) c.args.minute
    c.go_on_to.new.self.windows
carried c same =
    subst (λ (m : Measure). AreSummedAt (width_of m.method)
    (leaf_at (samples_of c.args.derived.now.book) m) c.args.minute c.go_on_to.new.self.windows)
    same (c.go_on_to.ensures.windows c.args.minute c.requires.hint)

pub state_of_line-requires-clause-windows : goal.state_of_line-requires-clause-windows
state_of_line-requires-clause-windows c =
    let at = goal.at.state_of_line-requires-clause-windows c in
    let same = measured at.After-measure-measure in
    over-sums (samples_of c.args.derived.now.book) c.requires.there.0.measure
    c.objective_sums_at-sums.result.now c.args.minute c.go_on_to.new.self.windows
    (are at.After-index_mut same) (carried at.After-go_on_to same)

pub returns-clause-hint : goal.returns-clause-hint
returns-clause-hint c =
    let at = goal.at.returns-clause-hint c in
    let s = samples_of c.args.derived.now.book in
    let same = measured at.After-measure-measure in
    let leaves = subst (λ (m : Measure). IfSome c.go_on_to.new.self.measure
    (λ (own : Measure). HaveSameLeaves s own m)) same c.go_on_to.ensures.same in
    of-sums s c.requires.there.0.measure c.objective_sums_at-sums.result.now c.args.minute
    c.go_on_to.new.self.measure c.state_of_line.new.windows (are at.After-index_mut same) leaves
    c.state_of_line.ensures.windows

pub returns-clause-value : goal.returns-clause-value
returns-clause-value c = λ w e.
    let at = goal.at.returns-clause-value c in
    let d = c.args.derived.now in
    let s = samples_of d.book in
    c.state_of_line.ensures.value
    ∙ seen_state d.origin s c.requires.there.0 c.index_mut.result.now.line
    c.objective_sums_at-sums.result.now c.args.minute (there at.After-index_mut).0
    (are at.After-index_mut (measured at.After-measure-measure))
    ∙ ap (λ (v : Watch). state_at d.origin s v c.args.minute)
    (one_there c.args.self.now.kept c.args.place c.requires.there.0 w c.requires.there.1 e)

pub returns-clause-lines : goal.returns-clause-lines
returns-clause-lines c =
    let at = goal.at.returns-clause-lines c in
    let d = c.args.derived.now in
    let s = samples_of d.book in
    let w = c.requires.there.0 in
    let k = c.index_mut.result.now in
    let after = c.state_of_line.new.line in
    keeps_there d.origin d.catalog s w c.args.self.now.kept c.self.inside.lines.items
    c.args.place k after (ap (λ (k : LinesKept). k.kept) c.self.view_is)
    c.requires.lines c.requires.there.1 c.index_mut.ensures.value c.requires.there.2
    (there at.After-index_mut).1
    (right_again d.origin s w k.line after c.objective_sums_at-sums.result.now
    (there at.After-index_mut).0 (are at.After-index_mut (measured at.After-measure-measure))
    c.state_of_line.ensures.alert c.state_of_line.ensures.agrees)

pub returns-clause-watches : goal.returns-clause-watches
returns-clause-watches c =
    watches_there c.requires.there.0 c.args.self.now.kept c.self.inside.lines.items
    c.args.place c.index_mut.result.now c.state_of_line.new.line
    (ap (λ (k : LinesKept). k.kept) c.self.view_is) c.requires.there.1
    (there (goal.at.returns-clause-watches c).After-index_mut).1

pub returns-clause-know : goal.returns-clause-know
returns-clause-know c =
    know_there c.args.self.now.kept c.self.inside.lines.items c.args.place
    c.index_mut.result.now c.state_of_line.new.line
    (ap (λ (k : LinesKept). k.kept) c.self.view_is)
    c.index_mut.ensures.value c.state_of_line.ensures.alert c.state_of_line.ensures.kept
