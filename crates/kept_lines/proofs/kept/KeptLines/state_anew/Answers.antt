use Rattle.std.proofs.Common.{◌≡◌, List, Some, slice_get, subst, sym}
use Rattle.office_history.specs.Alerts.{Watch}
use Rattle.kept_lines.specs.Lines.{watches_of}
use Rattle.kept_lines.specs.Sums.{samples_of}
use Rattle.kept_lines.proofs.KnownLemmas.{know_on}
use Rattle.kept_lines.proofs.LineLemmas.{within}
use Rattle.kept_lines.proofs.kept.KeptLines.state_anew.Goals as goal
use Rattle.kept_lines.proofs.kept.KeptLines.state_anew.Goals.{After-remember}

-- the alert stands there still
still : (c : After-remember) →
    slice_get (watches_of c.remember.new.self.kept) c.place_near-place.result
    ≡ Some c.args.watch.now
still c =
    subst (λ (ws : List Watch). slice_get ws c.place_near-place.result ≡ Some c.args.watch.now)
    (sym c.remember.ensures.watches) c.place_near-place.ensures

pub remember-requires : goal.remember-requires
remember-requires c = record {
  within =
      within c.args.watch.now c.args.self.now.kept c.place_near-place.result
      c.place_near-place.ensures;
}

pub state_in-requires-clause-lines : goal.state_in-requires-clause-lines
state_in-requires-clause-lines c =
    let d = c.args.derived.now in
    c.remember.ensures.lines d.origin d.catalog (samples_of d.book) c.args.watch.now
    c.requires.lines c.place_near-place.ensures c.requires.binding

pub state_in-requires-clause-there : goal.state_in-requires-clause-there
state_in-requires-clause-there c = (
  c.args.watch.now,
  still (goal.at.state_in-requires-clause-there c).After-remember,
  c.requires.watched,
)

pub returns-clause-value : goal.returns-clause-value
returns-clause-value c =
    c.state_in.ensures.value c.args.watch.now
    (still (goal.at.returns-clause-value c).After-remember)

pub returns-clause-know : goal.returns-clause-know
returns-clause-know c =
    know_on c.args.self.now.kept c.remember.new.self.kept c.state_in.new.self.kept
    c.remember.ensures.know c.state_in.ensures.know
