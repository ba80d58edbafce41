use Rattle.kept_lines.proofs.kept.KeptLines.state_at.Goals as goal

pub state_in-requires-clause-there : goal.state_in-requires-clause-there
state_in-requires-clause-there c =
    (c.args.watch.now, c.place-place.ensures.there, c.requires.watched)

pub returns-clause-value : goal.returns-clause-value
returns-clause-value c = c.state_in.ensures.value c.args.watch.now c.place-place.ensures.there
