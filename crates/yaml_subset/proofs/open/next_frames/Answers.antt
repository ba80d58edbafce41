use Rattle.std.proofs.Common.{◌≡◌, ◌+◌, true, List, [], ◌∷◌, ◌++◌, Some, length, take, drop, map}
use Rattle.std.proofs.Common.{Option, None, option_map, subst, sym, ap, ◌∙◌, arith}
use Rattle.yaml_terms.specs.Mark.{start}
use Rattle.yaml_terms.specs.Profile.{is_next, is_repeated, with_child}
use Rattle.yaml_terms.specs.OpenNodes.{node_so_far, nothing}
use Rattle.yaml_terms.specs.NodeView.{node_view}
use Rattle.yaml_lines.specs.LineView.{mark_view}
use Rattle.yaml_subset.specs.OpenView.{GoesOn, child, done_of, head_of, open_of, last_view}
use Rattle.yaml_subset.specs.OpenView.{stream_of}
use Rattle.yaml_subset.specs.declared.frame.Frame.{Frame}
use Rattle.yaml_subset.proofs.OpenViewLemmas.{is_there, next_taken, next_refused, long_before}
use Rattle.yaml_subset.proofs.open.next_frames.Goals as goal
use Rattle.yaml_subset.proofs.open.next_frames.Goals.{In-Some}

-- the frames up to the place, the last of which goes on
cut : (c : In-Some) → take (c.args.at + 1) c.args.frames.now.items
    ≡ c.pop.new.self.items ++ (c.in-Some.frame ∷ [])
cut c = sym c.in_ok-value.ensures.kept ∙ c.in-Some.ensures.items

long : (c : In-Some) → length c.pop.new.self.items ≡ c.args.at
long c = long_before c.args.frames.now.items c.pop.new.self.items c.in-Some.frame c.args.at (cut c)
    (omega (arith, c.requires.inside, c.args.frames.now.ok.0))

-- what the frames behind the place are
value : (c : In-Some) → option_map node_view c.in_ok-value.value
    ≡ node_so_far (open_of (drop (c.args.at + 1) c.args.frames.now.items) (last_view c.args.last))
value c = c.in_ok-value.ensures.value

-- the mark begins the next entry or item of the frame that goes on
follows : (c : In-Some) → is_next (head_of c.in-Some.frame) (mark_view c.args.mark) ≡ true
follows c = is_there [] c.args.frames.now.items c.pop.new.self.items c.in-Some.frame c.args.at
    (last_view c.args.last) (mark_view c.args.mark) (option_map node_view c.in_ok-value.value)
    (cut c) c.requires.place (long c) c.requires.no_start (value c)

pub next-requires : goal.next-requires
next-requires c = follows (goal.at.next-requires c).In-Some

pub returns-in-Ok-None-clause-refused : goal.returns-in-Ok-None-clause-refused
returns-in-Ok-None-clause-refused c docs =
    let at = (goal.at.returns-in-Ok-None-clause-refused c).In-Some in
    let f = c.in-Some.frame in
    let v = option_map node_view c.in_ok-value.value in
    let m = mark_view c.args.mark in
    let old : is_repeated m (with_child (done_of f) (head_of f) None) ≡ true =
    subst (λ (o : Option Frame). GoesOn f v m o) c.in-Ok-None.field-0-is c.in-Ok-None.ensures in
    next_refused (map (child start) docs) c.args.frames.now.items c.pop.new.self.items f c.args.at
    (last_view c.args.last) m v (cut at) c.requires.place (long at) c.requires.no_start (value at)
    old

pub returns-in_ok-push-in-Ok-Some-clause-ok : goal.returns-in_ok-push-in-Ok-Some-clause-ok
returns-in_ok-push-in-Ok-Some-clause-ok c docs =
    let at = (goal.at.returns-in_ok-push-in-Ok-Some-clause-ok c).In-Some in
    let f = c.in-Some.frame in
    let v = option_map node_view c.in_ok-value.value in
    let m = mark_view c.args.mark in
    let goes : GoesOn f v m (Some c.in-Ok-Some.frame) =
    subst (λ (o : Option Frame). GoesOn f v m o) c.in-Ok-Some.field-0-is c.in-Ok-Some.ensures in
    next_taken (map (child start) docs) c.args.frames.now.items c.pop.new.self.items f c.args.at
    (last_view c.args.last) m v (cut at) c.requires.place (long at) c.requires.no_start (value at)
    c.in-Ok-Some.frame goes.0 goes.1 goes.2
    ∙ ap (λ (fs : List Frame). Some (stream_of docs fs nothing))
    (sym c.in_ok-push-in-Ok-Some.ensures.items)
