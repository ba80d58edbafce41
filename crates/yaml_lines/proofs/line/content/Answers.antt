use Rattle.std.proofs.Common.{◌≡◌, ◌+◌, length, length-drop, drop, get_or, sym, ap, ◌∙◌}
use Rattle.yaml_terms.specs.Line.{Line, content, entry_or_value, key_of}
use Rattle.yaml_lines.specs.LineView.{line_view, joined_lines, ahead_of, blank_seen, dash_seen}
use Rattle.yaml_lines.specs.declared.line.Ahead.TheVariants.{Blank, Comment, Dash, Entry}
use Rattle.yaml_lines.proofs.LineLemmas.{content_blank, content_comment, content_dash, content_end}
use Rattle.yaml_lines.proofs.LineLemmas.{content_entry, entry_fits}
use Rattle.yaml_terms.proofs.Failures.{no_ok}
use Rattle.yaml_lines.proofs.line.content.Goals as goal
use Rattle.yaml_lines.proofs.line.content.Goals.{in-Blank, in-Dash+in_ok-line-in-Dash}

pub returns-in-Comment : goal.returns-in-Comment
returns-in-Comment c =
    let at = c.loop-at.at in
    let bytes = c.args.bytes.now in
    let e : ahead_of (get_or bytes at 0) (drop (at + 1) bytes) ≡ Comment =
    ap (ahead_of (get_or bytes at 0)) (sym c.from.ensures) ∙ sym c.begun_by.ensures
    ∙ c.in-Comment.is in
    sym (content_comment (line_view c.loop-at.line) bytes c.args.column at c.loop-at-test.true e)
    ∙ c.loop-at.invariant

pub returns-in-Entry : goal.returns-in-Entry
returns-in-Entry c =
    let at = c.loop-at.at in
    let bytes = c.args.bytes.now in
    let e : ahead_of (get_or bytes at 0) (drop (at + 1) bytes) ≡ Entry =
    ap (ahead_of (get_or bytes at 0)) (sym c.from.ensures) ∙ sym c.begun_by.ensures
    ∙ c.in-Entry.is in
    let same : line_view c.in_ok-rest-in-Entry.rest
    ≡ entry_or_value (c.args.column + at) (drop at bytes) (key_of (drop at bytes)) =
    rw (← c.from-in-Entry.ensures) (c.in_ok-rest-in-Entry.ensures) in
    c.in_ok-whole-in-Entry.ensures ∙ ap (joined_lines (line_view c.loop-at.line)) same
    ∙ sym (content_entry (line_view c.loop-at.line) bytes c.args.column at c.loop-at-test.true e)
    ∙ c.loop-at.invariant

pub loop-at-preserved : goal.loop-at-preserved
loop-at-preserved c =
    let at = c.loop-at.at in
    let bytes = c.args.bytes.now in
    elim c.match-begun_by.branch [
      | in-Blank w ↦
          let e : ahead_of (get_or bytes at 0) (drop (at + 1) bytes) ≡ Blank =
          ap (ahead_of (get_or bytes at 0)) (sym c.from.ensures) ∙ sym c.begun_by.ensures
          ∙ w.in-Blank.is in
          let more = content_blank (line_view c.loop-at.line) bytes c.args.column at
          c.loop-at-test.true e in
          let seen : line_view c.match-begun_by.line ≡ blank_seen (line_view c.loop-at.line)
          (get_or bytes at 0) = ap line_view w.line-is ∙ w.with_blank-line.ensures in
          ap (λ (x : Line). joined_lines x
          (content (c.args.column + (at + 1)) (drop (at + 1) bytes)))
          seen ∙ sym more ∙ c.loop-at.invariant
      | in-Dash+in_ok-line-in-Dash w ↦
          let e : ahead_of (get_or bytes at 0) (drop (at + 1) bytes) ≡ Dash =
          ap (ahead_of (get_or bytes at 0)) (sym c.from.ensures) ∙ sym c.begun_by.ensures
          ∙ w.in-Dash.is in
          let more = content_dash (line_view c.loop-at.line) bytes c.args.column at
          c.loop-at-test.true e in
          let seen : line_view c.match-begun_by.line ≡ dash_seen (line_view c.loop-at.line)
          (c.args.column + at) = ap line_view w.line-is ∙ w.in_ok-line-in-Dash.ensures in
          ap (λ (x : Line). joined_lines x
          (content (c.args.column + (at + 1)) (drop (at + 1) bytes)))
          seen ∙ sym more ∙ c.loop-at.invariant
    ]

pub entry-requires : goal.entry-requires
entry-requires c =
    entry_fits c.args.column c.loop-at.at (length c.args.bytes.now)
    (length c.from-in-Entry.result.now) c.requires c.loop-at-test.true
    (ap length c.from-in-Entry.ensures ∙ length-drop c.loop-at.at c.args.bytes.now)

pub returns-in_err-line-in-Dash : goal.returns-in_err-line-in-Dash
returns-in_err-line-in-Dash c = no_ok _ _ c.from_residual.result c.from_residual.ensures.1

pub returns-in_err-rest-in-Entry : goal.returns-in_err-rest-in-Entry
returns-in_err-rest-in-Entry c = no_ok _ _ c.from_residual-in_err-rest-in-Entry.result
    c.from_residual-in_err-rest-in-Entry.ensures.1

pub returns : goal.returns
returns c = content_end (line_view c.loop-at.line) (content c.args.column c.args.bytes.now)
    c.args.bytes.now c.args.column c.loop-at.at c.loop-at-test.false c.loop-at.invariant
