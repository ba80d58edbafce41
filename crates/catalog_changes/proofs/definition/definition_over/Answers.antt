use Rattle.std.proofs.Common.{IfOk, rules}
use Rattle.definition_verdict.specs.Made.{IsDefinition}
use Rattle.catalog_changes.specs.Judging.{known_by}
use Rattle.catalog_changes.proofs.ChangeLemmas.{text_put, text_counted, texts_read}
use Rattle.catalog_changes.proofs.definition.definition_over.Goals as goal

pub returns-clause-catalog : goal.returns-clause-catalog
returns-clause-catalog c =
    let h : IfOk c.judge_definition.result
    (λ made. IsDefinition (known_by c.args.derived.now) c.args.text.now made) = search rules in
    text_put (known_by c.args.derived.now) c.args.text.now c.judge_definition.result h

pub returns-clause-objects : goal.returns-clause-objects
returns-clause-objects c =
    let h : IfOk c.judge_definition.result
    (λ made. IsDefinition (known_by c.args.derived.now) c.args.text.now made) = search rules in
    text_counted (known_by c.args.derived.now) c.args.text.now c.judge_definition.result h

pub returns-clause-read : goal.returns-clause-read
returns-clause-read c =
    let h : IfOk c.judge_definition.result
    (λ made. IsDefinition (known_by c.args.derived.now) c.args.text.now made) = search rules in
    texts_read c.texts_have_bodies_of_their_kinds.ensures c.args.derived.now c.args.text.now
    c.judge_definition.result c.requires h
