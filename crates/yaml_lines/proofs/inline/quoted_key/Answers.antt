use Rattle.std.proofs.Common.{◌≤◌, Option, length, length-drop, subst, ap, ◌∙◌}
use Rattle.std.specs.Option.{IfSome}
use Rattle.yaml_lines.specs.declared.quoted.Quoted.{Quoted}
use Rattle.yaml_lines.proofs.LineLemmas.{key_within}
use Rattle.yaml_lines.proofs.inline.quoted_key.Goals as goal

pub returns-then-ends_word-clause-within : goal.returns-then-ends_word-clause-within
returns-then-ends_word-clause-within c =
    key_within c.in-Some.quoted.length c.spaces-blank.result (length c.args.rest.now)
    (length c.from-behind.result.now) c.byte_at.result
    (subst (λ (o : Option Quoted). IfSome o (λ q. q.length ≤ length c.args.rest.now))
    c.in-Some.is c.requires)
    (ap length c.from-behind.ensures ∙ length-drop c.in-Some.quoted.length c.args.rest.now)
    c.if-byte_at-eq58.true c.byte_at.ensures.inside
