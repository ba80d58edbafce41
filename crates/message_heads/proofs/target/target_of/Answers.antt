use Rattle.std.proofs.Common.{rules, lit<, ◌≡◌, ◌≤◌, ◌∙◌, List, ℕ, slice_range, arith, length, sym}
use Rattle.std.proofs.Common.{ap}
use Rattle.std.proofs.lemmas.Str.Pattern.{split_once_first}
use Rattle.message_heads.specs.Hearing.{IsMessage}
use Rattle.message_heads.specs.Targets.{query_of}
use Rattle.message_heads.proofs.TargetLemmas.{query_some, query_none}
use Rattle.message_heads.proofs.target.target_of.Goals as goal

pub slice_bounds-target-end : goal.slice_bounds-target-end
slice_bounds-target-end c = let (n, h, is) = c.requires in let w = is.within in
    let a = is.places.1.0 in let b = is.places.1.1 in search (rules, w, a, b)

pub returns-in-Some-clause-query : goal.returns-in-Some-clause-query
returns-in-Some-clause-query c =
    let h = split_once_first 63 c.in-Ok.text.now c.split_once.result
    c.split_once.ensures.cases (lit< tt) in
    let cut = rw c.in-Some.is at h in
    let text : c.in-Ok.text.now ≡ slice_range c.args.bytes.now c.args.message.now.target.0
    c.args.message.now.target.1 = search rules in
    query_some c.in-Ok.text.now c.as_bytes.result.now cut.0 (c.as_bytes.ensures.value ∙ cut.2)
    ∙ ap query_of text

pub returns-in-None-clause-query : goal.returns-in-None-clause-query
returns-in-None-clause-query c =
    let h = split_once_first 63 c.in-Ok.text.now c.split_once.result
    c.split_once.ensures.cases (lit< tt) in
    let cut = rw c.in-None.is at h in
    let text : c.in-Ok.text.now ≡ slice_range c.args.bytes.now c.args.message.now.target.0
    c.args.message.now.target.1 = search rules in
    query_none c.in-Ok.text.now cut ∙ ap query_of text
