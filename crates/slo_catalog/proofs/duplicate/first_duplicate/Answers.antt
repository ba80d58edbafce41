use Rattle.std.proofs.Common.{rules, ◌≡◌, true}
use Rattle.catalog_terms.specs.Keys.{member_of}
use Rattle.catalog_terms.specs.Define.{is_other_than}
use Rattle.slo_catalog.proofs.DuplicateLemmas.{ends_at, stops_at}
use Rattle.slo_catalog.proofs.duplicate.first_duplicate.Goals as goal

pub returns-then-branch : goal.returns-then-branch
returns-then-branch c =
    let item = c.member-item.result in
    let other : is_other_than (member_of c.loop-member.earlier item.kind item.name) item ≡ true =
    search rules in
    stops_at c.loop-member.earlier c.args.objects.now c.loop-member.member-index item
    c.loop-member-test.true c.member-item.is other c.loop-member.invariant

pub returns : goal.returns
returns c = ends_at c.loop-member.earlier c.args.objects.now c.loop-member.member-index
    c.loop-member-test.false c.loop-member.invariant
