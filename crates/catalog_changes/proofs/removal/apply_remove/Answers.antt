use Rattle.std.proofs.Common.{[]}
use Rattle.catalog_changes.proofs.ChangeLemmas.{remove_reflects, remove_sound}
use Rattle.catalog_changes.proofs.PlanLemmas.{plan_taken}
use Rattle.catalog_changes.proofs.removal.apply_remove.Goals as goal

pub returns-clause-reflects : goal.returns-clause-reflects
returns-clause-reflects c o next =
    remove_reflects c.args.derived.now o c.args.moment c.args.kind c.args.name c.args.catalog
    c.args.plan c.take.new.self next

pub returns-clause-sound : goal.returns-clause-sound
returns-clause-sound c =
    let d = c.args.derived.now in
    remove_sound d c.requires.next.0 c.args.moment c.args.kind c.args.name c.args.catalog
    c.args.plan c.take.new.self c.requires.sound c.requires.next.1
    (λ is. plan_taken d.catalog c.args.catalog d.book.exclusions d.book.rows c.args.plan d.sums
    c.take.new.self c.requires.sound.sums is (record {
      own = c.take.ensures.own d.book.exclusions d.book.rows;
      pooled = c.take.ensures.pooled [] d.book.rows;
      own_wanted = c.take.ensures.own_wanted;
      pooled_wanted = c.take.ensures.pooled_wanted;
      own_there = c.take.ensures.own_there;
      pooled_there = c.take.ensures.pooled_there;
    }))
