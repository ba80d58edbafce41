use Rattle.std.proofs.Common.{subst, List}
use Rattle.exact_fraction.specs.declared.leaf.Leaf.{Leaf}
use Rattle.sum_pages.specs.Pages.{IsPage}
use Rattle.sum_pages.proofs.PageFacts.{leaves-few}
use Rattle.sum_pages.proofs.page.Page.are_few.Goals as goal

pub returns-clause-part : goal.returns-clause-part
returns-clause-part c =
    let leaves : List Leaf = c.args.self.now in
    let page = subst (λ l. IsPage l c.self.inside.hours.items c.self.inside.total) c.self.view_is
    c.self.invariant in
    (leaves-few leaves c.self.inside.hours.items c.self.inside.total page c.args.from c.args.to
    c.requires.order c.requires.within).0

pub returns-clause-few : goal.returns-clause-few
returns-clause-few c =
    let leaves : List Leaf = c.args.self.now in
    let page = subst (λ l. IsPage l c.self.inside.hours.items c.self.inside.total) c.self.view_is
    c.self.invariant in
    (leaves-few leaves c.self.inside.hours.items c.self.inside.total page c.args.from c.args.to
    c.requires.order c.requires.within).1
