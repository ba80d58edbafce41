use Rattle.std.proofs.Common.{rules, true, None, Bool, ◌≡◌, ◌∷◌, [], ◌++◌, ◌+◌, ◌-◌, Some, Option}
use Rattle.std.proofs.Common.{ℕ, List, ap, sym, subst, ◌∙◌, arith, length}
use Rattle.notice_box.specs.Box.{Made}
use Rattle.notice_box.specs.declared.links.Link.{Link}
use Rattle.notice_box.specs.Links.{NoticesAreKept, if_there}
use Rattle.notice_box.specs.declared.notice.Notice.{Notice}
use Rattle.notice_box.proofs.BoxLemmas.{NoticesAreKept-pushed, waiting-few}
use Rattle.notice_box.proofs.notice_box.NoticeBox.push.Goals as goal

pub overflow_add-self : goal.overflow_add-self
overflow_add-self c =
    let same = ap (λ (m : Made). length m.made) c.self.view_is in
    let few = waiting-few c.self.inside.made.items c.self.inside.waiting c.self.invariant.count in
    omega (arith, few, same, c.requires.number)

pub invariant_of-self : goal.invariant_of-self
invariant_of-self c =
    let inside = c.self.inside in
    let same : length inside.made.items ≡ length c.args.self.now.made =
    ap (λ (m : Made). length m.made) c.self.view_is in
    let number : c.args.value.number ≡ length inside.made.items + 1 = c.requires.number
    ∙ ap (λ n. n + 1) (sym same) in
    let link : Link = record { earlier = inside.last; later = None } in
    let made_is : c.extend_from_slice-2.new.self.items ≡ inside.made.items ++ (
      c.args.value,
      true,
    ) ∷ [] = search rules in
    let links_is : c.extend_from_slice.new.self.items ≡ c.go_on-self-inside.new.links.items
    ++ link ∷ [] = search rules in
    let core =
    NoticesAreKept-pushed inside.made.items inside.links.items c.go_on-self-inside.new.links.items
    inside.first inside.last inside.waiting c.args.value c.self.invariant number (omega arith)
    c.go_on-self-inside.ensures.later c.go_on-self-inside.ensures.earlier
    c.go_on-self-inside.ensures.len in
    subst (λ (first : Option ℕ). NoticesAreKept c.extend_from_slice-2.new.self.items
    c.extend_from_slice.new.self.items first (Some (c.args.value.number - 1))
    (inside.waiting + 1)) (sym c.go_on-self-inside.ensures.first)
    (subst (λ (made : List (Notice × Bool)). NoticesAreKept made c.extend_from_slice.new.self.items
    (if_there inside.last inside.first (Some (c.args.value.number - 1)))
    (Some (c.args.value.number - 1)) (inside.waiting + 1)) (sym made_is)
    (subst (λ (links : List Link). NoticesAreKept (inside.made.items ++ (c.args.value, true) ∷ [])
    links (if_there inside.last inside.first (Some (c.args.value.number - 1)))
    (Some (c.args.value.number - 1)) (inside.waiting + 1)) (sym links_is) core))
