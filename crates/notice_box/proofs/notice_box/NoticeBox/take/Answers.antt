use Rattle.std.proofs.Common.{◌≡◌, ◌+◌, ◌-◌, ◌<◌, true, false, Bool, Option, ℕ, List, ap, sym}
use Rattle.std.proofs.Common.{subst, ◌∙◌, arith, length, slice_index_or, if◌then◌else◌}
use Rattle.notice_box.specs.Box.{Made, count_waiting, no_notice, after_taking, waits}
use Rattle.notice_box.specs.Links.{NoticesAreKept, earlier_at, if_there, is_at, later_at, no_link}
use Rattle.notice_box.proofs.BoxLemmas.{NoticesAreKept-taken, let_go}
use Rattle.notice_box.specs.declared.notice.Notice.{Notice}
use Rattle.notice_box.proofs.ListLemmas.{count-set, taken-idle, taken-set}
use Rattle.notice_box.proofs.notice_box.NoticeBox.take.Goals as goal

pub returns-then-not-waits_at-clause-made : goal.returns-then-not-waits_at-clause-made
returns-then-not-waits_at-clause-made c =
    let made = c.self.inside.made.items in
    let same : made ≡ c.args.self.now.made = ap (λ (m : Made). m.made) c.self.view_is in
    let whole : 1 + (c.args.number - 1) ≡ c.args.number = omega (arith, c.if-number-eq0.false) in
    let idle : waits made (c.args.number - 1) ≡ false =
    ap (λ m. waits m (c.args.number - 1)) (sym c.deref.ensures.value) ∙ sym c.waits_at.ensures
    ∙ c.if-not-waits_at.true in
    subst (λ m. m ≡ after_taking m c.args.number) same (taken-idle 1 made (c.args.number - 1)
    c.self.invariant.numbered idle ∙ ap (after_taking made) whole)

pub overflow_sub-self : goal.overflow_sub-self
overflow_sub-self c =
    let made = c.self.inside.made.items in
    let w : waits made (c.args.number - 1) ≡ true =
    ap (λ m. waits m (c.args.number - 1)) (sym c.deref.ensures.value) ∙ sym c.waits_at.ensures
    ∙ c.if-not-waits_at.false in
    omega (
      arith,
      count-set made (c.args.number - 1)
          (slice_index_or made (c.args.number - 1) no_notice).0 w,
      c.self.invariant.count,
    )

pub invariant_of-self : goal.invariant_of-self
invariant_of-self c =
    let inside = c.self.inside in
    let made = inside.made.items in
    let place = c.args.number - 1 in
    let w : waits made place ≡ true =
    ap (λ m. waits m (c.args.number - 1)) (sym c.deref.ensures.value) ∙ sym c.waits_at.ensures
    ∙ c.if-not-waits_at.false in
    let same : length made ≡ length c.args.self.now.made =
    ap (λ (m : Made). length m.made) c.self.view_is in
    let lt : place < length made = omega (
      arith,
      c.if-number-eq0.false,
      c.if-number-count.false,
      c.count.ensures,
      same,
    ) in
    let links = inside.links.items in
    let after = c.come_from-self-inside.new.links.items in
    let e = earlier_at links place in
    let l = later_at links place in
    let link : c.link_at-link.result ≡ slice_index_or links place no_link = c.link_at-link.ensures
    ∙ ap (λ ls. slice_index_or ls place no_link) c.deref-2.ensures.value in
    let first_is : c.go_on-self-inside.result ≡ if_there e inside.first l =
    c.go_on-self-inside.ensures.first
    ∙ (λ i. if_there (link i).earlier inside.first (link i).later) in
    let last_is : c.come_from-self-inside.result ≡ if_there l inside.last e =
    c.come_from-self-inside.ensures.last
    ∙ (λ i. if_there (link i).later inside.last (link i).earlier) in
    let core : NoticesAreKept (let_go made place) after (if_there e inside.first l)
    (if_there l inside.last e) (inside.waiting - 1) =
    NoticesAreKept-taken made links after inside.first inside.last inside.waiting place
    c.self.invariant lt w
    (λ k. c.come_from-self-inside.ensures.later k ∙ c.go_on-self-inside.ensures.later k
    ∙ (λ i. if is_at (link i).earlier k then (link i).later else later_at links k))
    (λ k. c.come_from-self-inside.ensures.earlier k
    ∙ ap (λ (x : Option ℕ). if is_at c.link_at-link.result.later k
    then c.link_at-link.result.earlier else x) (c.go_on-self-inside.ensures.earlier k)
    ∙ (λ i. if is_at (link i).later k then (link i).earlier else earlier_at links k))
    (c.come_from-self-inside.ensures.len ∙ c.go_on-self-inside.ensures.len) in
    subst (λ (last : Option ℕ). NoticesAreKept c.let_go.new.made.items after
    c.go_on-self-inside.result last
    (inside.waiting - 1)) (sym last_is)
    (subst (λ (first : Option ℕ). NoticesAreKept c.let_go.new.made.items after first
    (if_there l inside.last e) (inside.waiting - 1)) (sym first_is)
    (subst (λ (m : List (Notice × Bool)). NoticesAreKept m after (if_there e inside.first l)
    (if_there l inside.last e) (inside.waiting - 1)) (sym c.let_go.ensures.made) core))

pub returns-clause-made : goal.returns-clause-made
returns-clause-made c =
    let made = c.self.inside.made.items in
    let all : made ≡ c.args.self.now.made = ap (λ (m : Made). m.made) c.self.view_is in
    let same : length made ≡ length c.args.self.now.made = ap length all in
    let lt : c.args.number - 1 < length made = omega (
      arith,
      c.if-number-eq0.false,
      c.if-number-count.false,
      c.count.ensures,
      same,
    ) in
    let whole : 1 + (c.args.number - 1) ≡ c.args.number = omega (arith, c.if-number-eq0.false) in
    c.let_go.ensures.made ∙ taken-set 1 made (c.args.number - 1) no_notice lt
    c.self.invariant.numbered
    ∙ (λ i. after_taking (all i) (whole i))

pub returns-clause-one : goal.returns-clause-one
returns-clause-one c =
    let made = c.self.inside.made.items in
    let w : waits made (c.args.number - 1) ≡ true =
    ap (λ m. waits m (c.args.number - 1)) (sym c.deref.ensures.value) ∙ sym c.waits_at.ensures
    ∙ c.if-not-waits_at.false in
    let all = ap (λ (m : Made). count_waiting m.made) c.self.view_is in
    omega (
      arith,
      count-set made (c.args.number - 1) (slice_index_or made (c.args.number - 1) no_notice).0 w,
      all,
      ap count_waiting c.let_go.ensures.made,
    )
