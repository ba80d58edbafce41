use Rattle.std.proofs.Common.{◌≡◌, ◌++◌, ◌∷◌, [], ◌+◌, true, Option, IfSome, ℕ, ap, sym, subst, ◌∙◌}
use Rattle.std.proofs.Common.{append_assoc, length, length-append, slice_index_or, drop}
use Rattle.notice_box.specs.Box.{IsNext, Made, no_notice, waiting_in, waits}
use Rattle.notice_box.specs.Links.{later_at, no_link}
use Rattle.notice_box.specs.declared.links.Link.{Link}
use Rattle.notice_box.proofs.ListLemmas.{next-waits, rest_of, waiting-here, waiting-next}
use Rattle.notice_box.proofs.notice_box.NoticeBox.first_waiting.Goals as goal

pub loop-count-init : goal.loop-count-init
loop-count-init c =
    let made : c.self.inside.made.items ≡ c.args.self.now.made =
    ap (λ (m : Made). m.made) c.self.view_is in
    let first : IsNext (waits c.args.self.now.made) 0 c.self.inside.first =
    subst (λ m. IsNext (waits m) 0 c.self.inside.first) made c.self.invariant.linked.first_is in
    record {
      rest = ap (λ l. l ++ rest_of c.args.self.now.made c.self.inside.first)
          c.new-notices.ensures.items
          ∙ sym (waiting-next c.args.self.now.made 0 c.self.inside.first first);
      waits = next-waits c.args.self.now.made 0 c.self.inside.first first;
      long = ap length c.new-notices.ensures.items;
    }

pub loop-count-preserved : goal.loop-count-preserved
loop-count-preserved c =
    let made = c.args.self.now.made in
    let place = c.in-Some.place in
    let before = c.loop-count.notices.items in
    let view : c.self.inside.made.items ≡ made = ap (λ (m : Made). m.made) c.self.view_is in
    let w : waits made place ≡ true = subst (λ (o : Option ℕ). IfSome o (λ p. waits made p ≡ true))
    c.in-Some.is c.loop-count.invariant.waits in
    let notice : c.notice_at.result ≡ (slice_index_or made place no_notice).0 = c.notice_at.ensures
    ∙ ap (λ m. (slice_index_or m place no_notice).0) (c.deref.ensures.value ∙ view) in
    let later : c.link_at-next.result.later ≡ later_at c.self.inside.links.items place =
    ap (λ (l : Link). l.later) (c.link_at-next.ensures
    ∙ ap (λ l. slice_index_or l place no_link) c.deref-in-Some.ensures.value) in
    let next : IsNext (waits made) (place + 1) c.link_at-next.result.later =
    subst (λ (o : Option ℕ). IsNext (waits made) (place + 1) o) (sym later)
    (subst (λ m. IsNext (waits m) (place + 1) (later_at c.self.inside.links.items place)) view
    (c.self.invariant.linked.later place (ap (λ m. waits m place) view ∙ w))) in
    let more : waiting_in (drop place made) ≡ c.notice_at.result
    ∷ rest_of made c.link_at-next.result.later =
    waiting-here made place w
    ∙ (λ i. sym notice i ∷ waiting-next made (place + 1) c.link_at-next.result.later next i) in
    let items : c.push.new.self.items ≡ before ++ c.notice_at.result ∷ [] =
    c.in_ok-push-in-Some.ensures.items in
    record {
      rest = ap (λ l. l ++ rest_of made c.link_at-next.result.later) items
          ∙ append_assoc before (c.notice_at.result ∷ []) (rest_of made c.link_at-next.result.later)
          ∙ ap (λ l. before ++ l) (sym more)
          ∙ ap (λ (o : Option ℕ). before ++ rest_of made o) (sym c.in-Some.is)
          ∙ c.loop-count.invariant.rest;
      waits = next-waits made (place + 1) c.link_at-next.result.later next;
      long = ap length items ∙ length-append before (c.notice_at.result ∷ [])
          ∙ ap (λ n. n + 1) c.loop-count.invariant.long;
    }
