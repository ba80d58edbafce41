use Rattle.std.proofs.Common.{ℕ, ◌≡◌, ◌∙◌, ◌-◌, ◌*◌, ◌&&◌, min, refl, ap, sym, subst, length}
use Rattle.std.proofs.Common.{arith, nat_le, nat_lt, List, None, if◌then◌else◌}
use Rattle.std.specs.Prelude.{vec_capacity}
use Rattle.alert_line.specs.Laws.{HasForgotten}
use Rattle.alert_line.specs.Line.{Agrees, Line, knowledge}
use Rattle.alert_line.specs.Minutes.{Forgets}
use Rattle.alert_line.proofs.LineLemmas.{Agrees-forgotten, known-forgotten}
use Rattle.alert_line.proofs.line.AlertLine.mark.Goals as goal
use Rattle.alert_line.proofs.line.AlertLine.mark.Goals.{After-forget_in}

-- the line with these bytes
abbrev line_with : After-forget_in → List ℕ → ℕ → Line
line_with c bytes room = record {
  rule = c.self.inside.rule;
  target = c.self.inside.target;
  origin = c.self.inside.origin;
  bytes = bytes;
  room = room;
}

abbrev line_before : After-forget_in → Line
line_before c = line_with c c.self.inside.bytes.items (vec_capacity c.self.inside.bytes)

abbrev line_after : After-forget_in → Line
line_after c = line_with c c.forget_in.new.bytes.items (vec_capacity c.forget_in.new.bytes)

-- the minutes of the range are forgotten, and no other
forgotten : (c : After-forget_in) → HasForgotten (line_before c) (line_after c) c.args.from
    c.args.to
forgotten c =
    let inside = c.self.inside in
    let before = inside.bytes.items in
    let after = c.forget_in.new.bytes.items in
    let most = 4 * length before in
    let known : 4 * c.len-known.result ≡ most =
    ap (λ n. 4 * n) (c.len-known.ensures ∙ inside.bytes.ok.0) in
    let first : c.min-first.result ≡ min (c.args.from - inside.origin) most =
    c.min-first.ensures ∙ (λ i. min (c.saturating_sub.ensures i) (known i)) in
    let end : c.min-end.result ≡ min (c.args.to - inside.origin) most =
    c.min-end.ensures ∙ (λ i. min (c.saturating_sub-2.ensures i) (known i)) in
    let forgets =
    subst (λ n. Forgets before after n (min (c.args.to - inside.origin) most)) first
    (subst (λ n. Forgets before after c.min-first.result n) end c.forget_in.ensures.value) in
    known-forgotten before after inside.rule inside.target inside.origin
    (vec_capacity inside.bytes) (vec_capacity c.forget_in.new.bytes) c.args.from c.args.to most
    refl (omega (arith, c.forget_in.ensures.fewer)) forgets

pub returns-then-first-end-clause-forgotten : goal.returns-then-first-end-clause-forgotten
returns-then-first-end-clause-forgotten c = λ minute.
    forgotten (goal.at.returns-then-first-end-clause-forgotten c).After-forget_in minute
    ∙ ap (λ (l : Line). if nat_le c.args.from minute && nat_lt minute c.args.to then None
    else knowledge l minute) c.self.view_is

pub returns-then-first-end-clause-agrees : goal.returns-then-first-end-clause-agrees
returns-then-first-end-clause-agrees c = λ sums agrees.
    let at = (goal.at.returns-then-first-end-clause-agrees c).After-forget_in in
    Agrees-forgotten (line_before at) (line_after at) sums
    (λ minute. nat_le c.args.from minute && nat_lt minute c.args.to)
    (record { rule = refl; target = refl; origin = refl }) (forgotten at)
    (subst (λ (l : Line). Agrees l sums) (sym c.self.view_is) agrees)
