use Rattle.std.proofs.Common.{◌≡◌, ℕ, ◌+◌, ◌<◌, ◌≤◌, Option, MatchOption, length, sym, ◌∙◌, subst}
use Rattle.std.proofs.Common.{arith, rules, ⊎_elim}
use Rattle.yaml_terms.specs.BadPlace.{IsBadPlace}
use Rattle.yaml_subset.proofs.PlaceLemmas.{IsLead, place_at_first, place_at_end, place_inside}
use Rattle.yaml_subset.proofs.read.bad_place.Goals as goal

pub returns-then-first-lt194 : goal.returns-then-first-lt194
returns-then-first-lt194 c =
    let e = c.byte_at-first.ensures.value in
    place_at_first c.args.bytes.now c.args.valid c.requires.front
    (λ l. let low : 194 ≤ c.byte_at-first.result = subst (λ (n : ℕ). 194 ≤ n) (sym e) l.0 in
    let high : c.byte_at-first.result ≤ 244 = subst (λ (n : ℕ). n ≤ 244) (sym e) l.1 in
    ⊎_elim (λ h. omega arith) (λ h. omega arith) c.then-first-lt194.either)

pub returns-in-None : goal.returns-in-None
returns-in-None c =
    let is_lead = subst IsLead c.byte_at-first.ensures.value (
      c.if-first-lt194.false,
      c.if-first-gt244.false,
    ) in
    place_at_end c.args.bytes.now c.args.valid c.requires.front is_lead
    (sym c.requires.fault ∙ c.in-None.is)

pub returns-in-Some : goal.returns-in-Some
returns-in-Some c =
    let bs = c.args.bytes.now in
    let n = c.args.valid in
    let is_lead = subst IsLead c.byte_at-first.ensures.value (
      c.if-first-lt194.false,
      c.if-first-gt244.false,
    ) in
    let inside : (0 < c.in-Some.length)
    × (c.in-Some.length < 4) × (n + c.in-Some.length ≤ length bs) =
    subst (λ (o : Option ℕ). MatchOption o (length bs < n + 4)
    (λ (k : ℕ). (0 < k) × (k < 4) × (n + k ≤ length bs))) c.in-Some.is c.requires.within in
    let e : c.saturating_add.result ≡ n + c.in-Some.length = search rules in
    subst (λ (m : ℕ). IsBadPlace bs m) (sym e) (place_inside bs n c.requires.front c.in-Some.length
    is_lead (sym c.requires.fault ∙ c.in-Some.is))
