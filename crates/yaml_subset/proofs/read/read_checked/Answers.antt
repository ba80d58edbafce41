use Rattle.std.proofs.Common.{◌≡◌, ℕ, ◌+◌, ◌-◌, length, sym, subst, rules}
use Rattle.std.specs.Prelude.{List}
use Rattle.yaml_terms.specs.Text.{without_mark}
use Rattle.yaml_terms.specs.BadPlace.{IsBadPlace}
use Rattle.yaml_subset.proofs.PlaceLemmas.{place_in_text}
use Rattle.yaml_subset.proofs.read.read_checked.Goals as goal

pub returns-in-Err-clause-fault : goal.returns-in-Err-clause-fault
returns-in-Err-clause-fault c =
    let text = c.args.text.now in
    let placed = subst (λ (b : List ℕ). IsBadPlace b c.bad_place-at.result)
    c.without_mark-body.ensures c.bad_place-at.ensures in
    let whole = place_in_text text c.bad_place-at.result placed in
    let few = whole.within in
    let e : c.saturating_add.result
    ≡ length text - length (without_mark text) + c.bad_place-at.result = search rules in (
      c.if-text-gt-MAX_TEXT_BYTES.false,
      search rules,
      subst (λ (m : ℕ). IsBadPlace text m) (sym e)
          whole,
    )
