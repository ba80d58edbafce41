use Rattle.std.proofs.Common.{◌≡◌, ◌≤◌, ◌∙◌, pos, ◌≤ℤ◌, ap, arith, rules, subst, sym, unsigned_abs}
use Rattle.std.proofs.Math.Nat.{div-le_self}
use Rattle.std.proofs.lemmas.Int.{to_z-of_z}
use mir.Syntax.{w128}
use mir.Val.{SFits}
use Rattle.exact_fraction.specs.Ratio.{IsFraction, IsLowest, Ratio, SameValue, lowest, most_part}
use Rattle.exact_fraction.proofs.LowestTerms.{gcd-positive, lowest-IsFraction, lowest-IsLowest}
use Rattle.exact_fraction.proofs.LowestTerms.{lowest-SameValue, lowest-den-le, lowest-not_negative}
use Rattle.exact_fraction.proofs.LowestTerms.{lowest-num-le, parts-lowest}
use Rattle.exact_fraction.proofs.fraction.Fraction.of.Goals as goal

pub nonzero_div-den : goal.nonzero_div-den
nonzero_div-den c = rw c.gcd-common.ensures (gcd-positive _ _ c.requires.positive)

pub nonzero_div-size : goal.nonzero_div-size
nonzero_div-size c = rw c.gcd-common.ensures (gcd-positive _ _ c.requires.positive)

pub with_sign_of-requires : goal.with_sign_of-requires
with_sign_of-requires c =
    let less = div-le_self c.unsigned_abs-size.result c.gcd-common.result in
    let same : c.unsigned_abs-size.result ≡ unsigned_abs c.args.num =
    c.unsigned_abs-size.ensures.value ∙ ap unsigned_abs (to_z-of_z w128 c.args.num c.ranges.num) in
    let low : c.unsigned_abs-size.result ≤ most_part = rw same c.requires.num_fits in
    omega arith

pub in_lowest_terms-requires : goal.in_lowest_terms-requires
in_lowest_terms-requires c =
    let fits : SFits w128 c.with_sign_of.result = search rules in
    let P : Ratio → Type 0 = IsFraction in
    subst
    P
    (sym (parts-lowest
    c.args.num
    c.with_sign_of.result
    c.args.den
    c.unsigned_abs-size.result
    c.gcd-common.result
    c.ranges.num
    fits
    c.unsigned_abs-size.ensures.value
    c.gcd-common.ensures
    c.with_sign_of.ensures))
    (lowest-IsFraction c.args.num c.args.den c.requires.positive c.requires.num_fits
    c.requires.den_fits)

pub returns-clause-value : goal.returns-clause-value
returns-clause-value c =
    let fits : SFits w128 c.with_sign_of.result = search rules in
    c.in_lowest_terms.ensures
    ∙ parts-lowest
    c.args.num
    c.with_sign_of.result
    c.args.den
    c.unsigned_abs-size.result
    c.gcd-common.result
    c.ranges.num
    fits
    c.unsigned_abs-size.ensures.value
    c.gcd-common.ensures
    c.with_sign_of.ensures

pub returns-clause-lowest_terms : goal.returns-clause-lowest_terms
returns-clause-lowest_terms c =
    let value : c.in_lowest_terms.result ≡ lowest c.args.num c.args.den = returns-clause-value c in
    let P : Ratio → Type 0 = IsLowest in
    subst P (sym value) (lowest-IsLowest c.args.num c.args.den c.requires.positive)

pub returns-clause-same_value : goal.returns-clause-same_value
returns-clause-same_value c =
    let value : c.in_lowest_terms.result ≡ lowest c.args.num c.args.den = returns-clause-value c in
    let P : Ratio → Type 0 = λ r. SameValue r c.args.num c.args.den in
    subst P (sym value) (lowest-SameValue c.args.num c.args.den c.requires.positive)

pub returns-clause-num_shrinks : goal.returns-clause-num_shrinks
returns-clause-num_shrinks c =
    let value : c.in_lowest_terms.result ≡ lowest c.args.num c.args.den = returns-clause-value c in
    let P : Ratio → Type 0 = λ r. unsigned_abs r.num ≤ unsigned_abs c.args.num in
    subst P (sym value) (lowest-num-le c.args.num c.args.den)

pub returns-clause-den_shrinks : goal.returns-clause-den_shrinks
returns-clause-den_shrinks c =
    let value : c.in_lowest_terms.result ≡ lowest c.args.num c.args.den = returns-clause-value c in
    let P : Ratio → Type 0 = λ r. r.den ≤ c.args.den in
    subst P (sym value) (lowest-den-le c.args.num c.args.den)

pub returns-clause-not_negative : goal.returns-clause-not_negative
returns-clause-not_negative c = λ h.
    let value : c.in_lowest_terms.result ≡ lowest c.args.num c.args.den = returns-clause-value c in
    let P : Ratio → Type 0 = λ r. pos 0 ≤ℤ r.num in
    subst P (sym value) (lowest-not_negative c.args.num c.args.den h)
