-- What a line forgets near a run of slices.
use Rattle.std.proofs.Common.{◌≡◌, ◌⊎◌, ℕ, zero, suc, ◌+◌, ◌*◌, ◌/◌, ◌≤◌, ◌<◌, ◌&&◌, nat_le, nat_lt}
use Rattle.std.proofs.Common.{Bool, true, false, Option, Some, None, inl, inr, refl, arith, ap, sym}
use Rattle.std.proofs.Common.{subst, ◌∙◌, if◌then◌else◌}
use Rattle.std.proofs.Math.Nat.{div-add-mod', div-mul-le_self}
use Rattle.std.proofs.lemmas.Nat.{le-div, mod_below}
use Rattle.std.proofs.lemmas.Bool.{and_parts}
use Rattle.std.proofs.lemmas.Bool.Decides.{leb_tells, nat_tests}
use Rattle.burn_core.specs.declared.AlertRule.{AlertRule}
use Rattle.burn_core.specs.Alert.{reach_of}
use Rattle.window_sums.specs.Slices.{CountedDays}
use Rattle.alert_line.specs.Laws.{HasForgotten}
use Rattle.alert_line.specs.Line.{Agrees, Line, SameAlert, knowledge}
use Rattle.line_forgetting.specs.Touched.{Forgets, IsApart, IsInRun, is_near}
use Rattle.line_forgetting.proofs.NearLemmas.{ends, near-is}

le_is : (a b : ℕ) → nat_le a b ≡ true → a ≤ b
le_is a b h = grind (arith, nat_tests, h)

lt_is : (a b : ℕ) → nat_lt a b ≡ true → a < b
lt_is a b h = grind (arith, nat_tests, h)

-- the bounds of what is within both
within : (from to minute : ℕ) → (nat_le from minute && nat_lt minute to) ≡ true
    → (from ≤ minute) × (minute < to)
within from to minute h = let p = and_parts (nat_le from minute) (nat_lt minute to) h in
    (le_is from minute p.0, lt_is minute to p.1)

within-is : (from to minute : ℕ) → from ≤ minute → minute < to
    → (nat_le from minute && nat_lt minute to) ≡ true
within-is from to minute a b = grind (arith, nat_tests, a, b)

-- a slice of the run that a minute is near
record Pick (width reach first last minute : ℕ) : Type 0 where
  pub slice : ℕ
  pub in_run : IsInRun first last slice
  pub behind : slice * width + width ≤ minute
  pub before : minute ≤ slice * width + reach

pick : (width reach first last minute : ℕ) → 0 < width →
    first ≤ last → (first < last → 2 * width ≤ reach + 1) → first * width + width ≤ minute →
    minute < last * width + reach + 1 →
    Pick width reach first last minute
pick width reach first last minute some order joined from to =
    by (minute / width) refl (leb_tells (minute / width) (suc last))
  where
    more : suc first ≤ minute / width
    more = le-div (suc first) minute width some (omega (arith, from))

    rest : minute < minute / width * width + width
    rest = omega (arith, div-add-mod' minute width, mod_below minute width some)

    last_one : suc last ≤ minute / width → Pick width reach first last minute
    last_one le = record {
      slice = last;
      in_run = record { from = order; to = omega arith };
      behind = ends width last minute le;
      before = omega (arith, to);
    }

    near : (k : ℕ) → minute / width ≡ suc k → k ≤ last → ((first < last) ⊎ (last ≤ first))
        → minute ≤ k * width + reach
    near k e le (inl less) =
        let r : minute < suc k * width + width = subst (λ q. minute < q * width + width) e rest in
        omega (arith, r, joined less)
    near k e le (inr one) =
        let same : k ≡ last = omega (arith, more, e, le, one) in
        subst (λ n. minute ≤ n * width + reach) (sym same) (omega (arith, to))

    tell : (first last : ℕ) → (first < last) ⊎ (last ≤ first)
    tell first last = turn (leb_tells (suc first) last)
      where
        turn : ((nat_le (suc first) last ≡ true) × (suc first ≤ last))
            ⊎ ((nat_le (suc first) last ≡ false) × (last < suc first))
            → (first < last) ⊎ (last ≤ first)
        turn (inl a) = inl a.1
        turn (inr b) = inr (omega (arith, b.1))

    by : (q : ℕ) → minute / width ≡ q →
        ((nat_le (minute / width) (suc last) ≡ true) × (minute / width ≤ suc last))
        ⊎ ((nat_le (minute / width) (suc last) ≡ false) × (suc last < minute / width)) →
        Pick width reach first last minute
    by zero e t = absurd (omega (arith, more, e))
    by (suc k) e (inl le) =
        let low : k ≤ last = omega (arith, e, le.1) in
        record {
          slice = k;
          in_run = record { from = omega (arith, more, e); to = low };
          behind = ends width k minute (omega (arith, e));
          before = near k e low (tell first last);
        }
    by (suc k) e (inr above) = last_one (omega (arith, above.1))

-- the marked minutes are those near the slices of the run
pub marked-run : (before after : Line) (width reach first last : ℕ) → 0 < width → first ≤ last →
    (first < last → 2 * width ≤ reach + 1) → reach ≡ reach_of before.rule → SameAlert before after →
    HasForgotten before after (first * width + width) (last * width + reach + 1) →
    ((sums : CountedDays) → Agrees before sums → Agrees after sums) →
    Forgets (IsInRun first last) width before after
marked-run before after width reach first last some order joined is alert marked agrees = record {
  only = record {
    alert = alert;
    kept = λ minute holds e apart. keep minute holds e apart (test minute) refl;
    learnt_nothing = λ minute holds e. learnt minute holds e (test minute) refl;
    agrees = agrees;
  };
  clear = λ slice inside minute holds e.
      subst (λ (rule : AlertRule). is_near width (reach_of rule) slice minute ≡ false)
      (sym alert.rule)
      (subst (λ r. is_near width r slice minute ≡ false) is
      (free slice inside minute holds e (is_near width reach slice minute) refl));
}
  where
    test : ℕ → Bool
    test minute = nat_le (first * width + width) minute && nat_lt minute (last * width + reach + 1)

    gone : (minute : ℕ) → test minute ≡ true → knowledge after minute ≡ None
    gone minute t = marked minute ∙ ap (λ (b : Bool). if b then None else knowledge before minute) t

    stays : (minute : ℕ) → test minute ≡ false → knowledge after minute ≡ knowledge before minute
    stays minute t = marked minute
        ∙ ap (λ (b : Bool). if b then None else knowledge before minute) t

    learnt : (minute : ℕ) (holds : Bool) → knowledge after minute ≡ Some holds → (b : Bool)
        → test minute ≡ b → knowledge before minute ≡ Some holds
    learnt minute holds e false t = sym (stays minute t) ∙ e
    learnt minute holds e true t = let no : ◌≡◌ {A = Option Bool} None (Some holds) =
        sym (gone minute t) ∙ e in cc no

    keep : (minute : ℕ) (holds : Bool) → knowledge before minute ≡ Some holds
        → IsApart (IsInRun first last) width (reach_of before.rule) minute → (b : Bool)
        → test minute ≡ b → knowledge after minute ≡ Some holds
    keep minute holds e apart false t = stays minute t ∙ e
    keep minute holds e apart true t =
        let w = within (first * width + width) (last * width + reach + 1) minute t in
        let p = pick width reach first last minute some order joined w.0 w.1 in
        let no : true ≡ false = sym (near-is width reach p.slice minute p.behind p.before)
        ∙ ap (λ r. is_near width r p.slice minute) is ∙ apart p.slice p.in_run in
        cc no

    up : (a b : ℕ) → a ≤ b → a * width ≤ b * width
    up a b le = Rattle.std.proofs.Math.Nat.mul-le-mul_right {m = a} {n = b} width le

    free : (slice : ℕ) → IsInRun first last slice → (minute : ℕ) (holds : Bool)
        → knowledge after minute ≡ Some holds → (b : Bool) → is_near width reach slice minute ≡ b
        → is_near width reach slice minute ≡ false
    free slice inside minute holds e false n = n
    free slice inside minute holds e true n =
        let w = within (slice * width + width) (slice * width + reach + 1) minute n in
        let t : test minute ≡ true =
        within-is (first * width + width) (last * width + reach + 1) minute (omega (
          arith,
          w.0,
          up first slice inside.from,
        )) (omega (arith, w.1, up slice last inside.to)) in
        let no : ◌≡◌ {A = Option Bool} None (Some holds) = sym (gone minute t) ∙ e in
        cc no
