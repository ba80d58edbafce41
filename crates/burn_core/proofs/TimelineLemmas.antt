-- Active minutes, by the conditions of the minutes before.
use Rattle.std.proofs.Common.{◌≡◌, ◌≢◌, ◌⊎◌, ℕ, zero, suc, ◌+◌, ◌-◌, ◌≤◌, ◌<◌, ◌&&◌, ◌↔◌, nat_eq}
use Rattle.std.proofs.Common.{nat_le, Bool, true, false, inl, inr, refl, sym, subst, arith, ◌∙◌}
use Rattle.std.proofs.Common.{List}
use Rattle.std.proofs.lemmas.Bool.Decides.{eqb_tells, leb_tells}
use Rattle.burn_core.specs.Timeline.{AreSpansOf, IsActive, is_active, throughout}
use Rattle.burn_core.specs.Laws.{ActiveMeansItHeld}

both : (a b : Bool) → (a && b) ≡ true → (a ≡ true) × (b ≡ true)
both true b e = (refl, e)
both false b e = cc e

of_both : (a b : Bool) → a ≡ true → b ≡ true → (a && b) ≡ true
of_both a b p q = rw (p, q) refl

at_or_before : (holds : ℕ → Bool) (last u : ℕ) → holds last ≡ true → (u ≢ last → holds u ≡ true)
    → holds u ≡ true
at_or_before holds last u here before = by (eqb_tells u last)
  where
    by : ((nat_eq u last ≡ true) × (u ≡ last)) ⊎ ((nat_eq u last ≡ false) × (u ≢ last))
        → holds u ≡ true
    by (inl same) = subst (λ n. holds n ≡ true) (sym same.1) here
    by (inr other) = before other.1

each-of_throughout : (holds : ℕ → Bool) (first count : ℕ) → throughout holds first count ≡ true
    → (u : ℕ) → first ≤ u → u < first + count → holds u ≡ true
unfolding throughout
each-of_throughout holds first zero e u a b = absurd (omega arith)
each-of_throughout holds first (suc count) e u a b =
    let parts = both (throughout holds first count) (holds (first + count)) e in
    at_or_before holds (first + count) u parts.1
    (λ other. each-of_throughout holds first count parts.0 u a (omega (arith, b, other)))

throughout-of_each : (holds : ℕ → Bool) (first count : ℕ)
    → ((u : ℕ) → first ≤ u → u < first + count → holds u ≡ true)
    → throughout holds first count ≡ true
unfolding throughout
throughout-of_each holds first zero each = refl
throughout-of_each holds first (suc count) each =
    of_both (throughout holds first count) (holds (first + count)) (throughout-of_each holds first
    count (λ u a b. each u a (omega arith))) (each (first + count) (omega arith) (omega arith))

pub active-law : ActiveMeansItHeld
active-law wait holds minute = (to, back)
  where
    le : nat_le wait minute ≡ true → wait ≤ minute
    le e = by (leb_tells wait minute)
      where
        by : ((nat_le wait minute ≡ true) × (wait ≤ minute))
            ⊎ ((nat_le wait minute ≡ false) × (minute < wait)) → wait ≤ minute
        by (inl p) = p.1
        by (inr p) = cc (sym e ∙ p.0)

    ge : wait ≤ minute → nat_le wait minute ≡ true
    ge h = by (leb_tells wait minute)
      where
        by : ((nat_le wait minute ≡ true) × (wait ≤ minute))
            ⊎ ((nat_le wait minute ≡ false) × (minute < wait)) → nat_le wait minute ≡ true
        by (inl p) = p.0
        by (inr p) = absurd (omega (arith, h, p.1))

    to : is_active wait holds minute ≡ true → IsActive wait holds minute
    to e =
        let parts = both (nat_le wait minute) (throughout holds (minute - wait) (wait + 1)) e in
        let enough = le parts.0 in
        record {
          enough = enough;
          each = λ u a b. each-of_throughout holds (minute - wait)
              (wait + 1) parts.1 u a (omega (arith, enough));
        }

    back : IsActive wait holds minute → is_active wait holds minute ≡ true
    back is =
        let enough = is.enough in
        of_both (nat_le wait minute) (throughout holds (minute - wait) (wait + 1)) (ge enough)
        (throughout-of_each holds (minute - wait) (wait + 1)
        (λ u a b. is.each u a (omega (arith, enough))))

-- two properties of minutes that come to the same have the same stretches
pub AreSpansOf-same : (p q : ℕ → Type 0) (from to : ℕ) (spans : List (ℕ × ℕ))
    → ((minute : ℕ) → p minute ↔ q minute) → AreSpansOf p from to spans → AreSpansOf q from to spans
AreSpansOf-same p q from to spans same are = record {
  exactly = λ minute. (
    λ lies. (let in_p = (are.exactly minute).0 lies in (in_p.0, in_p.1, (same minute).0 in_p.2)),
    λ in_q. (are.exactly minute).1 (in_q.0, in_q.1, (same minute).1 in_q.2),
  );
  apart = are.apart;
}
