-- The first and the last slice of a window, minute by minute, and its sum.
use Rattle.std.proofs.Common.{◌≡◌, ◌⊎◌, ℕ, ◌+◌, ◌-◌, ◌*◌, ◌/◌, ◌%◌, ◌≤◌, ◌<◌, nat_le, true, false}
use Rattle.std.proofs.Common.{inl, inr, arith, ap, sym, ◌∙◌}
use Rattle.std.proofs.Math.Nat.{div-add-mod'}
use Rattle.std.proofs.lemmas.Nat.{div-mul-add, mod_below}
use Rattle.std.proofs.lemmas.Bool.Decides.{leb_tells}
use Rattle.exact_fraction.specs.declared.leaf.Leaf.{Leaf}
use Rattle.slo_terms.specs.Sums.{leaves_over, slice_from, slices_until}
use Rattle.slo_terms.proofs.RangeLemmas.{no_term, sum_over-next, sum_over-rest}
use Rattle.alert_line.specs.Cursor.{IsOver}

-- where a slice is a minute, the slices are the minutes
pub from-minutes : (w minute : ℕ) → w ≡ 1 → minute ≡ slice_from w minute
from-minutes w minute one = rw one (omega arith)

pub until-minutes : (w minute : ℕ) → w ≡ 1 → minute ≡ slices_until w minute
until-minutes w minute one = rw one (omega arith)

-- a quotient rises by one at most
pub div-next : (w n : ℕ) → 0 < w → ((n + 1) / w ≡ n / w) ⊎ ((n + 1) / w ≡ n / w + 1)
div-next w n some =
    by (n / w) (n % w) (sym (div-add-mod' n w)) (mod_below n w some) (leb_tells w (n % w + 1))
  where
    stays : (q r : ℕ) → n ≡ q * w + r → n + 1 ≡ q * w + (r + 1)
    stays q r e = omega (arith, e)

    rises : (q r : ℕ) → n ≡ q * w + r → r < w → w ≤ r + 1 → n + 1 ≡ (q + 1) * w + 0
    rises q r e lt le = omega (arith, e)

    by : (q r : ℕ) → n ≡ q * w + r → r < w → ((nat_le w (r + 1) ≡ true) × (w ≤ r + 1))
        ⊎ ((nat_le w (r + 1) ≡ false) × (r + 1 < w)) → ((n + 1) / w ≡ q) ⊎ ((n + 1) / w ≡ q + 1)
    by q r e lt (inl a) = inr (ap (λ k. k / w) (rises q r e lt a.1) ∙ div-mul-add (q + 1) w 0 some)
    by q r e lt (inr a) = inl (ap (λ k. k / w) (stays q r e) ∙ div-mul-add q w (r + 1) a.1)

-- the first slice of a window whose start is cut at 0
pub first-next : (w minute length : ℕ) → 0 < w →
    (slice_from w (minute + 1 - length) ≡ slice_from w (minute - length))
    ⊎ (slice_from w (minute + 1 - length) ≡ slice_from w (minute - length) + 1)
first-next w minute length some = by (leb_tells length minute)
  where
    cut : (minute length : ℕ) → minute < length
        → minute + 1 - length + (w - 1) ≡ minute - length + (w - 1)
    cut minute length lt = omega arith

    more : (minute length : ℕ) → length ≤ minute
        → minute + 1 - length + (w - 1) ≡ minute - length + (w - 1) + 1
    more minute length le = omega arith

    same : (e : ((minute - length + (w - 1) + 1) / w ≡ slice_from w (minute - length))
        ⊎ ((minute - length + (w - 1) + 1) / w ≡ slice_from w (minute - length) + 1)) →
        length ≤ minute →
        (slice_from w (minute + 1 - length) ≡ slice_from w (minute - length))
        ⊎ (slice_from w (minute + 1 - length) ≡ slice_from w (minute - length) + 1)
    same (inl e) le = inl (ap (λ k. k / w) (more minute length le) ∙ e)
    same (inr e) le = inr (ap (λ k. k / w) (more minute length le) ∙ e)

    by : ((nat_le length minute ≡ true) × (length ≤ minute))
        ⊎ ((nat_le length minute ≡ false) × (minute < length)) →
        (slice_from w (minute + 1 - length) ≡ slice_from w (minute - length))
        ⊎ (slice_from w (minute + 1 - length) ≡ slice_from w (minute - length) + 1)
    by (inl a) = same (div-next w (minute - length + (w - 1)) some) a.1
    by (inr a) = inl (ap (λ k. k / w) (cut minute length a.1))

pub stays_or_rises : (a b : ℕ) → (b ≡ a) ⊎ (b ≡ a + 1) → (a ≤ b) × (b ≤ a + 1)
stays_or_rises a b (inl e) = (omega arith, omega arith)
stays_or_rises a b (inr e) = (omega arith, omega arith)

-- a slice more at the end
pub grown-num : (leaf : ℕ → Leaf) (first end : ℕ)
    → first ≤ end → (leaves_over leaf first (end + 1 - first)).num
    ≡ (leaves_over leaf first (end - first)).num + (leaf end).num
grown-num leaf first end le = sum_over-next (λ k. (leaf k).num) first end le

pub grown-den : (leaf : ℕ → Leaf) (first end : ℕ)
    → first ≤ end → (leaves_over leaf first (end + 1 - first)).den
    ≡ (leaves_over leaf first (end - first)).den + (leaf end).den
grown-den leaf first end le = sum_over-next (λ k. (leaf k).den) first end le

-- a slice less at the start
pub shrunk-num : (leaf : ℕ → Leaf) (first end : ℕ)
    → first < end → (leaves_over leaf first (end - first)).num
    ≡ (leaf first).num + (leaves_over leaf (first + 1) (end - (first + 1))).num
shrunk-num leaf first end lt = sum_over-rest (λ k. (leaf k).num) first end lt

pub shrunk-den : (leaf : ℕ → Leaf) (first end : ℕ)
    → first < end → (leaves_over leaf first (end - first)).den
    ≡ (leaf first).den + (leaves_over leaf (first + 1) (end - (first + 1))).den
shrunk-den leaf first end lt = sum_over-rest (λ k. (leaf k).den) first end lt

-- no slice
pub leaves-none : (leaf : ℕ → Leaf) (first to n : ℕ) → n ≡ 0
    → leaves_over leaf first n ≡ leaves_over leaf to n
leaves-none leaf first to n e = rw e (λ i.
    record {
      num = (no_term (λ k. (leaf k).num) first ∙ sym (no_term (λ k. (leaf k).num) to)) i;
      den = (no_term (λ k. (leaf k).den) first ∙ sym (no_term (λ k. (leaf k).den) to)) i;
    })

-- nothing lies before the first minute of all
pub IsOver-none : (width : ℕ) (leaf : ℕ → Leaf) (length : ℕ) → 0 < width →
    IsOver width leaf length 0 (record { first = 0; end = 0; sum = record { num = 0; den = 0 } })
IsOver-none width leaf length some = record {
  first = sym from;
  end = sym until;
  sum = (λ i. record {
    num = sym (no_term (λ k. (leaf k).num) 0) i;
    den = sym (no_term (λ k. (leaf k).den) 0) i;
  }) ∙ (λ i. leaves_over leaf (sym from i) (sym until i - sym from i));
  part = omega arith;
  few = omega arith;
}
  where
    none : 0 ≡ 0 * width + 0
    none = omega arith

    until : slices_until width 0 ≡ 0
    until = ap (λ k. k / width) none ∙ div-mul-add 0 width 0 some

    cut : (length : ℕ) → 0 - length + (width - 1) ≡ 0 * width + (width - 1)
    cut length = omega arith

    from : slice_from width (0 - length) ≡ 0
    from = ap (λ k. k / width) (cut length) ∙ div-mul-add 0 width (width - 1) (omega (arith, some))
