-- The last entry below a moment, and the first one above it, among those of its source.
use Rattle.std.proofs.Common.{◌≡◌, ℕ, false, Option, Some, None, List, refl, ap, sym, ◌∙◌, subst}
use Rattle.std.proofs.Common.{◌≢◌}
use Rattle.std.specs.Option.{IsSome, IfSome, MatchOption}
use Rattle.std.specs.List.{slice_get}
use Rattle.std.proofs.Common.{◌∷◌}
use Rattle.std.specs.declared.cmp.Ordering.{Ordering}
use Rattle.std.specs.declared.cmp.Ordering.TheVariants.{Less, Greater}
use Rattle.std.specs.Ordering.{is_lt, is_gt}
use Rattle.std.specs.BTreeMap.{is_at}
use Rattle.std.specs.Map.{lookup}
use Rattle.counter_book.specs.declared.reading.Kept.{Kept}
use Rattle.counter_book.specs.declared.reading.Moment.{Moment}
use Rattle.counter_book.specs.Book.{moment_cmp, slot_at}
use Rattle.counter_book.specs.Differences.{before_of}
use Rattle.counter_book.specs.Moves.{IsNext}
use Rattle.counter_book.proofs.BeforeLemmas.{before-found, before-none}
use Rattle.counter_book.proofs.MomentLemmas.{moment, below_same, above_same, above_source}
use Rattle.counter_book.proofs.MomentLemmas.{below_source, less_parts}

-- what isn't there is None
none_from : {A : Type 0} (o : Option A) → (IsSome o → ⊥) → o ≡ None
none_from None h = refl
none_from (Some x) h = absurd (h refl)

lt_true : (o : Ordering) → o ≡ Less → is_lt o ≡ false → ⊥
lt_true o e h = cc

gt_true : (o : Ordering) → o ≡ Greater → is_gt o ≡ false → ⊥
gt_true o e h = cc

-- the head of a list that isn't empty
pub head_is : {A : Type 0} (P : A → Type 0) (r : List A) (e : A) (rest : List A) → r ≡ e ∷ rest
    → IfSome (slice_get r 0) P → P e
head_is P r e rest is h = subst (λ x. IfSome (slice_get x 0) P) is h

pub nothing_there : {A X : Type 0} (Q : A → Type 0) (o : Option A) → o ≡ None
    → MatchOption o X Q → X
nothing_there Q None e h = h
nothing_there Q (Some x) e h = cc e

abbrev at_key : List (Moment × Kept) → Moment → Option Kept
at_key es q = lookup (is_at (moment_cmp q)) es

module _ (es : List (Moment × Kept)) (s m : ℕ) where
  -- e is the last entry below the moment
  pub record IsLast (e : Moment × Kept) : Type 0 where
    pub below : moment_cmp e.0 (moment s m) ≡ Less
    pub there : at_key es e.0 ≡ Some e.1
    pub last : (q : Moment) → moment_cmp q (moment s m) ≡ Less → IsSome (at_key es q)
        → is_lt (moment_cmp e.0 q) ≡ false

  pub before-own : (e : Moment × Kept) → IsLast e → e.0.source ≡ s
      → Some e.1 ≡ before_of (slot_at es s) m
  before-own e h is =
      let same : e.0 ≡ moment s e.0.minute = ap (λ x. moment x e.0.minute) is in
      sym (before-found (slot_at es s) e.0.minute m e.1
      ((less_parts e.0 (moment s m) h.below).0 is)
      (ap (at_key es) (sym same) ∙ h.there)
      (λ j a b. none_from (slot_at es s j) (λ some. lt_true (moment_cmp e.0 (moment s j))
      (ap (λ x. moment_cmp x (moment s j)) same ∙ below_same s e.0.minute j a)
      (h.last (moment s j) (below_same s j m b) some))))

  pub before-other : (e : Moment × Kept) → IsLast e → e.0.source ≢ s
      → None ≡ before_of (slot_at es s) m
  before-other e h is =
      sym (before-none (slot_at es s) m
      (λ j b. none_from (slot_at es s j) (λ some. lt_true (moment_cmp e.0 (moment s j))
      (below_source e.0.source s e.0.minute j ((less_parts e.0 (moment s m) h.below).1 is))
      (h.last (moment s j) (below_same s j m b) some))))

  pub before-nothing : ((q : Moment) → moment_cmp q (moment s m) ≡ Less → at_key es q ≡ None)
      → None ≡ before_of (slot_at es s) m
  before-nothing h =
      sym (before-none (slot_at es s) m (λ j b. h (moment s j) (below_same s j m b)))

  -- e is the first entry above the moment
  pub record IsFirst (e : Moment × Kept) : Type 0 where
    pub above : moment_cmp (moment s m) e.0 ≡ Less
    pub there : at_key es e.0 ≡ Some e.1
    pub first : (q : Moment) → moment_cmp (moment s m) q ≡ Less → IsSome (at_key es q)
        → is_gt (moment_cmp e.0 q) ≡ false

  pub next-own : (e : Moment × Kept) → IsFirst e → e.0.source ≡ s
      → IsNext (slot_at es s) m (Some (e.0.minute, e.1))
  next-own e h is =
      let same : e.0 ≡ moment s e.0.minute = ap (λ x. moment x e.0.minute) is in (
        (less_parts (moment s m) e.0 h.above).0 (sym is),
        ap (at_key es) (sym same) ∙ h.there,
        (λ j a b. none_from (slot_at es s j) (λ some. gt_true (moment_cmp e.0 (moment s j))
            (ap (λ x. moment_cmp x (moment s j)) same ∙ above_same s e.0.minute j b)
            (h.first (moment s j) (below_same s m j a) some))),
      )

  pub next-other : (e : Moment × Kept) → IsFirst e → e.0.source ≢ s
      → IsNext (slot_at es s) m None
  next-other e h is = λ j a. none_from (slot_at es s j)
      (λ some. gt_true (moment_cmp e.0 (moment s j))
      (above_source e.0.source s e.0.minute j
      ((less_parts (moment s m) e.0 h.above).1 (λ k. is (sym k))))
      (h.first (moment s j) (below_same s m j a) some))

  pub next-nothing : ((q : Moment) → moment_cmp (moment s m) q ≡ Less → at_key es q ≡ None)
      → IsNext (slot_at es s) m None
  next-nothing h j a = h (moment s j) (below_same s m j a)
