-- Moments in order.
use Rattle.std.proofs.Common.{◌≡◌, ℕ, ◌<◌, ap, sym, ◌∙◌, arith, ◌≢◌, ◌==◌, ◌&&◌}
use Rattle.std.proofs.lemmas.Bool.Decides.{nat_tests}
use Rattle.std.specs.declared.cmp.Ordering.TheVariants.{Less, Equal, Greater}
use Rattle.std.specs.Ordering.{nat_cmp, ordering_then, is_eq}
use Rattle.counter_book.specs.declared.reading.Moment.{Moment}
use Rattle.counter_book.specs.Book.{moment_cmp}

-- a minute of a source
abbrev pub moment : ℕ → ℕ → Moment
moment source minute = record { source = source; minute = minute }

cmp_same : (s : ℕ) → nat_cmp s s ≡ Equal
cmp_same s = grind (arith, nat_tests)

cmp_less : (a b : ℕ) → a < b → nat_cmp a b ≡ Less
cmp_less a b l = grind (arith, nat_tests)

cmp_greater : (a b : ℕ) → b < a → nat_cmp a b ≡ Greater
cmp_greater a b l = grind (arith, nat_tests)

less_cmp : (a b : ℕ) → nat_cmp a b ≡ Less → a < b
less_cmp a b l = grind (arith, nat_tests)

pub at_same : (s a b : ℕ) → moment_cmp (moment s a) (moment s b) ≡ nat_cmp a b
at_same s a b = ap (λ o. ordering_then o (nat_cmp a b)) (cmp_same s)

pub below_same : (s a b : ℕ) → a < b → moment_cmp (moment s a) (moment s b) ≡ Less
below_same s a b l = at_same s a b ∙ cmp_less a b l

pub below_source : (s t a b : ℕ) → s < t → moment_cmp (moment s a) (moment t b) ≡ Less
below_source s t a b l = ap (λ o. ordering_then o (nat_cmp a b)) (cmp_less s t l)

pub above_same : (s a b : ℕ) → b < a → moment_cmp (moment s a) (moment s b) ≡ Greater
above_same s a b l = at_same s a b ∙ cmp_greater a b l

pub above_source : (s t a b : ℕ) → t < s → moment_cmp (moment s a) (moment t b) ≡ Greater
above_source s t a b l = ap (λ o. ordering_then o (nat_cmp a b)) (cmp_greater s t l)

-- an entry below a moment is of a smaller source, or of a smaller minute
pub less_parts : (a b : Moment) → moment_cmp a b ≡ Less
    → (a.source ≡ b.source → a.minute < b.minute) × (a.source ≢ b.source → a.source < b.source)
less_parts a b h = (
  (λ e. less_cmp a.minute b.minute (sym (ap (λ o. ordering_then o (nat_cmp a.minute b.minute))
      (same e)) ∙ h)),
  (λ n. grind (arith, nat_tests)),
)
  where
    same : a.source ≡ b.source → nat_cmp a.source b.source ≡ Equal
    same e = grind (arith, nat_tests)

-- whether two moments are one
pub is_moment : (s t m k : ℕ) → is_eq (moment_cmp (moment s m) (moment t k)) ≡ (s == t && m == k)
is_moment s t m k = grind (arith, nat_tests)

pub is_moment-back : (s t m k : ℕ) → is_eq (moment_cmp (moment t k) (moment s m))
    ≡ (s == t && m == k)
is_moment-back s t m k = grind (arith, nat_tests)
