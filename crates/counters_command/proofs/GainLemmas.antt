-- What an object gained in one write after another.
use Rattle.std.proofs.Common.{◌≡◌, ℕ, ◌+◌, List, [], ◌++◌, length, take, Option, Some}
use Rattle.std.proofs.Common.{None, arith, ap, sym, ◌∙◌, subst, append_assoc, length-append}
use Rattle.std.proofs.Math.Seq.{take-append-add, take-length}
use Rattle.std.proofs.lemmas.List.{append-nil}
use Rattle.office_outside.specs.Told.{Gained, GainedPrefix}

pub gained-none : (x : Option (List ℕ)) → Gained [] x x
gained-none None = tt
gained-none (Some old) = sym (append-nil old)

pub gained-same : (x y : Option (List ℕ)) → y ≡ x → Gained [] x y
gained-same x y e = subst (λ z. Gained [] x z) (sym e) (gained-none x)

pub gained-more : (a b : List ℕ) (x y z : Option (List ℕ)) → Gained a x y → Gained b y z
    → Gained (a ++ b) x z
gained-more a b None None None p q = tt
gained-more a b None None (Some z) p q = q
gained-more a b None (Some y) z p q = absurd p
gained-more a b (Some x) None z p q = absurd p
gained-more a b (Some x) (Some y) None p q = q
gained-more a b (Some x) (Some y) (Some z) p q =
    q ∙ ap (λ (l : List ℕ). l ++ b) p ∙ append_assoc x a b

pub gained-part : (a b : List ℕ) (x y z : Option (List ℕ)) → Gained a x y → GainedPrefix b y z
    → GainedPrefix (a ++ b) x z
gained-part a b x y z p q = record {
  count = length a + q.count;
  within = (let l = length-append a b in let w = q.within in omega arith);
  gained = subst (λ (l : List ℕ). Gained l x z) (sym (take-append-add a b q.count))
      (gained-more a (take q.count b) x y z p q.gained);
}

-- what was gained is a prefix of it and more
pub gained-front : (a b : List ℕ) (x y : Option (List ℕ)) → Gained a x y → GainedPrefix (a ++ b) x y
gained-front a b x y p = gained-part a b x y y p (record {
  count = 0;
  within = omega arith;
  gained = gained-none y;
})

-- all of it is a prefix of it
pub gained-all : (a : List ℕ) (x y : Option (List ℕ)) → Gained a x y → GainedPrefix a x y
gained-all a x y p = record {
  count = length a;
  within = omega arith;
  gained = subst (λ (l : List ℕ). Gained l x y) (sym (take-length a)) p;
}
