-- Bytes that an object gains or loses one piece after another.
use Rattle.std.proofs.Common.{◌≡◌, ℕ, ◌+◌, List, [], ◌++◌, length, take, drop, Some, None, IfSome}
use Rattle.std.proofs.Common.{refl, sym, ap, subst, ◌∙◌, arith, append_assoc, append-nil}
use Rattle.std.proofs.Common.{length-append}
use Rattle.std.specs.declared.option.Option.{Option}
use Rattle.std.proofs.Math.Seq.{take-add, take-append-add, take-length}
use Rattle.std.proofs.lemmas.List.{take-append-le}
use Rattle.office_outside.specs.Told.{Gained, GainedPrefix, HasNothingLeft, Lost, TellsAsBefore}

-- an object that gains one piece and then another has gained both
pub gained_both : (xs ys : List ℕ) (a b c : Option (List ℕ)) → Gained xs a b → Gained ys b c
    → Gained (xs ++ ys) a c
gained_both xs ys None None None first next = tt
gained_both xs ys None None (Some c) first next = next
gained_both xs ys None (Some b) c first next = absurd first
gained_both xs ys (Some a) None c first next = absurd first
gained_both xs ys (Some a) (Some b) None first next = next
gained_both xs ys (Some a) (Some b) (Some c) first next = next ∙ ap (λ (l : List ℕ). l ++ ys) first
    ∙ append_assoc a xs ys

-- an object that gains the first bytes of a piece, and then the next ones, has gained both
pub gained_more : (piece : List ℕ) (n k : ℕ) (a b c : Option (List ℕ)) → Gained (take n piece) a b
    → Gained (take k (drop n piece)) b c → Gained (take (n + k) piece) a c
gained_more piece n k a b c first next = subst (λ (l : List ℕ). Gained l a c)
    (sym (take-add n k piece)) (gained_both _ _ a b c first next)

-- an object that gains one piece and then a prefix of another has gained a prefix of both
pub gained_then_prefix : (xs ys : List ℕ) (a b c : Option (List ℕ)) → Gained xs a b
    → GainedPrefix ys b c → GainedPrefix (xs ++ ys) a c
gained_then_prefix xs ys a b c first next = record {
  count = length xs + next.count;
  within = omega (arith, length-append xs ys);
  gained = subst (λ (l : List ℕ). Gained l a c) (sym (take-append-add xs ys next.count))
      (gained_both xs (take next.count ys) a b c first next.gained);
}

-- a prefix of a piece is a prefix of the piece with more after it
pub prefix_with_more : (xs ys : List ℕ) (a b : Option (List ℕ)) → GainedPrefix xs a b
    → GainedPrefix (xs ++ ys) a b
prefix_with_more xs ys a b part = record {
  count = part.count;
  within = omega (arith, length-append xs ys);
  gained = subst (λ (l : List ℕ). Gained l a b)
      (sym (take-append-le part.count xs ys part.within)) part.gained;
}

-- an object that loses one piece and then another has lost both
pub lost_both : (xs ys : List ℕ) (a b c : Option (List ℕ)) → Lost xs a b → Lost ys b c
    → Lost (xs ++ ys) a c
lost_both xs ys None None None first next = tt
lost_both xs ys None None (Some c) first next = next
lost_both xs ys None (Some b) c first next = absurd first
lost_both xs ys (Some a) None c first next = absurd first
lost_both xs ys (Some a) (Some b) None first next = next
lost_both xs ys (Some a) (Some b) (Some c) first next = first ∙ ap (λ (l : List ℕ). xs ++ l) next
    ∙ sym (append_assoc xs ys c)

-- to gain or lose no bytes is to stay the same
pub gained_nothing : (a : Option (List ℕ)) → Gained [] a a
gained_nothing None = tt
gained_nothing (Some a) = sym (append-nil a)

pub lost_nothing : (a : Option (List ℕ)) → Lost [] a a
lost_nothing None = tt
lost_nothing (Some a) = refl

-- an object that gained a whole piece gained a prefix of it
pub gained_is_prefix : (bytes : List ℕ) (a b : Option (List ℕ)) → Gained bytes a b
    → GainedPrefix bytes a b
gained_is_prefix bytes a b gained = record {
  count = length bytes;
  within = omega arith;
  gained = subst (λ (l : List ℕ). Gained l a b) (sym (take-length bytes)) gained;
}

-- an object that lost these bytes and has nothing left had just them
pub lost_all : (bytes : List ℕ) (a b : Option (List ℕ)) → Lost bytes a b → HasNothingLeft b
    → IfSome a (λ left. left ≡ bytes)
lost_all bytes None b lost end = tt
lost_all bytes (Some a) None lost end = absurd lost
lost_all bytes (Some a) (Some b) lost end = lost ∙ ap (λ (l : List ℕ). bytes ++ l) end
    ∙ append-nil bytes

-- no call that gains or loses bytes changes whether the object tells
pub gained_tells : (bytes : List ℕ) (a b : Option (List ℕ)) → Gained bytes a b → TellsAsBefore a b
gained_tells bytes None None gained = tt
gained_tells bytes None (Some b) gained = gained
gained_tells bytes (Some a) None gained = gained
gained_tells bytes (Some a) (Some b) gained = tt

pub lost_tells : (bytes : List ℕ) (a b : Option (List ℕ)) → Lost bytes a b → TellsAsBefore a b
lost_tells bytes None None lost = tt
lost_tells bytes None (Some b) lost = lost
lost_tells bytes (Some a) None lost = lost
lost_tells bytes (Some a) (Some b) lost = tt
