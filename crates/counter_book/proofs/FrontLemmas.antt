-- The differences of a front of the readings are a front of the differences.
use Rattle.std.proofs.Common.{◌≡◌, List, [], ◌∷◌, ◌++◌, refl, ap, sym, ◌∙◌, subst, append_assoc}
use Rattle.std.proofs.lemmas.List.{append-nil}
use Rattle.counter_book.specs.declared.reading.CounterReading.{CounterReading}
use Rattle.counter_book.specs.declared.reading.Difference.{Difference}
use Rattle.counter_book.specs.Book.{Book, no_readings}
use Rattle.counter_book.specs.Laws.{HoldsReadings, IsFront}
use Rattle.counter_book.specs.Puts.{listed}
use Rattle.counter_book.specs.Laws.HoldsReadings.{empty, put}

-- a list is empty, or has a last element
data LastOf {A : Type 0} : List A → Type 0 where
  none : LastOf []
  last : (xs : List A) (x : A) → LastOf (xs ++ x ∷ [])

last-cons : {A : Type 0} (x : A) (xs : List A) → LastOf xs → LastOf (x ∷ xs)
last-cons x _ none = last [] x
last-cons x _ (last ys y) = last (x ∷ ys) y

last_of : {A : Type 0} (xs : List A) → LastOf xs
last_of [] = none
last_of (x ∷ xs) = last-cons x xs (last_of xs)

not_nil : {A : Type 0} (xs : List A) (x : A) → [] ≡ xs ++ x ∷ [] → ⊥
not_nil [] x e = cc e
not_nil (y ∷ ys) x e = cc e

before_last : {A : Type 0} (xs ys : List A) (x y : A) → xs ++ x ∷ [] ≡ ys ++ y ∷ [] → xs ≡ ys
before_last [] [] x y e = refl
before_last [] (b ∷ ys) x y e = absurd (not_nil ys y (cc e))
before_last (a ∷ xs) [] x y e = absurd (not_nil xs x (cc (sym e)))
before_last (a ∷ xs) (b ∷ ys) x y e =
    let head : a ≡ b = cc e in
    let tail : xs ++ x ∷ [] ≡ ys ++ y ∷ [] = cc e in
    ap (λ z. z ∷ xs) head ∙ ap (λ zs. b ∷ zs) (before_last xs ys x y tail)

longer : (came : List CounterReading) (given more : List Difference) → IsFront came given
    → IsFront came (given ++ more)
longer came given more f = record {
  front = f.front;
  rest = f.rest ++ more;
  book = f.book;
  holds = f.holds;
  parted = ap (λ xs. xs ++ more) f.parted ∙ append_assoc f.front f.rest more;
}

whole : (all came : List CounterReading) (given : List Difference) (kept : Book)
    → HoldsReadings all given kept → all ≡ came → IsFront came given
whole all came given kept h e = record {
  front = given;
  rest = [];
  book = kept;
  holds = subst (λ x. HoldsReadings x given kept) e h;
  parted = sym (append-nil given);
}

nil_front : (came more : List CounterReading) → [] ≡ came ++ more → [] ≡ came
nil_front [] more e = refl
nil_front (x ∷ xs) more e = cc e

fronts : (all : List CounterReading) (given : List Difference) (book : Book)
    → HoldsReadings all given book → (came more : List CounterReading) → all ≡ came ++ more
    → IsFront came given
fronts all given book empty came more e =
    whole [] came [] no_readings empty (nil_front came more e)
fronts all given book (put {came = before} {given = earlier} {book = kept} {after = after} r changes
    h p) came more e =
    by (last_of more) e (fronts before earlier kept h)
  where
    by : {more : List CounterReading} → LastOf more → before ++ r ∷ [] ≡ came ++ more
        → ((came more : List CounterReading) → before ≡ came ++ more → IsFront came earlier)
        → IsFront came (earlier ++ listed changes)
    by none e go = whole (before ++ r ∷ []) came (earlier ++ listed changes) after
        (put r changes h p) (e ∙ append-nil came)
    by (last xs x) e go = longer came earlier (listed changes) (go came xs
        (before_last before (came ++ xs) r x (e ∙ sym (append_assoc came xs (x ∷ [])))))

-- The differences of a front of the readings are a front of the differences.
pub front-is : (came more : List CounterReading) (given : List Difference) (book : Book)
    → HoldsReadings (came ++ more) given book → IsFront came given
front-is came more given book h = fronts (came ++ more) given book h came more refl
