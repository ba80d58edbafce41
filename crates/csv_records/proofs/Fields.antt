-- A record's fields by their places.
use Rattle.std.proofs.Common.{◌≡◌, ℕ, zero, suc, List, [], ◌∷◌, length, Some, refl, arith}
use Rattle.std.proofs.Common.{slice_get}
use Rattle.csv.specs.Records.{field_at}
use Rattle.csv_records.specs.Records.{Fields}

-- `csv`'s word for the field at a place is std's
pub field_at-slice_get : (r : Fields) (i : ℕ) → field_at r i ≡ slice_get r i
unfolding field_at
field_at-slice_get [] i = refl
field_at-slice_get (f ∷ fs) zero = refl
field_at-slice_get (f ∷ fs) (suc i) = field_at-slice_get fs i

-- a record of five fields is the list of its five
pub five_are : (r : Fields) (a b c d e : List ℕ) → length r ≡ 5 → Some a ≡ slice_get r 0
    → Some b ≡ slice_get r 1 → Some c ≡ slice_get r 2
    → Some d ≡ slice_get r 3 → Some e ≡ slice_get r 4 → r ≡ a ∷ b ∷ c ∷ d ∷ e ∷ []
five_are (x0 ∷ x1 ∷ x2 ∷ x3 ∷ x4 ∷ []) a b c d e n p0 p1 p2 p3 p4 = cc (p0, p1, p2, p3, p4)
five_are _ a b c d e n p0 p1 p2 p3 p4 = absurd (omega arith)

-- a record of six fields is the list of its six
pub six_are : (r : Fields) (a b c d e f : List ℕ) → length r ≡ 6 → Some a ≡ slice_get r 0
    → Some b ≡ slice_get r 1 → Some c ≡ slice_get r 2
    → Some d ≡ slice_get r 3 → Some e ≡ slice_get r 4 → Some f ≡ slice_get r 5
    → r ≡ a ∷ b ∷ c ∷ d ∷ e ∷ f ∷ []
six_are (x0 ∷ x1 ∷ x2 ∷ x3 ∷ x4 ∷ x5 ∷ []) a b c d e f n p0 p1 p2 p3 p4 p5 =
    cc (p0, p1, p2, p3, p4, p5)
six_are _ a b c d e f n p0 p1 p2 p3 p4 p5 = absurd (omega arith)
