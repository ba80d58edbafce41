-- Records that are judged one after another, each behind what was kept of those before it.
use Rattle.std.specs.Prelude.{◌≡◌, ℕ, ◌+◌, List, [], ◌∷◌, ◌++◌, length, Result, Ok, Err}

-- The records all keep the rules, and these are the items that they stand for.
pub data AreKept {R I F : Type 0} (judge : List I → R → Result I F) : List R → List I → Type 0 where
  none : AreKept judge [] []
  one_more : {records : List R} {items : List I} {next : R} {item : I} →
      AreKept judge records items → judge items next ≡ Ok item →
      AreKept judge (records ++ next ∷ []) (items ++ item ∷ [])

-- The record of this number, counted from 1, is the first that breaks a rule, and this
-- is its fault.
pub record IsFirstFault {R I F : Type 0} (judge : List I → R → Result I F) (records : List R)
    (number : ℕ) (fault : F) : Type 0 where
  pub before : List R
  pub broken : R
  pub after : List R
  pub items : List I
  pub parted : records ≡ before ++ broken ∷ after
  pub kept : AreKept judge before items
  pub breaks : judge items broken ≡ Err fault
  pub numbered : number ≡ length before + 1

-- What comes of the records, in one pass: the items of all of them, or the first fault
-- with its number.
abbrev pub judged_next : {I F : Type 0} → (List I → Result (List I) (ℕ × F)) → List I → ℕ
    → Result I F → Result (List I) (ℕ × F)
judged_next go items number (Ok item) = go (items ++ item ∷ [])
judged_next go items number (Err fault) = Err (number, fault)

abbrev pub judged_from : {R I F : Type 0} → (List I → R → Result I F) → List I → ℕ → List R
    → Result (List I) (ℕ × F)
judged_from judge items number [] = Ok items
judged_from judge items number (next ∷ rest) =
    judged_next (λ more. judged_from judge more (number + 1) rest) items number (judge items next)
