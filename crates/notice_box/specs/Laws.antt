-- How many notices wait, after so many were made and taken.
use Rattle.std.specs.Prelude.{◌≡◌, ℕ, Bool, true, not, ⊤, ◌+◌, ◌≤◌, List, [], ◌∷◌, length, map}
use Rattle.std.specs.List.{list_any}
use Rattle.notice_box.specs.declared.notice.Notice.{Notice}
use Rattle.notice_box.specs.Box.{AreNumbered, count_waiting}

-- Each taking is given as the numbers that it takes: one at most.
abbrev pub TakeOneAtMost : List (ℕ → Bool) → Type 0
TakeOneAtMost [] = ⊤
TakeOneAtMost (takes ∷ takings) = ((a b : ℕ) → takes a ≡ true → takes b ≡ true → a ≡ b)
    × TakeOneAtMost takings

-- notices, each waiting unless a taking takes its number
abbrev pub kept_after : List (ℕ → Bool) → List Notice → List (Notice × Bool)
kept_after takings notices = map
    (λ notice. (notice, not (list_any (λ (takes : ℕ → Bool). takes notice.number) takings))) notices

-- all notices that were made are at most those that wait and the takings together
abbrev pub TakingsAreFew : Type 0
TakingsAreFew =
    (takings : List (ℕ → Bool)) (notices : List Notice) (from : ℕ) → TakeOneAtMost takings →
    AreNumbered from notices →
    length notices ≤ count_waiting (kept_after takings notices) + length takings
