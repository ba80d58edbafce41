-- The notices that were made, and which of them wait.
use Rattle.std.specs.Prelude.{◌≡◌, ℕ, Bool, true, false, ⊤, not, ◌+◌, ◌<◌, ◌≤◌, ◌==◌, ◌&&◌, List}
use Rattle.std.specs.Prelude.{[], ◌∷◌, length, map, filter, slice_index_or, Option, Some, None}
use Rattle.burn_core.specs.declared.alert.State.TheVariants.{Quiet}
use Rattle.notice_box.specs.declared.notice.Notice.{Notice}

-- The notices that were made, each with whether it waits, in the order of their numbers; and the
-- room for more.
pub record Made : Type 0 where
  pub made : List (Notice × Bool)
  pub spare : ℕ

-- notices are numbered one after another, from a number on
abbrev pub AreNumbered : ℕ → List Notice → Type 0
AreNumbered number [] = ⊤
AreNumbered number (notice ∷ rest) = (notice.number ≡ number) × AreNumbered (number + 1) rest

-- all notices that were made
abbrev pub notices_of : List (Notice × Bool) → List Notice
notices_of made = map (λ kept. kept.0) made

-- the notices that wait, in the order of their numbers
abbrev pub waiting_in : List (Notice × Bool) → List Notice
waiting_in made = map (λ kept. kept.0) (filter (λ kept. kept.1) made)

-- how many wait
abbrev pub count_waiting : List (Notice × Bool) → ℕ
count_waiting made = length (filter (λ kept. kept.1) made)

-- the notice of a number doesn't wait any more
abbrev pub after_taking : List (Notice × Bool) → ℕ → List (Notice × Bool)
after_taking made number = map (λ kept. (kept.0, kept.1 && not (kept.0.number == number))) made

-- what stands behind the end of the list
abbrev pub no_notice : Notice × Bool
no_notice =
    (record { number = 0; at = 0; slo = []; objective = 0; policy = []; state = Quiet }, false)

-- whether a notice waits at a place of the list; none behind its end
abbrev pub waits : List (Notice × Bool) → ℕ → Bool
waits made place = (slice_index_or made place no_notice).1

-- the first place from a place on at which something waits
abbrev pub IsNext : (ℕ → Bool) → ℕ → Option ℕ → Type 0
IsNext waiting from None = (place : ℕ) → from ≤ place → waiting place ≡ false
IsNext waiting from (Some next) =
    (from ≤ next) × (waiting next ≡ true)
    × ((place : ℕ) → from ≤ place → place < next → waiting place ≡ false)

-- the last place before a place at which something waits
abbrev pub IsLast : (ℕ → Bool) → ℕ → Option ℕ → Type 0
IsLast waiting until None = (place : ℕ) → place < until → waiting place ≡ false
IsLast waiting until (Some last) =
    (last < until) × (waiting last ≡ true)
    × ((place : ℕ) → last < place → place < until → waiting place ≡ false)
