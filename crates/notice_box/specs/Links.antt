-- The places that wait, each linked with the one before and the one behind it.
use Rattle.std.specs.Prelude.{◌≡◌, ℕ, Bool, true, false, ◌+◌, ◌<◌, ◌==◌, ◌^◌, List, length}
use Rattle.std.specs.Prelude.{slice_index_or, Option, Some, None}
use Rattle.notice_box.specs.declared.links.Link.{Link}
use Rattle.notice_box.specs.declared.notice.Notice.{Notice}
use Rattle.notice_box.specs.Box.{AreNumbered, IsLast, IsNext, count_waiting, notices_of, waits}

-- what stands behind the end of the links
abbrev pub no_link : Link
no_link = record { earlier = None; later = None }

-- the place before a place, and the one behind it
abbrev pub earlier_at : List Link → ℕ → Option ℕ
earlier_at links place = (slice_index_or links place no_link).earlier

abbrev pub later_at : List Link → ℕ → Option ℕ
later_at links place = (slice_index_or links place no_link).later

-- whether this is the place
abbrev pub is_at : Option ℕ → ℕ → Bool
is_at None place = false
is_at (Some at) place = place == at

-- one of two, as the first is there or not
abbrev pub if_there : Option ℕ → Option ℕ → Option ℕ → Option ℕ
if_there None there else_ = else_
if_there (Some at) there else_ = there

-- The links of the places that wait lead to the next and to the last one that waits.
pub record AreLinked (waiting : ℕ → Bool) (links : List Link) (first last : Option ℕ)
    (end : ℕ) : Type 0 where
  pub beyond : (place : ℕ) → waiting place ≡ true → place < end
  pub first_is : IsNext waiting 0 first
  pub last_is : IsLast waiting end last
  pub earlier : (place : ℕ) → waiting place ≡ true → IsLast waiting place (earlier_at links place)
  pub later : (place : ℕ) → waiting place ≡ true → IsNext waiting (place + 1) (later_at links place)

-- what is kept of a box
pub record NoticesAreKept (made : List (Notice × Bool)) (links : List Link) (first last : Option ℕ)
    (waiting : ℕ) : Type 0 where
  pub few : length made < 2 ^ 32
  pub numbered : AreNumbered 1 (notices_of made)
  pub lengths : length links ≡ length made
  pub count : waiting ≡ count_waiting made
  pub linked : AreLinked (waits made) links first last (length made)
