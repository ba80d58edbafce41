-- Cells of an indicator, or of an indicator on a day, each linked to the one before it.
use Rattle.std.specs.Prelude.{◌≡◌, ◌≤◌, ◌+◌, ◌/◌, ◌&&◌, ℕ, zero, suc, Bool, cond}
use Rattle.std.specs.Prelude.{nat_eq, List, [], ◌∷◌, ◌++◌, length, map, Option, Some}
use Rattle.std.specs.Prelude.{None, vec_capacity}
use Rattle.std.specs.Str.{bytes_eq}
use Rattle.slo_limits.specs.declared.TheConstants.{MINUTES_A_DAY}
use Rattle.indexmap.specs.IndexMap.{get, spare}
use Rattle.cell_index.specs.Extents.{AreExtents}
use Rattle.cell_index.specs.declared.chains.Chains.{Chains}
use Rattle.cell_index.specs.declared.chains.Group.{Group}
use Rattle.cell_index.specs.declared.cell.Cell.{Cell}
use Rattle.cell_index.specs.declared.cell_index.CellIndex.{CellIndex}

-- the last place, counted from 1, once one more item stands in front, which may pass the test
abbrev pub later : ℕ → Bool → ℕ
later zero here = cond here 1 0
later (suc n) here = suc (suc n)

-- one more than the last place at which a test passes, or 0
abbrev pub last : {A : Type 0} → (A → Bool) → List A → ℕ
last p [] = 0
last p (x ∷ xs) = later (last p xs) (p x)

-- the number below, none below 0
abbrev pub below : ℕ → Option ℕ
below zero = None
below (suc n) = Some n

-- whether two groups are one
abbrev pub group_eq : Group → Group → Bool
group_eq a b = bytes_eq a.name b.name && nat_eq a.day b.day

-- the group of a cell among those of its indicator on its day
abbrev pub day_group : Cell → Group
day_group cell = record { name = cell.sli; day = cell.minute / MINUTES_A_DAY }

-- the group of a cell among all of its indicator
abbrev pub sli_group : Cell → Group
sli_group cell = record { name = cell.sli; day = 0 }

-- a place and one more, or 0
abbrev pub link_of : Option ℕ → ℕ
link_of None = 0
link_of (Some link) = link

-- the link of each item to the one before it of its group
abbrev pub links_after : List Group → List Group → List ℕ
links_after before [] = []
links_after before (group ∷ groups) =
    last (group_eq group) before ∷ links_after (before ++ group ∷ []) groups

-- the last item of each group is known, and each item has its link
pub record AreLinked (groups : List Group) (chains : Chains) : Type 0 where
  pub lasts : (group : Group)
      → link_of (get group_eq chains.lasts group) ≡ last (group_eq group) groups
  pub links : chains.links.items ≡ links_after [] groups

-- so many items can be added without memory
pub record HasRoomFor (count : ℕ) (chains : Chains) : Type 0 where
  pub links : length chains.links.items + count ≤ vec_capacity chains.links
  pub lasts : count ≤ spare chains.lasts

-- the index is of these cells
pub record IsIndexed (cells : List Cell) (index : CellIndex) : Type 0 where
  pub days : AreLinked (map day_group cells) index.days
  pub slis : AreLinked (map sli_group cells) index.slis
  pub extents : AreExtents cells index.extents

-- so many cells can be added to the index without memory
pub record IsReadyFor (count : ℕ) (index : CellIndex) : Type 0 where
  pub days : HasRoomFor count index.days
  pub slis : HasRoomFor count index.slis
  pub extents : count ≤ spare index.extents.known
