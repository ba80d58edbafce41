-- Doors that are closed one after another, and their counts.
use Rattle.std.proofs.Common.{◌≡◌, ◌≤◌, ◌+◌, ℕ, List, [], ◌∷◌, ◌++◌, length}
use Rattle.std.proofs.Common.{sym, ap, subst, ◌∙◌, arith, append_assoc, append-nil, length-append}
use Rattle.std.proofs.Common.{Some, None}
use Rattle.std.specs.Prelude.{min}
use Rattle.std.specs.declared.option.Option.{Option}
use Rattle.office_outside.specs.Faults.{Rose, last_count}
use Rattle.office_doors.specs.Books.{Moves, WhereTold}
use Rattle.office_doors.specs.Entrances.{Closes, Entrance, joined_count}
use Rattle.visit_workers.specs.Workers.{AreClosed, HasRoom}
use Rattle.visit_workers.proofs.Chains.{moves_both, moves_still}

-- the same room by another list
pub room_as : {X A V : Type 0} (items others : List X) (a : Option (Entrance A V))
    → items ≡ others → WhereTold (HasRoom (length others)) a → WhereTold (HasRoom (length items)) a
room_as {X} items others a is room =
    subst (λ (l : List X). WhereTold (HasRoom (length l)) a) (sym is) room

module _ {A V : Type 0} where
  room_left : (count : ℕ) (d : A) (a b : Entrance A V) → HasRoom (count + 1) a → Closes d a b
      → HasRoom count b
  room_left count d a b room closes =
      omega (
        arith,
        room,
        ap (λ (e : Entrance A V). length e.closed) closes,
        ap (λ (e : Entrance A V). e.opened) closes,
        length-append a.closed (d ∷ []),
      )

  pub room_after : {X : Type 0} (x : X) (items rest : List X) (d : A)
      (a b : Option (Entrance A V)) → items ≡ x ∷ rest
      → WhereTold (HasRoom (length items)) a → Moves (Closes d) a b
      → WhereTold (HasRoom (length rest)) b
  room_after x items rest d None None is room closes = tt
  room_after x items rest d None (Some b) is room closes = absurd closes
  room_after x items rest d (Some a) None is room closes = absurd closes
  room_after x items rest d (Some a) (Some b) is room closes =
      room_left (length rest) d a b (omega (arith, room, ap length is)) closes

  closed_of : (a : Entrance A V) → AreClosed [] a a
  closed_of a =
      ap (λ (l : List A). record { held = a.held; opened = a.opened; closed = l })
      (sym (append-nil a.closed))

  pub none_closed : (a : Option (Entrance A V)) → Moves (AreClosed []) a a
  none_closed a = moves_still (AreClosed []) closed_of a

  closed_one : (ds : List A) (d : A) (a b c : Entrance A V) → AreClosed ds a b → Closes d b c
      → AreClosed (ds ++ d ∷ []) a c
  closed_one ds d a b c are closes =
      closes ∙ ap (λ (e : Entrance A V). record e { closed = e.closed ++ d ∷ [] }) are
      ∙ ap (λ (l : List A). record { held = a.held; opened = a.opened; closed = l })
      (append_assoc a.closed ds (d ∷ []))

  pub one_closed : (ds : List A) (d : A) (a b c : Option (Entrance A V)) → Moves (AreClosed ds) a b
      → Moves (Closes d) b c → Moves (AreClosed (ds ++ d ∷ [])) a c
  one_closed ds d a b c are closes =
      moves_both (AreClosed ds) (Closes d) (AreClosed (ds ++ d ∷ [])) (closed_one ds d) a b c are
      closes

-- counts that are added up
pub low_after : (start before now d : ℕ) → min start last_count ≤ before
    → now ≡ joined_count before d → min start last_count ≤ now
low_after start before now d low is = omega (arith, low, is)

pub risen_after : (start before now d : ℕ) → Rose start before → now ≡ joined_count before d
    → Rose start now
risen_after start before now d rose is = omega (arith, rose, is)

pub risen_now : (start before now d : ℕ) → min start last_count ≤ before
    → now ≡ joined_count before d → 1 ≤ d → Rose start now
risen_now start before now d low is some = omega (arith, low, is, some)
