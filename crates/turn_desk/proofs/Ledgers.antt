-- A history that goes on by one turn.
use Rattle.std.proofs.Common.{◌≡◌, ◌⊎◌, inl, inr, ⊎_elim, ℕ, zero, suc, ◌+◌, ◌<◌, Bool, true, false}
use Rattle.std.proofs.Common.{List, [], ◌∷◌, ◌++◌, length, refl, sym, ap, ◌∙◌, subst, arith}
use Rattle.std.proofs.Common.{length-append, append_assoc, true≢false}
use Rattle.std.specs.Prelude.{◌&&◌, ◌==◌, if◌then◌else◌, slice_get, Some, None}
use Rattle.std.specs.Str.{bytes_eq}
use Rattle.std.specs.declared.option.Option.{Option}
use Rattle.std.proofs.lemmas.Bool.Decides.{Decides-eqb}
use Rattle.std.proofs.lemmas.Slice.Eq.{bytes_eq-Decides}
use Rattle.turn_desk.specs.Histories.{Extends}
use Rattle.turn_desk.specs.Ledgers.{Ledger, GoesOn, MaySettle, doubt_at, is_same_doubt}
use Rattle.turn_desk.specs.Ledgers.{left_in_doubt}
use Rattle.turn_desk.specs.Sources.{HasDoubt}

pub goes_extends : (old new : Ledger) (added : Bool) → GoesOn old new added
    → Extends old.history new.history
goes_extends old new added g =
    (g.settled ++ g.own, g.grows ∙ append_assoc old.history g.settled g.own)

pub goes_more : (old new : Ledger) (added : Bool) → GoesOn old new added → added ≡ true
    → length old.history < length new.history
goes_more old new added g is =
    let one : length g.own ≡ 1 = g.one ∙ ap (λ (b : Bool). if b then 1 else 0) is in
    let all : length new.history ≡ length (old.history ++ g.settled) + length g.own =
    ap length g.grows ∙ length-append (old.history ++ g.settled) g.own in
    let front : length (old.history ++ g.settled) ≡ length old.history + length g.settled =
    length-append old.history g.settled in
    omega (arith, one, all, front)

-- an entry of two lists one after the other
split_get : {X : Type 0} (xs ys : List X) (p : ℕ) (e : X) → slice_get (xs ++ ys) p ≡ Some e
    → (slice_get xs p ≡ Some e) ⊎ ((k : ℕ) × (p ≡ length xs + k) × (slice_get ys k ≡ Some e))
split_get [] ys p e at = inr (p, omega arith, at)
split_get (x ∷ xs) ys zero e at = inl at
split_get (x ∷ xs) ys (suc p) e at =
    ⊎_elim (λ here. inl here) (λ there. inr (there.0, omega (arith, there.1), there.2))
    (split_get xs ys p e at)

none_there : {X : Type 0} (p : ℕ) (e : X) → slice_get [] p ≡ Some e → ⊥
none_there p e at = cc at

-- one that may be settled is the one in doubt, and the first
settles_first : (doubt : Option (List ℕ)) (settled : List (List ℕ)) → MaySettle doubt settled
    → (k : ℕ) (e : List ℕ) → slice_get settled k ≡ Some e → (k ≡ 0) × (doubt ≡ Some e)
settles_first doubt [] may k e at = absurd (none_there k e at)
settles_first doubt (f ∷ []) may zero e at = (refl, may ∙ at)
settles_first doubt (f ∷ []) may (suc k) e at = absurd (none_there k e at)
settles_first doubt (f ∷ g ∷ more) may k e at = absurd may

own_is_last : (own : List (List ℕ)) (added : Bool) → length own ≡ (if added then 1 else 0)
    → (k : ℕ) (e : List ℕ) → slice_get own k ≡ Some e
    → (k ≡ 0) × (added ≡ true) × (length own ≡ 1)
own_is_last [] added one k e at = absurd (none_there k e at)
own_is_last (x ∷ xs) false one k e at = absurd (omega (arith, one))
own_is_last (x ∷ []) true one zero e at = (refl, refl, refl)
own_is_last (x ∷ []) true one (suc k) e at = absurd (none_there k e at)
own_is_last (x ∷ y ∷ xs) true one k e at = absurd (omega (arith, one))

-- an entry of the history after a turn is an older one, the one that was in doubt, or the call's
-- own
pub entry_from : (old new : Ledger) (added : Bool) → GoesOn old new added → (p : ℕ) (e : List ℕ)
    → slice_get new.history p ≡ Some e
    → (slice_get old.history p ≡ Some e)
    ⊎ (((p ≡ length old.history) × (old.doubt ≡ Some e))
    ⊎ ((added ≡ true) × (length new.history ≡ p + 1)))
entry_from old new added g p e at =
    let front = old.history ++ g.settled in
    let all : length new.history ≡ length front + length g.own =
    ap length g.grows ∙ length-append front g.own in
    ⊎_elim
    (λ (settled : slice_get front p ≡ Some e). ⊎_elim (λ older. inl older)
    (λ later. let one = settles_first old.doubt g.settled g.may later.0 e later.2 in
    inr (inl (omega (arith, later.1, one.0), one.1)))
    (split_get old.history g.settled p e settled))
    (λ later. let one = own_is_last g.own added g.one later.0 e later.2 in
    inr (inr (one.1, omega (arith, all, later.1, one.0, one.2))))
    (split_get front g.own p e (sym (ap (λ (h : List (List ℕ)). slice_get h p) g.grows) ∙ at))

both_true : (a b : Bool) → (a && b) ≡ true → (a ≡ true) × (b ≡ true)
both_true true b is = (refl, is)
both_true false b is = absurd (cc is)

-- what is in doubt after a turn was so before it, or the turn left it
pub doubted : (old new : Ledger) (e : List ℕ) → new.doubt ≡ Some e
    → HasDoubt (left_in_doubt old new) (length new.history) e
    ⊎ ((old.doubt ≡ Some e) × (length old.history ≡ length new.history))
doubted old new e is = at_places old.doubt new.doubt is
  where
    m : ℕ
    m = length old.history

    n : ℕ
    n = length new.history

    told : (b : Bool) (d f : List ℕ) → is_same_doubt (doubt_at m (Some d)) (doubt_at n (Some f)) ≡ b
        → f ≡ e
        → HasDoubt (if b then [] else doubt_at n (Some f)) n e
        ⊎ ((Some d ≡ Some e) × (m ≡ n))
    told true d f same here =
        let parts = both_true (m == n) (bytes_eq d f) same in
        inr (ap Some ((bytes_eq-Decides d f).0 parts.1 ∙ here), (Decides-eqb m n).0 parts.0)
    told false d f other here = inl (inl (refl, sym here))

    at_places : (was now : Option (List ℕ)) → now ≡ Some e
        → HasDoubt (if is_same_doubt (doubt_at m was) (doubt_at n now) then [] else doubt_at n now)
        n e
        ⊎ ((was ≡ Some e) × (m ≡ n))
    at_places was None none = absurd (cc none)
    at_places None (Some f) here = inl (inl (refl, sym (cc here)))
    at_places (Some d) (Some f) here =
        let same : f ≡ e = cc here in
        told (is_same_doubt (doubt_at m (Some d)) (doubt_at n (Some f))) d f refl same

-- what a turn leaves in doubt is in doubt after it, behind the history; and where the same was in
-- doubt behind the same history, the turn left nothing
pub left_is : (old new : Ledger) (p : ℕ) (e : List ℕ) → HasDoubt (left_in_doubt old new) p e
    → (p ≡ length new.history) × (new.doubt ≡ Some e)
    × ((length new.history ≡ length old.history) → new.doubt ≡ old.doubt → ⊥)
left_is old new p e had = found old.doubt new.doubt had
  where
    m : ℕ
    m = length old.history

    n : ℕ
    n = length new.history

    both_are : (a b : Bool) → a ≡ true → b ≡ true → (a && b) ≡ true
    both_are true b is also = also
    both_are false b is also = absurd (cc is)

    same_left : (f : List ℕ) → n ≡ m
        → is_same_doubt (doubt_at m (Some f)) (doubt_at n (Some f)) ≡ true
    same_left f is = both_are (m == n) (bytes_eq f f) ((Decides-eqb m n).1 (sym is))
        ((bytes_eq-Decides f f).1 refl)

    by : (b : Bool) (was : Option (List ℕ)) (f : List ℕ)
        → is_same_doubt (doubt_at m was) (doubt_at n (Some f)) ≡ b
        → HasDoubt (if b then [] else doubt_at n (Some f)) p e
        → (p ≡ n) × (Some f ≡ Some e) × ((n ≡ m) → Some f ≡ was → ⊥)
    by true was f is none = absurd none
    by false was f is (inr none) = absurd none
    by false was f is (inl at) = (
      at.0,
      ap Some (sym at.1),
      λ len same. true≢false (sym (subst (λ (w : Option (List ℕ)).
          is_same_doubt (doubt_at m w) (doubt_at n (Some f)) ≡ true) same (same_left f len)) ∙ is),
    )

    nothing : (b : Bool) → HasDoubt (if b then [] else []) p e → ⊥
    nothing true none = none
    nothing false none = none

    found : (was now : Option (List ℕ))
        → HasDoubt (if is_same_doubt (doubt_at m was) (doubt_at n now) then [] else doubt_at n now)
        p e
        → (p ≡ n) × (now ≡ Some e) × ((n ≡ m) → now ≡ was → ⊥)
    found was None had = absurd (nothing (is_same_doubt (doubt_at m was) []) had)
    found was (Some f) had =
        by (is_same_doubt (doubt_at m was) (doubt_at n (Some f))) was f refl had
