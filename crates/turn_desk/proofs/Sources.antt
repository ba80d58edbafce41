-- By whom the entries of a history come, as the views of passes change.
use Rattle.std.proofs.Common.{◌≡◌, ◌≢◌, ◌⊎◌, inl, inr, ⊎_elim, ℕ, zero, suc, ◌+◌, ◌<◌, ◌≤◌, true}
use Rattle.std.proofs.Common.{true≢false, Bool, false, List, [], ◌∷◌, ◌++◌, length, set, refl, sym}
use Rattle.std.proofs.Common.{ap, ◌∙◌, subst, arith}
use Rattle.std.specs.Prelude.{◌||◌}
use Rattle.std.specs.declared.option.Option.{Option as Maybe}
use Rattle.std.proofs.Math.Decide.{ℕ_discrete}
use mathlib.Core.Logic.{dite}
use mathlib.Core.Option.{some, some-injective, some-ne-none}
use lib.ListN.{get_elem?}
use Rattle.atomic_table.proofs.Lists.{at_set, at_snoc, at_longer, set_else}
use Rattle.turn_desk.specs.Histories.{Has}
use Rattle.turn_desk.specs.Rule.{Covers, Foresees, GuestsAreKnown, HasAll, HasGuests}
use Rattle.turn_desk.specs.Rule.{IsMade, IsSpent, Stems}
use Rattle.turn_desk.specs.Sources.{Accounts, HasDoubt, IsMadeBy, IsOld, total}
use Rattle.turn_desk.specs.Views.{view_of_both}
use Rattle.turn_desk.specs.declared.view.Doubt.{Doubt}
use Rattle.turn_desk.specs.declared.view.Opening.{Opening}
use Rattle.turn_desk.specs.declared.view.View.{View}
use Rattle.turn_desk.proofs.Views.{off, set_there}

pub has_left : (xs ys : List ℕ) (p : ℕ) → Has xs p → Has (xs ++ ys) p
has_left [] ys p none = absurd none
has_left (x ∷ xs) ys p (inl is) = inl is
has_left (x ∷ xs) ys p (inr later) = inr (has_left xs ys p later)

pub has_right : (xs ys : List ℕ) (p : ℕ) → Has ys p → Has (xs ++ ys) p
has_right [] ys p had = had
has_right (x ∷ xs) ys p had = inr (has_right xs ys p had)

pub doubt_left : (xs ys : List Doubt) (p : ℕ) (e : List ℕ) → HasDoubt xs p e
    → HasDoubt (xs ++ ys) p e
doubt_left [] ys p e none = absurd none
doubt_left (x ∷ xs) ys p e (inl is) = inl is
doubt_left (x ∷ xs) ys p e (inr later) = inr (doubt_left xs ys p e later)

pub doubt_right : (xs ys : List Doubt) (p : ℕ) (e : List ℕ) → HasDoubt ys p e
    → HasDoubt (xs ++ ys) p e
doubt_right [] ys p e had = had
doubt_right (x ∷ xs) ys p e had = inr (doubt_right xs ys p e had)

pub made_left : (own more : List ℕ) (raised others : List Doubt) (p : ℕ) (e : List ℕ)
    → IsMadeBy own raised p e → IsMadeBy (own ++ more) (raised ++ others) p e
made_left own more raised others p e =
    ⊎_elim (λ a. inl (has_left own more p a)) (λ b. inr (doubt_left raised others p e b))

pub made_right : (own more : List ℕ) (raised others : List Doubt) (p : ℕ) (e : List ℕ)
    → IsMadeBy more others p e → IsMadeBy (own ++ more) (raised ++ others) p e
made_right own more raised others p e =
    ⊎_elim (λ a. inl (has_right own more p a)) (λ b. inr (doubt_right raised others p e b))

pub made_none : (own : List ℕ) (raised : List Doubt) (p : ℕ) (e : List ℕ) → own ≡ [] → raised ≡ []
    → IsMadeBy own raised p e → ⊥
made_none own raised p e none empty = ⊎_elim (λ had. subst (λ (l : List ℕ). Has l p) none had)
    (λ had. subst (λ (l : List Doubt). HasDoubt l p e) empty had)

-- the views at one place are one
same_view : (views : List View) (i j : ℕ) (u v : View) → get_elem? views i ≡ some u
    → get_elem? views j ≡ some v → i ≡ j → u ≡ v
same_view views i j u v here there is =
    some-injective u v (sym here ∙ ap (λ (k : ℕ). get_elem? views k) is ∙ there)

-- some pass's, after a change of one view that keeps what it made
module _ (opening : Opening) (views : List View) (id : ℕ) (v w : View)
    (at : get_elem? views id ≡ some v)
    (keeps : (p : ℕ) (e : List ℕ) → IsMadeBy v.own v.raised p e → IsMadeBy w.own w.raised p e) where
  made_set : (p : ℕ) (e : List ℕ) → IsMade views p e → IsMade (set views id w) p e
  made_set p e (i, u, there, made) = dite (ℕ_discrete i id)
      (λ is. let same = same_view views i id u v there at is in (
        id,
        w,
        set_there views id v w at,
        keeps p e (subst (λ (x : View).
            IsMadeBy x.own x.raised p e) same made),
      ))
      (λ ne. (i, u, set_else views id i w ne ∙ there, made))

  pub stems_set : (p : ℕ) (e : List ℕ) → Stems opening views p e
      → Stems opening (set views id w) p e
  stems_set p e = ⊎_elim (λ old. inl old) (λ made. inr (made_set p e made))

  pub covers_set : (history : List (List ℕ)) → Covers opening views history
      → Covers opening (set views id w) history
  covers_set history covers p e there = stems_set p e (covers p e there)

  pub foresees_set : (history : List (List ℕ)) (doubt : Maybe (List ℕ))
      → Foresees opening views history doubt → Foresees opening (set views id w) history doubt
  foresees_set history doubt foresees e is = stems_set (length history) e (foresees e is)

-- the same with a view behind all others
module _ (opening : Opening) (views : List View) (w : View) where
  pub stems_push : (p : ℕ) (e : List ℕ) → Stems opening views p e
      → Stems opening (views ++ w ∷ []) p e
  stems_push p e = ⊎_elim (λ old. inl old)
      (λ made. inr (made.0, made.1, at_longer views (w ∷ []) made.0 made.1 made.2, made.3))

  pub covers_push : (history : List (List ℕ)) → Covers opening views history
      → Covers opening (views ++ w ∷ []) history
  covers_push history covers p e there = stems_push p e (covers p e there)

  pub foresees_push : (history : List (List ℕ)) (doubt : Maybe (List ℕ))
      → Foresees opening views history doubt → Foresees opening (views ++ w ∷ []) history doubt
  foresees_push history doubt foresees e is = stems_push (length history) e (foresees e is)

-- and where two views become one, and the second is spent
module _ (views : List View) (id other : ℕ) (v w gone : View)
    (at : get_elem? views id ≡ some v) (there : get_elem? views other ≡ some w)
    (two : other ≢ id) where
  abbrev both : View
  both = view_of_both v w

  both_there : get_elem? (set (set views id both) other gone) id ≡ some both
  both_there = set_else (set views id both) other id gone (λ e. two (sym e))
      ∙ set_there views id v both at

  made_join : (p : ℕ) (e : List ℕ) → IsMade views p e
      → IsMade (set (set views id both) other gone) p e
  made_join p e (i, u, here, made) = dite (ℕ_discrete i id)
      (λ is. let same = same_view views i id u v here at is in (
        id,
        both,
        both_there,
        made_left v.own w.own v.raised w.raised p e
            (subst (λ (x : View). IsMadeBy x.own x.raised p e) same made),
      ))
      (λ ne. dite (ℕ_discrete i other)
      (λ is. let same = same_view views i other u w here there is in (
        id,
        both,
        both_there,
        made_right v.own w.own v.raised w.raised p e
            (subst (λ (x : View). IsMadeBy x.own x.raised p e) same made),
      ))
      (λ no. (
        i,
        u,
        set_else (set views id both) other i gone no ∙ set_else views id i both ne ∙ here,
        made,
      )))

  pub stems_join : (opening : Opening) (p : ℕ) (e : List ℕ) → Stems opening views p e
      → Stems opening (set (set views id both) other gone) p e
  stems_join opening p e = ⊎_elim (λ old. inl old) (λ made. inr (made_join p e made))

-- numbers that are added up
pub total_set : {X : Type 0} (f : X → ℕ) (xs : List X) (id : ℕ) (x y : X)
    → get_elem? xs id ≡ some x → total f (set xs id y) + f x ≡ total f xs + f y
total_set f [] id x y at = absurd (some-ne-none x (sym at))
total_set f (z ∷ zs) zero x y at =
    let same : f z ≡ f x = ap f (some-injective z x at) in omega (arith, same)
total_set f (z ∷ zs) (suc id) x y at =
    let rest = total_set f zs id x y at in omega (arith, rest)

pub total_push : {X : Type 0} (f : X → ℕ) (xs : List X) (y : X)
    → total f (xs ++ y ∷ []) ≡ total f xs + f y
total_push f [] y = omega arith
total_push f (x ∷ xs) y = let rest = total_push f xs y in omega (arith, rest)

total_at : {X : Type 0} (f : X → ℕ) (xs : List X) (id : ℕ) (x : X) → get_elem? xs id ≡ some x
    → f x ≤ total f xs
total_at f [] id x at = absurd (some-ne-none x (sym at))
total_at f (z ∷ zs) zero x at =
    let same : f z ≡ f x = ap f (some-injective z x at) in omega (arith, same)
total_at f (z ∷ zs) (suc id) x at = let rest = total_at f zs id x at in omega (arith, rest)

abbrev pub parts_of : List View → ℕ
parts_of views = total (λ v. v.parts) views

pub whole_set : (views : List View) (id : ℕ) (v w : View) → get_elem? views id ≡ some v
    → w.parts ≡ v.parts → (n : ℕ) → parts_of views ≡ n → parts_of (set views id w) ≡ n
whole_set views id v w at same n whole =
    let now : parts_of (set views id w) + v.parts ≡ parts_of views + w.parts =
    total_set (λ (x : View). x.parts) views id v w at in
    omega (arith, now, same, whole)

-- beside one that stands for all no other stands for any
others_none : (views : List View) (id j : ℕ) (v u : View) → get_elem? views id ≡ some v
    → get_elem? views j ≡ some u → j ≢ id → v.parts ≡ parts_of views → u.parts ≡ 0
others_none views id j v u at there ne all =
    let none : View = record v { parts = 0 } in
    let less : parts_of (set views id none) + v.parts ≡ parts_of views + 0 =
    total_set (λ (x : View). x.parts) views id v none at in
    let few : u.parts ≤ parts_of (set views id none) =
    total_at (λ (x : View). x.parts) (set views id none) j u
    (set_else views id j none ne ∙ there) in
    omega (arith, less, few, all)

-- further passes, after a change of one view
module _ (views : List View) (id : ℕ) (v w : View) (at : get_elem? views id ≡ some v)
    (keeps : 0 < v.parts → v.has_split ≡ true → (0 < w.parts) × (w.has_split ≡ true)) where
  pub has_guests_set : HasGuests views → HasGuests (set views id w)
  has_guests_set (i, u, there, some_parts, split) = dite (ℕ_discrete i id)
      (λ is. let same = same_view views i id u v there at is in
      let kept = keeps (subst (λ (x : View). 0 < x.parts) same some_parts)
      (ap (λ (x : View). x.has_split) (sym same) ∙ split) in
      (id, w, set_there views id v w at, kept.0, kept.1))
      (λ ne. (i, u, set_else views id i w ne ∙ there, some_parts, split))

  pub guests_set : v.live ≡ true → (w.parts ≡ 0 → v.parts ≡ 0) → GuestsAreKnown views
      → GuestsAreKnown (set views id w)
  guests_set live none known j u here empty = ⊎_elim
      (λ (t : (j ≡ id) × (w ≡ u)). ⊎_elim
      (λ (s : IsSpent v). absurd (true≢false (sym live ∙ s.spent)))
      (λ guests. inr (has_guests_set guests))
      (known id v at (none (ap (λ (x : View). x.parts) t.1 ∙ empty))))
      (λ (t : (j ≢ id) × (get_elem? views j ≡ some u)). ⊎_elim (λ s. inl s)
      (λ guests. inr (has_guests_set guests)) (known j u t.1 empty))
      (at_set views id j w u here)

pub has_guests_push : (views : List View) (w : View) → HasGuests views → HasGuests (views ++ w ∷ [])
has_guests_push views w g = (g.0, g.1, at_longer views (w ∷ []) g.0 g.1 g.2, g.3, g.4)

-- a view behind all others is known of, or stands for one
pub guests_push : (views : List View) (w : View)
    → (w.parts ≡ 0 → IsSpent w ⊎ HasGuests (views ++ w ∷ [])) → GuestsAreKnown views
    → GuestsAreKnown (views ++ w ∷ [])
guests_push views w new known j u here empty = ⊎_elim
    (λ was. ⊎_elim (λ s. inl s) (λ guests. inr (has_guests_push views w guests))
    (known j u was empty))
    (λ (same : w ≡ u). ⊎_elim (λ (s : IsSpent w). inl (subst IsSpent same s)) (λ guests. inr guests)
    (new (ap (λ (x : View). x.parts) same ∙ empty)))
    (at_snoc views w u j here)

-- either of two
pub or_left : (a b : Bool) → a ≡ true → (a || b) ≡ true
or_left true b is = refl
or_left false b is = absurd (off is)

pub or_right : (a b : Bool) → b ≡ true → (a || b) ≡ true
or_right true b is = refl
or_right false b is = is

-- two views become one, and the second is spent
module _ (views : List View) (id other : ℕ) (v w gone : View)
    (at : get_elem? views id ≡ some v) (there : get_elem? views other ≡ some w)
    (two : other ≢ id) where
  abbrev one : View
  one = view_of_both v w

  there_yet : get_elem? (set views id one) other ≡ some w
  there_yet = set_else views id other one two ∙ there

  has_guests_join : HasGuests views → HasGuests (set (set views id one) other gone)
  has_guests_join (i, u, here, some_parts, split) =
      let place = both_there views id other v w gone at there two in
      dite (ℕ_discrete i id)
      (λ is. let same = same_view views i id u v here at is in
      let parts : 0 < v.parts = subst (λ (x : View). 0 < x.parts) same some_parts in (
        id,
        one,
        place,
        omega (arith, parts),
        or_left v.has_split w.has_split (ap (λ (x : View). x.has_split) (sym same) ∙ split),
      ))
      (λ ne. dite (ℕ_discrete i other)
      (λ is. let same = same_view views i other u w here there is in
      let parts : 0 < w.parts = subst (λ (x : View). 0 < x.parts) same some_parts in (
        id,
        one,
        place,
        omega (arith, parts),
        or_right v.has_split w.has_split (ap (λ (x : View). x.has_split) (sym same) ∙ split),
      ))
      (λ no. (
        i,
        u,
        set_else (set views id one) other i gone no ∙ set_else views id i one ne ∙ here,
        some_parts,
        split,
      )))

  pub guests_join : v.live ≡ true → IsSpent gone → GuestsAreKnown views
      → GuestsAreKnown (set (set views id one) other gone)
  guests_join live spent known j u here empty = ⊎_elim
      (λ (t : (j ≡ other) × (gone ≡ u)). inl (subst IsSpent t.1 spent))
      (λ (t : (j ≢ other) × (get_elem? (set views id one) j ≡ some u)). ⊎_elim
      (λ (s : (j ≡ id) × (one ≡ u)).
      let none : v.parts + w.parts ≡ 0 = ap (λ (x : View). x.parts) s.1 ∙ empty in ⊎_elim
      (λ (s : IsSpent v). absurd (true≢false (sym live ∙ s.spent)))
      (λ guests. inr (has_guests_join guests))
      (known id v at (omega (arith, none))))
      (λ (s : (j ≢ id) × (get_elem? views j ≡ some u)). ⊎_elim (λ s. inl s)
      (λ guests. inr (has_guests_join guests)) (known j u s.1 empty))
      (at_set views id j one u t.1))
      (at_set (set views id one) other j gone u here)

  pub total_join : gone.parts ≡ 0
      → parts_of (set (set views id one) other gone) ≡ parts_of views
  total_join none =
      let first : parts_of (set views id one) + v.parts ≡ parts_of views + (v.parts + w.parts) =
      total_set (λ (x : View). x.parts) views id v one at in
      let second : parts_of (set (set views id one) other gone) + w.parts
      ≡ parts_of (set views id one) + gone.parts =
      total_set (λ (x : View). x.parts) (set views id one) other w gone there_yet in
      omega (arith, first, second, none)

-- a pass that stands for all knows of each entry
pub all_known : (opening : Opening) (views : List View) (history : List (List ℕ)) (id : ℕ)
    (v : View) → get_elem? views id ≡ some v → v.opening ≡ opening → parts_of views ≡ opening.passes
    → Covers opening views history → GuestsAreKnown views → HasAll v
    → Accounts v.opening v.own v.raised history
all_known opening views history id v at is whole covers known all p e there =
    ⊎_elim (λ old. inl (subst (λ (o : Opening). IsOld o p e) (sym is) old)) made (covers p e there)
  where
    every : v.parts ≡ parts_of views
    every = all.whole ∙ ap (λ (o : Opening). o.passes) is ∙ sym whole

    alone : HasGuests views → ⊥
    alone (i, u, here, some_parts, split) = dite (ℕ_discrete i id)
        (λ same. true≢false (sym split
        ∙ ap (λ (x : View). x.has_split) (same_view views i id u v here at same) ∙ all.alone))
        (λ ne. let none = others_none views id i v u at here ne every in
        absurd (omega (arith, none, some_parts)))

    made : IsMade views p e → IsOld v.opening p e ⊎ IsMadeBy v.own v.raised p e
    made (i, u, here, by) = dite (ℕ_discrete i id)
        (λ same. inr (subst (λ (x : View). IsMadeBy x.own x.raised p e)
        (same_view views i id u v here at same) by))
        (λ ne. ⊎_elim (λ (s : IsSpent u).
        absurd (made_none u.own u.raised p e s.none_own s.none_raised by))
        (λ guests. absurd (alone guests))
        (known i u here (others_none views id i v u at here ne every)))
