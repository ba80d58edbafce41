-- What a change of one view leaves of the rule.
use Rattle.std.proofs.Common.{◌≡◌, ◌≢◌, ◌⊎◌, ⊎_elim, ℕ, zero, suc, ◌<◌, ◌≤◌, true, false}
use Rattle.std.proofs.Common.{true≢false, List, [], ◌∷◌, ◌++◌, set, refl, sym, ap, ◌∙◌, subst}
use Rattle.std.proofs.Common.{arith}
use mathlib.Core.Option.{some, some-injective, some-ne-none}
use lib.ListN.{get_elem?}
use Rattle.atomic_table.proofs.Lists.{at_set, at_snoc, at_longer, set_else}
use Rattle.turn_desk.specs.Histories.{Has}
use Rattle.turn_desk.specs.Rule.{One, Apart, Held}
use Rattle.turn_desk.specs.declared.view.View.{View}

pub set_there : {A : Type 0} (l : List A) (i : ℕ) (a b : A) → get_elem? l i ≡ some a
    → get_elem? (set l i b) i ≡ some b
set_there [] i a b e = absurd (some-ne-none a (sym e))
set_there (x ∷ xs) zero a b e = refl
set_there (x ∷ xs) (suc i) a b e = set_there xs i a b e

pub off : false ≡ true → ⊥
off e = true≢false (sym e)

module _ (views : List View) (id : ℕ) (v w : View) (at : get_elem? views id ≡ some v) where
  -- a fact of each view
  pub each_set : (F G : View → Type 0) → ((j : ℕ) (u : View) → get_elem? views j ≡ some u → F u)
      → ((j : ℕ) (u : View) → j ≢ id → get_elem? views j ≡ some u → F u → G u) → G w
      → (j : ℕ) (u : View) → get_elem? (set views id w) j ≡ some u → G u
  each_set F G old others mine j u e = ⊎_elim
      (λ (t : (j ≡ id) × (w ≡ u)). subst G t.1 mine)
      (λ (t : (j ≢ id) × (get_elem? views j ≡ some u)). others j u t.0 t.1 (old j u t.1))
      (at_set views id j w u e)

  pub held_set : w.live ≡ true → w.holds ≡ true → Held (set views id w)
  held_set live holds = (id, w, set_there views id v w at, live, holds)

  pub held_still : v.holds ≡ false → Held views → Held (set views id w)
  held_still idle h = (
    h.0,
    h.1,
    set_else views id h.0 w (λ is. true≢false (sym h.4 ∙ ap (λ (x : View). x.holds)
        (some-injective h.1 v (sym h.2 ∙ ap (λ (i : ℕ). get_elem? views i) is ∙ at)) ∙ idle))
        ∙ h.2,
    h.3,
    h.4,
  )

  pub one_set : One views → (w.holds ≡ true → (j : ℕ) (u : View) → j ≢ id
      → get_elem? views j ≡ some u → u.holds ≡ true → ⊥) → One (set views id w)
  one_set old alone i j a b ea eb ha hb = ⊎_elim
      (λ (s : (i ≡ id) × (w ≡ a)). ⊎_elim
      (λ (t : (j ≡ id) × (w ≡ b)). s.0 ∙ sym t.0)
      (λ (t : (j ≢ id) × (get_elem? views j ≡ some b)).
      absurd (alone (ap (λ (x : View). x.holds) s.1 ∙ ha) j b t.0 t.1 hb))
      (at_set views id j w b eb))
      (λ (s : (i ≢ id) × (get_elem? views i ≡ some a)). ⊎_elim
      (λ (t : (j ≡ id) × (w ≡ b)).
      absurd (alone (ap (λ (x : View). x.holds) t.1 ∙ hb) i a s.0 s.1 ha))
      (λ (t : (j ≢ id) × (get_elem? views j ≡ some b)). old i j a b s.1 t.1 ha hb)
      (at_set views id j w b eb))
      (at_set views id i w a ea)

  pub apart_set : Apart views → (n : ℕ)
      → ((j : ℕ) (u : View) → get_elem? views j ≡ some u → (p : ℕ) → Has u.own p → p < n)
      → ((p : ℕ) → Has w.own p → Has v.own p ⊎ (n ≤ p)) → Apart (set views id w)
  apart_set old n below more i j a b ne ea eb p ha hb = ⊎_elim
      (λ (s : (i ≡ id) × (w ≡ a)). ⊎_elim
      (λ (t : (j ≡ id) × (w ≡ b)). ne (s.0 ∙ sym t.0))
      (λ (t : (j ≢ id) × (get_elem? views j ≡ some b)).
      clash j b t.0 t.1 (subst (λ (x : View). Has x.own p) (sym s.1) ha) hb)
      (at_set views id j w b eb))
      (λ (s : (i ≢ id) × (get_elem? views i ≡ some a)). ⊎_elim
      (λ (t : (j ≡ id) × (w ≡ b)).
      clash i a s.0 s.1 (subst (λ (x : View). Has x.own p) (sym t.1) hb) ha)
      (λ (t : (j ≢ id) × (get_elem? views j ≡ some b)). old i j a b ne s.1 t.1 p ha hb)
      (at_set views id j w b eb))
      (at_set views id i w a ea)
    where
      clash : (k : ℕ) (u : View) → k ≢ id → get_elem? views k ≡ some u → Has w.own p
          → Has u.own p → ⊥
      clash k u apart there mine theirs = ⊎_elim
          (λ (had : Has v.own p). old id k v u (λ e. apart (sym e)) at there p had theirs)
          (λ (new : n ≤ p). let low = below k u there p theirs in absurd (omega arith))
          (more p mine)

pub held_push : (views : List View) (w : View) → Held views → Held (views ++ w ∷ [])
held_push views w h = (h.0, h.1, at_longer views (w ∷ []) h.0 h.1 h.2, h.3, h.4)

-- a view behind all others that holds nothing and made nothing
module _ (views : List View) (w : View) (holds : w.holds ≡ false) (made : w.own ≡ []) where
  pub each_push : (F : View → Type 0) → ((j : ℕ) (u : View) → get_elem? views j ≡ some u → F u)
      → F w → (j : ℕ) (u : View) → get_elem? (views ++ w ∷ []) j ≡ some u → F u
  each_push F old new j u e =
      ⊎_elim (λ was. old j u was) (λ (same : w ≡ u). subst F same new) (at_snoc views w u j e)

  idle : (u : View) → w ≡ u → u.holds ≡ true → ⊥
  idle u same h = true≢false (sym h ∙ sym (ap (λ (x : View). x.holds) same) ∙ holds)

  empty : (u : View) → w ≡ u → (p : ℕ) → Has u.own p → ⊥
  empty u same p h = subst (λ (l : List ℕ). Has l p) (sym (ap (λ (x : View). x.own) same) ∙ made) h

  pub one_push : One views → One (views ++ w ∷ [])
  one_push old i j a b ea eb ha hb = ⊎_elim
      (λ wa. ⊎_elim (λ wb. old i j a b wa wb ha hb) (λ same. absurd (idle b same hb))
      (at_snoc views w b j eb))
      (λ same. absurd (idle a same ha))
      (at_snoc views w a i ea)

  pub apart_push : Apart views → Apart (views ++ w ∷ [])
  apart_push old i j a b ne ea eb p ha hb = ⊎_elim
      (λ wa. ⊎_elim (λ wb. old i j a b ne wa wb p ha hb) (λ same. empty b same p hb)
      (at_snoc views w b j eb))
      (λ same. empty a same p ha)
      (at_snoc views w a i ea)

-- two views become one, and the second is spent
module _ (views : List View) (id other : ℕ) (v w both gone : View)
    (at : get_elem? views id ≡ some v) (there : get_elem? views other ≡ some w) (two : other ≢ id)
    (made : gone.own ≡ [])
    (from : (p : ℕ) → Has both.own p → Has v.own p ⊎ Has w.own p) where
  nothing : (u : View) → gone ≡ u → (p : ℕ) → Has u.own p → ⊥
  nothing u same p h =
      subst (λ (l : List ℕ). Has l p) (sym (ap (λ (x : View). x.own) same) ∙ made) h

  meets : Apart views → (k : ℕ) (u : View) → k ≢ id → k ≢ other → get_elem? views k ≡ some u
      → (p : ℕ) → Has both.own p → Has u.own p → ⊥
  meets old k u n m here p mine theirs = ⊎_elim
      (λ (a : Has v.own p). old id k v u (λ e. n (sym e)) at here p a theirs)
      (λ (b : Has w.own p). old other k w u (λ e. m (sym e)) there here p b theirs)
      (from p mine)

  once : Apart views → (i j : ℕ) (a b : View) → i ≢ j → i ≢ other → j ≢ other
      → get_elem? (set views id both) i ≡ some a → get_elem? (set views id both) j ≡ some b
      → (p : ℕ) → Has a.own p → Has b.own p → ⊥
  once old i j a b ne io jo ea eb p ha hb = ⊎_elim
      (λ (s : (i ≡ id) × (both ≡ a)). ⊎_elim
      (λ (t : (j ≡ id) × (both ≡ b)). ne (s.0 ∙ sym t.0))
      (λ (t : (j ≢ id) × (get_elem? views j ≡ some b)).
      meets old j b t.0 jo t.1 p (subst (λ (x : View). Has x.own p) (sym s.1) ha) hb)
      (at_set views id j both b eb))
      (λ (s : (i ≢ id) × (get_elem? views i ≡ some a)). ⊎_elim
      (λ (t : (j ≡ id) × (both ≡ b)).
      meets old i a s.0 io s.1 p (subst (λ (x : View). Has x.own p) (sym t.1) hb) ha)
      (λ (t : (j ≢ id) × (get_elem? views j ≡ some b)). old i j a b ne s.1 t.1 p ha hb)
      (at_set views id j both b eb))
      (at_set views id i both a ea)

  pub held_join : Held views → v.holds ≡ false → w.holds ≡ false
      → Held (set (set views id both) other gone)
  held_join h idle other_idle = (
    h.0,
    h.1,
    set_else (set views id both) other h.0 gone (holder_is_not other w there other_idle)
        ∙ set_else views id h.0 both (holder_is_not id v at idle) ∙ h.2,
    h.3,
    h.4,
  )
    where
      holder_is_not : (k : ℕ) (u : View) → get_elem? views k ≡ some u → u.holds ≡ false → h.0 ≢ k
      holder_is_not k u here not is = true≢false (sym h.4 ∙ ap (λ (x : View). x.holds)
          (some-injective h.1 u (sym h.2 ∙ ap (λ (i : ℕ). get_elem? views i) is ∙ here)) ∙ not)

  pub apart_join : Apart views → Apart (set (set views id both) other gone)
  apart_join old i j a b ne ea eb p ha hb = ⊎_elim
      (λ (s : (i ≡ other) × (gone ≡ a)). nothing a s.1 p ha)
      (λ (s : (i ≢ other) × (get_elem? (set views id both) i ≡ some a)). ⊎_elim
      (λ (t : (j ≡ other) × (gone ≡ b)). nothing b t.1 p hb)
      (λ (t : (j ≢ other) × (get_elem? (set views id both) j ≡ some b)).
      once old i j a b ne s.0 t.0 s.1 t.1 p ha hb)
      (at_set (set views id both) other j gone b eb))
      (at_set (set views id both) other i gone a ea)
