-- Passes that are joined one after another, the last one first.
use Rattle.std.proofs.Common.{◌≡◌, ℕ, zero, suc, ◌+◌, true, false, List, [], ◌∷◌, ◌++◌, refl, sym}
use Rattle.std.proofs.Common.{ap, ◌∙◌, subst, arith, append_assoc, true≢false}
use Rattle.std.specs.Prelude.{◌||◌, All, Bool}
use Rattle.std.proofs.lemmas.List.{append-nil}
use Rattle.turn_desk.specs.Histories.{Extends, Comparable}
use Rattle.turn_desk.specs.Passes.{PassState, longer_history, pass_of_both}
use Rattle.turn_desk.specs.Sources.{Accounts, AreAll, own_of, raised_of, total}
use Rattle.turn_desk.specs.declared.view.Doubt.{Doubt}
use Rattle.turn_desk.specs.declared.view.Opening.{Opening}
use Rattle.turn_desk.proofs.Histories.{extends_same, extends_trans, longer_from_left}
use Rattle.turn_desk.proofs.Histories.{longer_from_right}

-- a fact of each, one after another
abbrev pub Each : {P : Type 0} → (P → Type 0) → List P → Type 0
Each F [] = Unit {0}
Each F (x ∷ xs) = F x × Each F xs

each_of : {P : Type 0} (F : P → Type 0) (xs : List P) → All F xs → Each F xs
each_of F [] h = tt
each_of F (x ∷ xs) h =
    (h 0 x (omega arith), each_of F xs (λ k d lt. h (suc k) d (omega (arith, lt))))

all_of : {P : Type 0} (F : P → Type 0) (xs : List P) → Each F xs → All F xs
all_of F [] h k d lt = absurd (omega (arith, lt))
all_of F (x ∷ xs) h zero d lt = h.0
all_of F (x ∷ xs) h (suc k) d lt = all_of F xs h.1 k d (omega (arith, lt))

each_more : {P : Type 0} (F G : P → Type 0) (xs : List P) → ((p : P) → F p → G p)
    → Each F xs → Each G xs
each_more F G [] f h = h
each_more F G (x ∷ xs) f h = (f x h.0, each_more F G xs f h.1)

each_last : {P : Type 0} (F : P → Type 0) (xs : List P) (x : P) → Each F (xs ++ x ∷ []) → F x
each_last F [] x h = h.0
each_last F (y ∷ xs) x h = each_last F xs x h.1

each_front : {P : Type 0} (F : P → Type 0) (xs ys : List P) → Each F (xs ++ ys) → Each F xs
each_front F [] ys h = tt
each_front F (x ∷ xs) ys h = (h.0, each_front F xs ys h.1)

each_push : {P : Type 0} (F : P → Type 0) (xs : List P) (x : P) → Each F xs → F x
    → Each F (xs ++ x ∷ [])
each_push F [] x h f = (f, tt)
each_push F (y ∷ xs) x h f = (h.0, each_push F xs x h.1 f)

-- what was popped, and what is left
pub popped : {P : Type 0} (F : P → Type 0) (xs ys : List P) (x : P) → xs ≡ ys ++ x ∷ []
    → All F xs → F x
popped F xs ys x is h = each_last F ys x (each_of F (ys ++ x ∷ []) (subst (All F) is h))

pub all_pop : {P : Type 0} (F : P → Type 0) (xs ys : List P) (x : P) → xs ≡ ys ++ x ∷ []
    → All F xs → All F ys
all_pop F xs ys x is h =
    all_of F ys (each_front F ys (x ∷ []) (each_of F (ys ++ x ∷ []) (subst (All F) is h)))

pub all_push : {P : Type 0} (F : P → Type 0) (xs ys : List P) (x : P) → ys ≡ xs ++ x ∷ [] → All F xs
    → F x → All F ys
all_push F xs ys x is h f =
    subst (All F) (sym is) (all_of F (xs ++ x ∷ []) (each_push F xs x (each_of F xs h) f))

-- The passes behind the rest are one.
pub record Stands (all rest : List PassState) (one : PassState) : Type 0 where
  pub done : List PassState
  pub split : all ≡ rest ++ done
  pub root : Each (λ p. p.root ≡ one.root) done
  pub seen : Each (λ p. Extends p.seen one.seen) done
  pub own : one.own ≡ own_of done
  pub raised : one.raised ≡ raised_of done
  pub opening : (start : Opening) → Each (λ p. p.opening ≡ start) done → one.opening ≡ start
  pub parts : one.parts ≡ total (λ p. p.parts) done
  pub none_split : Each (λ p. p.has_split ≡ false) done → one.has_split ≡ false

pub begins : (all rest : List PassState) (last : PassState) → all ≡ rest ++ last ∷ []
    → Stands all rest last
begins all rest last is = record {
  done = last ∷ [];
  split = is;
  root = (refl, tt);
  seen = (extends_same last.seen, tt);
  own = sym (append-nil last.own);
  raised = sym (append-nil last.raised);
  opening = λ start same. same.0;
  parts = omega arith;
  none_split = λ none. none.0;
}

neither : (a b : Bool) → a ≡ false → b ≡ false → (a || b) ≡ false
neither true b first second = absurd (true≢false first)
neither false b first second = second

pub goes_on : (all rest : List PassState) (one : PassState) (before : List PassState)
    (next both : PassState) → Stands all rest one → rest ≡ before ++ next ∷ []
    → both ≡ pass_of_both next one → one.root ≡ next.root → Comparable next.seen one.seen
    → Stands all before both
goes_on all rest one before next both s is joins roots compare =
    let long : both.seen ≡ longer_history next.seen one.seen =
    ap (λ (p : PassState). p.seen) joins in
    let kept : next.root ≡ both.root = sym (ap (λ (p : PassState). p.root) joins) in
    record {
      done = next ∷ s.done;
      split = s.split ∙ ap (λ (l : List PassState). l ++ s.done) is
          ∙ append_assoc before (next ∷ []) s.done;
      root = (
        kept,
        each_more (λ p. p.root ≡ one.root) (λ p. p.root ≡ both.root) s.done
            (λ p e. e ∙ roots ∙ kept) s.root,
      );
      seen = (
        subst (Extends next.seen) (sym long) (longer_from_left next.seen one.seen compare),
        each_more (λ p. Extends p.seen one.seen) (λ p. Extends p.seen both.seen) s.done
            (λ p e. extends_trans p.seen one.seen both.seen e (subst (Extends one.seen) (sym long)
            (longer_from_right next.seen one.seen compare))) s.seen,
      );
      own = ap (λ (p : PassState). p.own) joins ∙ ap (λ (l : List ℕ). next.own ++ l) s.own;
      raised = ap (λ (p : PassState). p.raised) joins
          ∙ ap (λ (l : List Doubt). next.raised ++ l) s.raised;
      opening = λ start same. ap (λ (p : PassState). p.opening) joins ∙ same.0;
      parts = ap (λ (p : PassState). p.parts) joins ∙ ap (λ n. next.parts + n) s.parts;
      none_split = λ none. ap (λ (p : PassState). p.has_split) joins
          ∙ neither next.has_split one.has_split none.0 (s.none_split none.1);
    }

-- all of them are one
module _ (all rest : List PassState) (one : PassState) (s : Stands all rest one)
    (none : rest ≡ []) where
  whole : s.done ≡ all
  whole = sym (s.split ∙ ap (λ (l : List PassState). l ++ s.done) none)

  pub ends_root : All (λ p. p.root ≡ one.root) all
  ends_root =
      all_of (λ p. p.root ≡ one.root) all (subst (Each (λ p. p.root ≡ one.root)) whole s.root)

  pub ends_seen : All (λ p. Extends p.seen one.seen) all
  ends_seen = all_of (λ p. Extends p.seen one.seen) all
      (subst (Each (λ p. Extends p.seen one.seen)) whole s.seen)

  pub ends_own : one.own ≡ own_of all
  ends_own = s.own ∙ ap own_of whole

  pub ends_raised : one.raised ≡ raised_of all
  ends_raised = s.raised ∙ ap raised_of whole

  pub ends_all : (opening : Opening) → AreAll opening all
      → (one.opening ≡ opening) × (one.parts ≡ opening.passes) × (one.has_split ≡ false)
  ends_all opening are = (
    s.opening opening (subst (Each (λ p. p.opening ≡ opening)) (sym whole)
        (each_of (λ p. p.opening ≡ opening) all are.opened)),
    s.parts ∙ ap (total (λ (p : PassState). p.parts)) whole ∙ are.whole,
    s.none_split (subst (Each (λ p. p.has_split ≡ false)) (sym whole)
        (each_of (λ p. p.has_split ≡ false) all are.none_split)),
  )

pub extended : (all : List PassState) (one : PassState) (history : List (List ℕ))
    → All (λ p. Extends p.seen one.seen) all → Extends one.seen history
    → All (λ p. Extends p.seen history) all
extended all one history h e k d lt = extends_trans _ one.seen history (h k d lt) e

-- what one pass knows that stands for all, told of all of them
pub known : (all : List PassState) (opening : Opening) (one : PassState) (history : List (List ℕ))
    → (one.parts ≡ one.opening.passes → one.has_split ≡ false
    → Accounts one.opening one.own one.raised history)
    → (one.opening ≡ opening) × (one.parts ≡ opening.passes) × (one.has_split ≡ false)
    → one.own ≡ own_of all → one.raised ≡ raised_of all
    → Accounts opening (own_of all) (raised_of all) history
known all opening one history told is own raised =
    let whole : one.parts ≡ one.opening.passes =
    is.1 ∙ ap (λ (o : Opening). o.passes) (sym is.0) in
    subst (λ (ds : List Doubt). Accounts opening (own_of all) ds history) raised
    (subst (λ (ps : List ℕ). Accounts opening ps one.raised history) own
    (subst (λ (o : Opening). Accounts o one.own one.raised history) is.0 (told whole is.2)))
