-- What holds of each value that a line of a table gives, and of the items of a list.
use Rattle.std.proofs.Common.{◌≡◌, ℕ, ◌+◌, Bool, true, false, List, [], ◌∷◌, ◌++◌, Option, Some}
use Rattle.std.proofs.Common.{None, Ok, Err, cond, length, refl, ap, ◌∙◌, subst, arith}
use Rattle.std.specs.Prelude.{IfSome, IsSome, IsNone}
use Rattle.std.specs.List.{AllByRecursion}
use Rattle.yaml_terms.specs.Tree.{Tree, mapping, sequence, scalar, Entries, Trees, no_trees, item}
use Rattle.yaml_terms.specs.Spelling.{Spelling}
use Rattle.object_terms.specs.declared.Object.{Object}
use Rattle.object_terms.specs.declared.Rule.{Rule}
use Rattle.object_terms.specs.declared.Rule.TheVariants.{Missing, Both, NotList, ListLength}
use Rattle.object_terms.specs.Form.{Key, Answer, gives, refused, mapped, on_some, field_of, Form}
use Rattle.object_terms.specs.Form.{required, optional, required_where, required_unless}
use Rattle.object_terms.specs.Form.{barred_field, field_or, holding, count, each, with_item}
use Rattle.object_terms.specs.Form.{list_with, only_in, single}
use Rattle.object_terms.proofs.AnswerLemmas.{ok_same, err_not_ok}
use Rattle.object_laws.proofs.RangeReading.{refused_not_ok, Reads, mapped_gave}

pub required_gave : {A : Type 0} (Q : A → Type 0) (key : Key) (f : Form A) → Reads f Q
    → (es : Entries) (y : List Object × A) → (required key f).read es ≡ Ok y → Q y.1
required_gave {A} Q key f reads es y e = by (field_of key es) e
  where
    by : (o : Option Tree) → on_some (refused key Missing) (f.read key) o ≡ Ok y → Q y.1
    by None g = refused_not_ok key Missing y g
    by (Some t) g = reads key t y g

-- a field that is there, where there is one
field_gave : {A : Type 0} (Q : A → Type 0) (key : Key) (f : Form A)
    → Reads f Q → (t : Tree) (y : List Object × Option A) → mapped Some (f.read key t) ≡ Ok y
    → IfSome y.1 Q × IsSome y.1
field_gave Q key f reads t y e = mapped_gave Q (λ o. IfSome o Q × IsSome o) Some (λ a q. (q, refl))
    (f.read key t) (reads key t) y e

none_gave : {A : Type 0} (R : Option A → Type 0) (y : List Object × Option A)
    → (let r : Answer (Option A) = gives None in r) ≡ Ok y → R None → R y.1
none_gave R y e h = subst R (ap (λ z. z.1) (ok_same ([], None) y e)) h

pub optional_gave : {A : Type 0} (Q : A → Type 0) (key : Key) (f : Form A) → Reads f Q
    → (es : Entries) (y : List Object × Option A) → (optional key f).read es ≡ Ok y → IfSome y.1 Q
optional_gave {A} Q key f reads es y e = by (field_of key es) e
  where
    by : (o : Option Tree) → field_or (gives None) f key o ≡ Ok y → IfSome y.1 Q
    by None g = none_gave (λ o. IfSome o Q) y g tt
    by (Some t) g = (field_gave Q key f reads t y g).0

pub required_where_gave : {A : Type 0} (Q : A → Type 0) (needed : Bool) (key : Key) (f : Form A)
    → Reads f Q → (es : Entries) (y : List Object × Option A)
    → (required_where needed key f).read es ≡ Ok y
    → IfSome y.1 Q × (needed ≡ true → IsSome y.1)
required_where_gave {A} Q needed key f reads es y e = by (field_of key es) needed e
  where
    by : (o : Option Tree) (b : Bool) → field_or (cond b (refused key Missing) (gives None)) f key o
        ≡ Ok y → IfSome y.1 Q × (b ≡ true → IsSome y.1)
    by None true g = refused_not_ok key Missing y g
    by None false g = none_gave (λ o. IfSome o Q × (false ≡ true → IsSome o)) y g (
      tt,
      λ no. absurd (let f : ⊥ = cc in f),
    )
    by (Some t) b g = let h = field_gave Q key f reads t y g in (h.0, λ _. h.1)

pub required_unless_gave : {A : Type 0} (Q : A → Type 0) (barred : Bool) (key : Key) (f : Form A)
    → Reads f Q → (es : Entries) (y : List Object × Option A)
    → (required_unless barred key f).read es ≡ Ok y
    → (barred ≡ false → IsSome y.1) × (barred ≡ true → IsNone y.1)
required_unless_gave {A} Q barred key f reads es y e = by (field_of key es) barred e
  where
    by : (o : Option Tree) (b : Bool)
        → cond b (barred_field key o) (field_or (refused key Missing) f key o) ≡ Ok y
        → (b ≡ false → IsSome y.1) × (b ≡ true → IsNone y.1)
    by None true g = none_gave (λ o. (true ≡ false → IsSome o) × (true ≡ true → IsNone o)) y g
        (λ no. absurd (let f : ⊥ = cc in f), λ _. refl)
    by None false g = refused_not_ok key Missing y g
    by (Some t) true g = refused_not_ok key Both y g
    by (Some t) false g = (
      λ _. (field_gave Q key f reads t y g).1,
      λ no. absurd (let f : ⊥ = cc in f),
    )

pub holding_gave : (holds : Bool) (key : Key) (rule : Rule) (es : Entries)
    (y : List Object × Unit {0}) → (holding holds key rule).read es ≡ Ok y → holds ≡ true
holding_gave true key rule es y e = refl
holding_gave false key rule es y e = refused_not_ok key rule y e

-- LISTS

-- what holds of a list that was read
abbrev pub HasItems : {A : Type 0} → (A → Type 0) → (ℕ → Bool) → List A → Type 0
HasItems Q may_have list = AllByRecursion Q list × (may_have (length list) ≡ true)

all_with : {A : Type 0} (Q : A → Type 0) (xs : List A) (x : A) → AllByRecursion Q xs → Q x
    → AllByRecursion Q (xs ++ x ∷ [])
all_with Q [] x h q = (q, tt)
all_with Q (y ∷ ys) x h q = (h.0, all_with Q ys x h.1 q)

one_longer : {A : Type 0} (xs : List A) (x : A) → length (xs ++ x ∷ []) ≡ length xs + 1
one_longer [] x = refl
one_longer (y ∷ ys) x = let e = one_longer ys x in omega arith

each_gave : {A : Type 0} (Q : A → Type 0) (read : List A → Tree → Answer A)
    → ((before : List A) (t : Tree) (y : List Object × A) → read before t ≡ Ok y → Q y.1)
    → (objects : List Object) (values : List A) (ts : Trees) (y : List Object × List A)
    → AllByRecursion Q values → each read objects values ts ≡ Ok y
    → AllByRecursion Q y.1 × (length y.1 ≡ length values + count ts)
each_gave Q read reads objects values no_trees y all e =
    let same = ap (λ z. z.1) (ok_same (objects, values) y e) in
    subst (λ z. AllByRecursion Q z × (length z ≡ length values + 0)) same (
      all,
      let s : length values ≡ length values + 0 = omega arith in s,
    )
each_gave {A} Q read reads objects values (item t ts) y all e =
    by (read values t) refl e (λ os vs h g. each_gave Q read reads os vs ts y h g)
  where
    by : (a : Answer A) → read values t ≡ a
        → with_item objects values a (λ os vs. each read os vs ts) ≡ Ok y
        → ((os : List Object) (vs : List A) → AllByRecursion Q vs → each read os vs ts ≡ Ok y
        → AllByRecursion Q y.1 × (length y.1 ≡ length vs + count ts))
        → AllByRecursion Q y.1 × (length y.1 ≡ length values + (1 + count ts))
    by (Ok p) f g rest =
        let h = rest (objects ++ p.0) (values ++ p.1 ∷ [])
        (all_with Q values p.1 all (reads values t p f)) g in
        let long = one_longer values p.1 in
        let total = h.1 in
        (h.0, omega arith)
    by (Err x) f g rest = absurd (err_not_ok x y g)

pub list_reads : {A : Type 0} (Q : A → Type 0) (may_have : ℕ → Bool)
    (read : Key → List A → Tree → Answer A) (write : A → Spelling)
    → ((listed : Key) (before : List A) (t : Tree) (y : List Object × A) → read listed before t
    ≡ Ok y → Q y.1) → Reads (list_with may_have read write) (HasItems Q may_have)
list_reads {A} Q may_have read write reads key (sequence ts) y e = by (may_have (count ts)) refl e
  where
    by : (b : Bool) → may_have (count ts) ≡ b
        → cond b (each (read key) [] [] ts) (refused key ListLength) ≡ Ok y
        → HasItems Q may_have y.1
    by true f g = let h = each_gave Q (read key) (reads key) [] [] ts y tt g in
        let total = h.1 in
        let long : length y.1 ≡ count ts = omega arith in
        (h.0, ap may_have long ∙ f)
    by false f g = refused_not_ok key ListLength y g
list_reads Q may_have read write reads key (mapping es) y e = refused_not_ok key NotList y e
list_reads Q may_have read write reads key (scalar text plain) y e = refused_not_ok key NotList y e

pub single_reads : {A : Type 0} (Q : A → Type 0) (f : Form A) → Reads f Q → Reads (single f) Q
single_reads {A} Q f reads key (sequence ts) y e = by (only_in ts) e
  where
    by : (o : Option Tree) → on_some (refused key ListLength) (f.read key) o ≡ Ok y → Q y.1
    by None g = refused_not_ok key ListLength y g
    by (Some t) g = reads key t y g
single_reads Q f reads key (mapping es) y e = refused_not_ok key NotList y e
single_reads Q f reads key (scalar text plain) y e = refused_not_ok key NotList y e
