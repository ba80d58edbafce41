-- What was read is read again from what it is written as: forms made of other forms, lists, free
-- parts and scalars.
use Rattle.std.proofs.Common.{◌≡◌, ℕ, ◌+◌, Bool, true, false, List, [], ◌∷◌, ◌++◌, Result, Ok, Err}
use Rattle.std.proofs.Common.{cond, refl, sym, ap, ◌∙◌, subst, append_assoc, append-nil}
use Rattle.std.specs.List.{AllByRecursion}
use Rattle.std.proofs.lemmas.Bool.{true≢false}
use Rattle.yaml_terms.specs.Tree.{Tree, mapping, sequence, scalar, Entries, no_entries, entry}
use Rattle.yaml_terms.specs.Tree.{Trees, no_trees, item}
use Rattle.yaml_terms.specs.Spelling.{Spelling, items, meant, entries_meant, items_meant, spelled}
use Rattle.yaml_terms.specs.Spelling.{fields_spelled, items_spelled}
use Rattle.object_terms.specs.declared.object.Object.{Object}
use Rattle.object_terms.specs.declared.fault.Rule.{Rule}
use Rattle.object_terms.specs.declared.fault.Rule.TheVariants.{NotList, NotMap, ListLength}
use Rattle.object_terms.specs.Form.{Key, Answer, gives, refused, mapped, is_null, Form, FieldTable}
use Rattle.object_terms.specs.Form.{map_with, told, scalar_read, scalar_form, variant, count}
use Rattle.object_terms.specs.Form.{with_item, each, list_read, written_items, list_with, single}
use Rattle.object_terms.specs.Form.{free, free_map, free_map_read}
use Rattle.object_terms.proofs.AnswerLemmas.{ok_same, err_not_ok}
use Rattle.object_laws.proofs.LawFieldTables.{all_joined, Back, FormLaw, TableLaw, map_law}
use Rattle.object_laws.proofs.LawChoices.{EitherLaw}
use Rattle.object_laws.proofs.LawLines.{MappedOk, mapped_ok, refused_not_ok}

-- a form that reads no null
abbrev pub StrongLaw : (P : Object → Type 0) → {A : Type 0} → Form A → Type 0
StrongLaw P {A} f = (key : Key) (t : Tree) (y : List Object × A) → f.read key t ≡ Ok y
    → Back P A f t y

-- a map that is told by a table
pub map_strong : {A : Type 0} (P : Object → Type 0) (table : FieldTable A) → TableLaw P [] table
    → StrongLaw P (map_with table)
map_strong P table law key (mapping es) y e = map_law P table law key (mapping es) y refl e
map_strong P table law key (sequence ts) y e = refused_not_ok key NotMap y e
map_strong P table law key (scalar text plain) y e = refused_not_ok key NotMap y e

-- VARIANTS

pub variant_law : {A B : Type 0} (P : Object → Type 0) (f : Form A)
    (made : A → B) (write : B → Spelling) → ((a : A) → write (made a) ≡ f.write a) → FormLaw P f
    → FormLaw P (variant f made write)
variant_law {A} {B} P f made write same law key t y n e = by (mapped_ok made (f.read key t) y e)
  where
    by : MappedOk A B made (f.read key t) y → Back P B (variant f made write) t y
    by m = let back = law key t m.first n m.is_first in let a = m.first.1 in
        let v : y.1 ≡ made a = ap (λ z. z.1) m.value in record {
          again = λ k. subst (λ z. mapped made (f.read k (meant (write z))) ≡ gives z) (sym v)
              (ap (λ s. mapped made (f.read k (meant s))) (same a)
              ∙ ap (mapped made) (back.again k));
          shown = subst (λ z. is_null (meant (write z)) ≡ false) (sym v)
              (ap (λ s. is_null (meant s)) (same a) ∙ back.shown);
          taken = subst (AllByRecursion P) (sym (ap (λ z. z.0) m.value)) back.taken;
        }

-- a variant that is written under the first of two keys, and one that is written under the second
pub chosen_first : {A B : Type 0} (P : Object → Type 0)
    (h : Form A) (made : A → B) (write : B → Spelling) (g : Form B) (is_first : B → Bool)
    → ((a : A) → write (made a) ≡ h.write a) → ((a : A) → is_first (made a) ≡ true) → FormLaw P h
    → EitherLaw P (variant h made write) (variant h made write) g is_first
chosen_first P h made write g is_first same holds law key t y n e =
    let back = variant_law P h made write same law key t y n e in
    let m = mapped_ok made (h.read key t) y e in
    let chosen : is_first y.1 ≡ true = ap is_first (ap (λ z. z.1) m.value) ∙ holds m.first.1 in
    record {
      first = λ _. back;
      second = λ f. absurd (true≢false (sym chosen ∙ f));
      both_taken = back.taken;
    }

pub chosen_second : {A B : Type 0} (P : Object → Type 0)
    (h : Form A) (made : A → B) (write : B → Spelling) (f : Form B) (is_first : B → Bool)
    → ((a : A) → write (made a) ≡ h.write a) → ((a : A) → is_first (made a) ≡ false) → FormLaw P h
    → EitherLaw P (variant h made write) f (variant h made write) is_first
chosen_second P h made write f is_first same fails law key t y n e =
    let back = variant_law P h made write same law key t y n e in
    let m = mapped_ok made (h.read key t) y e in
    let chosen : is_first y.1 ≡ false = ap is_first (ap (λ z. z.1) m.value) ∙ fails m.first.1 in
    record {
      first = λ g. absurd (true≢false (sym g ∙ chosen));
      second = λ _. back;
      both_taken = back.taken;
    }

-- FREE PARTS

mutual
  pub again_meant : (x : Tree) → meant (spelled x) ≡ x
  again_meant (mapping es) = ap mapping (entries_again es)
  again_meant (sequence xs) = ap sequence (items_again xs)
  again_meant (scalar text true) = refl
  again_meant (scalar text false) = refl

  pub entries_again : (es : Entries) → entries_meant (fields_spelled es) ≡ es
  entries_again no_entries = refl
  entries_again (entry k x es) =
      ap (λ t. entry k t (entries_meant (fields_spelled es))) (again_meant x)
      ∙ ap (entry k x) (entries_again es)

  pub items_again : (xs : Trees) → items_meant (items_spelled xs) ≡ xs
  items_again no_trees = refl
  items_again (item x xs) = ap (λ t. item t (items_meant (items_spelled xs))) (again_meant x)
      ∙ ap (item x) (items_again xs)

pub free_law : (P : Object → Type 0) → FormLaw P free
free_law P key t y n e = let v : y ≡ ([], t) = sym (ok_same ([], t) y e) in record {
  again = λ k. ap gives (again_meant y.1);
  shown = ap is_null (again_meant y.1) ∙ ap is_null (ap (λ z. z.1) v) ∙ n;
  taken = subst (AllByRecursion P) (sym (ap (λ z. z.0) v)) tt;
}

pub free_map_law : (P : Object → Type 0) → FormLaw P free_map
free_map_law P key (mapping es) y n e = let v : y ≡ ([], mapping es) =
    sym (ok_same ([], mapping es) y e) in record {
      again =
          λ k. subst (λ z. free_map_read k (meant (spelled z)) ≡ gives z) (sym (ap (λ z. z.1) v))
          (ap gives (again_meant (mapping es)));
      shown = ap is_null (again_meant y.1) ∙ ap is_null (ap (λ z. z.1) v);
      taken = subst (AllByRecursion P) (sym (ap (λ z. z.0) v)) tt;
    }
free_map_law P key (sequence ts) y n e = refused_not_ok key NotMap y e
free_map_law P key (scalar text plain) y n e = refused_not_ok key NotMap y e

-- LISTS

-- what is read of an item is read again from what it is written as, behind the same values
pub record ItemBack (P : Object → Type 0) (A : Type 0) (read : Key → List A → Tree → Answer A)
    (write : A → Spelling) (before : List A) (t : Tree) (y : List Object × A) : Type 0 where
  pub again : (key : Key) → read key before (meant (write y.1)) ≡ gives y.1
  pub taken : AllByRecursion P y.0

abbrev pub ItemLaw : (P : Object → Type 0) → {A : Type 0} → (Key → List A → Tree → Answer A)
    → (A → Spelling) → Type 0
ItemLaw P {A} read write = (key : Key) (before : List A) (t : Tree) (y : List Object × A)
    → read key before t ≡ Ok y → ItemBack P A read write before t y

-- what is known of a list that was read
record ListBack (P : Object → Type 0) (A : Type 0) (read : Key → List A → Tree → Answer A)
    (write : A → Spelling) (objects : List Object) (before : List A) (ts : Trees)
    (y : List Object × List A) : Type 0 where
  more : List A
  values : y.1 ≡ before ++ more
  again : (key : Key) → each (read key) [] before (items_meant (written_items write more))
      ≡ gives (before ++ more)
  as_many : count (items_meant (written_items write more)) ≡ count ts
  taken : AllByRecursion P objects → AllByRecursion P y.0

each_back : {A : Type 0} (P : Object → Type 0)
    (read : Key → List A → Tree → Answer A) (write : A → Spelling) → ItemLaw P read write
    → (key : Key) (objects : List Object) (before : List A) (ts : Trees) (y : List Object × List A)
    → each (read key) objects before ts ≡ Ok y → ListBack P A read write objects before ts y
each_back P read write law key objects before no_trees y e = let v : y ≡ (objects, before) =
    sym (ok_same (objects, before) y e) in record {
      more = [];
      values = ap (λ z. z.1) v ∙ sym (append-nil before);
      again = λ k. ap gives (sym (append-nil before));
      as_many = refl;
      taken = λ h. subst (AllByRecursion P) (sym (ap (λ z. z.0) v)) h;
    }
each_back {A} P read write law key objects before (item t ts) y e = by (read key before t) refl e
    (λ p. each_back P read write law key (objects ++ p.0) (before ++ p.1 ∷ []) ts y)
  where
    by : (r : Answer A) → read key before t ≡ r
        → with_item objects before r (λ os vs. each (read key) os vs ts) ≡ Ok y
        → ((p : List Object × A) → each (read key) (objects ++ p.0) (before ++ p.1 ∷ []) ts ≡ Ok y
        → ListBack P A read write (objects ++ p.0) (before ++ p.1 ∷ []) ts y)
        → ListBack P A read write objects before (item t ts) y
    by (Err x) g h ih = absurd (err_not_ok x y h)
    by (Ok p) g h ih = let rest = ih p h in let back = law key before t p g in record {
      more = p.1 ∷ rest.more;
      values = rest.values ∙ append_assoc before (p.1 ∷ []) rest.more;
      again = λ k. ap (λ r. with_item [] before r (λ os vs.
          each (read k) os vs (items_meant (written_items write rest.more)))) (back.again k)
          ∙ rest.again k ∙ ap gives (append_assoc before (p.1 ∷ []) rest.more);
      as_many = ap (λ (n : ℕ). 1 + n) rest.as_many;
      taken = λ k. rest.taken (all_joined P objects p.0 k back.taken);
    }

pub list_law : {A : Type 0} (P : Object → Type 0) (may_have : ℕ → Bool)
    (read : Key → List A → Tree → Answer A) (write : A → Spelling) → ItemLaw P read write
    → StrongLaw P (list_with may_have read write)
list_law P may_have read write law key (mapping es) y e = refused_not_ok key NotList y e
list_law P may_have read write law key (scalar text plain) y e = refused_not_ok key NotList y e
list_law {A} P may_have read write law key (sequence ts) y e = by (may_have (count ts)) refl e
  where
    back : may_have (count ts) ≡ true → ListBack P A read write [] [] ts y
        → Back P (List A) (list_with may_have read write) (sequence ts) y
    back m h = record {
      again = λ k. subst (λ z. list_read may_have read k (meant (items (written_items write z)))
          ≡ gives z) (sym h.values)
          (ap (λ b. cond b (each (read k) [] [] (items_meant (written_items write h.more)))
          (refused k ListLength)) (ap may_have h.as_many ∙ m) ∙ h.again k);
      shown = refl;
      taken = h.taken tt;
    }

    by : (b : Bool) → may_have (count ts) ≡ b
        → cond b (each (read key) [] [] ts) (refused key ListLength) ≡ Ok y
        → Back P (List A) (list_with may_have read write) (sequence ts) y
    by true m g = back m (each_back P read write law key [] [] ts y g)
    by false m g = refused_not_ok key ListLength y g

pub single_law : {A : Type 0} (P : Object → Type 0) (f : Form A) → StrongLaw P f
    → StrongLaw P (single f)
single_law P f law key (mapping es) y e = refused_not_ok key NotList y e
single_law P f law key (scalar text plain) y e = refused_not_ok key NotList y e
single_law P f law key (sequence no_trees) y e = refused_not_ok key ListLength y e
single_law P f law key (sequence (item t no_trees)) y e = let back = law key t y e in
    record { again = back.again; shown = refl; taken = back.taken }
single_law P f law key (sequence (item t (item u ts))) y e = refused_not_ok key ListLength y e

-- SCALARS

-- a value that a text stood for is written as a text that stands for it
pub record Spelt (A : Type 0) (parse : List ℕ → Result A Rule) (write : A → Spelling)
    (a : A) : Type 0 where
  pub text : List ℕ
  pub plain : Bool
  pub is_written : meant (write a) ≡ scalar text plain
  pub stands : parse text ≡ Ok a
  pub shown : is_null (scalar text plain) ≡ false

pub told_ok : {A : Type 0} (key : Key) (r : Result A Rule) (y : List Object × A) → told key r ≡ Ok y
    → (r ≡ Ok y.1) × (y.0 ≡ [])
told_ok key (Ok a) y e = let v = ok_same ([], a) y e in (ap (λ z. Ok z.1) v, sym (ap (λ z. z.0) v))
told_ok key (Err rule) y e = refused_not_ok key rule y e

-- a value that was read in one way, and is written to be read in another
pub scalar_other : {A : Type 0} (P : Object → Type 0)
    (rule other : Rule) (parse parse_other : List ℕ → Result A Rule) (write : A → Spelling)
    → ((text : List ℕ) (a : A) → parse text ≡ Ok a → Spelt A parse_other write a)
    → (key : Key) (t : Tree) (y : List Object × A) → scalar_read rule parse key t ≡ Ok y
    → Back P A (scalar_form other parse_other write) t y
scalar_other P rule other parse parse_other write law key (mapping es) y e =
    refused_not_ok key rule y e
scalar_other P rule other parse parse_other write law key (sequence ts) y e =
    refused_not_ok key rule y e
scalar_other {A} P rule other parse parse_other write law key (scalar text plain) y e =
    by (told_ok key (parse text) y e)
  where
    by : (parse text ≡ Ok y.1) × (y.0 ≡ [])
        → Back P A (scalar_form other parse_other write) (scalar text plain) y
    by h = let s = law text y.1 h.0 in record {
      again = λ k. ap (scalar_read other parse_other k) s.is_written ∙ ap (told k) s.stands;
      shown = ap is_null s.is_written ∙ s.shown;
      taken = subst (AllByRecursion P) (sym h.1) tt;
    }

pub scalar_law : {A : Type 0} (P : Object → Type 0) (rule : Rule) (parse : List ℕ → Result A Rule)
    (write : A → Spelling) → ((text : List ℕ) (a : A) → parse text ≡ Ok a → Spelt A parse write a)
    → StrongLaw P (scalar_form rule parse write)
scalar_law P rule parse write law = scalar_other P rule rule parse parse write law
