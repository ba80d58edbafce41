-- What is written of a node that can be written can be written: forms made of other forms, lists,
-- references and scalars.
use Rattle.std.proofs.Common.{◌≡◌, ℕ, zero, suc, ◌≤◌, ◌<◌, Bool, true, false, List, [], ◌∷◌, ◌++◌}
use Rattle.std.proofs.Common.{Result, Ok, Err, cond, IsUtf8, refl, sym, ap, ◌∙◌, subst, arith}
use Rattle.std.specs.Prelude.{◌&&◌, ◌||◌, not, length, slice_index, ◌==◌}
use Rattle.std.specs.List.{AllByRecursion, list_all}
use Rattle.std.proofs.lemmas.Bool.{agree_below, agree_below_at}
use Rattle.std.proofs.lemmas.Bool.Decides.{nat_tests}
use Rattle.std.proofs.lemmas.Str.{IsUtf8-from_ascii}
use Rattle.yaml_terms.specs.Tree.{Tree, mapping, sequence, scalar, Trees, no_trees, item}
use Rattle.yaml_terms.specs.Spelling.{Spelling, word, quoted, spelled, items_spelled}
use Rattle.yaml_terms.specs.Block.{is_blank_byte}
use Rattle.yaml_terms.specs.Line.{is_control, has_control, is_plain_start, plain_len}
use Rattle.yaml_terms.specs.Profile.{max_depth}
use Rattle.yaml_terms.specs.SpellingFits.{SpellingFits, FitItems, is_plain, is_quotable}
use Rattle.yaml_writing.proofs.StandingBytes.{quotable}
use Rattle.object_terms.specs.declared.object.Object.{Object}
use Rattle.object_terms.specs.declared.fault.Rule.{Rule}
use Rattle.object_terms.specs.declared.fault.Rule.TheVariants as rules
use Rattle.object_terms.specs.Form.{Key, Answer, refused, Form, variant, scalar_form, count}
use Rattle.object_terms.specs.Form.{with_item, each, list_with, written_items, single, free}
use Rattle.object_terms.specs.Form.{free_map}
use Rattle.object_terms.specs.Scalars.{name_value, is_object_name, is_name_byte}
use Rattle.object_laws.proofs.LawFields.{and_both, and_left, and_right, not_false}
use Rattle.object_terms.proofs.AnswerLemmas.{ok_same, err_not_ok}
use Rattle.object_laws.proofs.LawFieldTables.{all_joined}
use Rattle.object_laws.proofs.LawLines.{mapped_ok, refused_not_ok}
use Rattle.object_laws.proofs.LawForms.{told_ok}
use Rattle.object_laws.proofs.LawScalars.{rule_not_ok}
use Rattle.object_laws.proofs.LawFits.{is_low, low_utf8, FormFit, EitherFit, Within}

-- VARIANTS AND FREE PARTS

pub variant_fit : {A B : Type 0} (Q : Object → Type 0) (room : ℕ) (f : Form A) (made : A → B)
    (write : B → Spelling) → ((a : A) → write (made a) ≡ f.write a) → FormFit Q room f
    → FormFit Q room (variant f made write)
variant_fit Q room f made write same fit key t y e d h m ft =
    let o = mapped_ok made (f.read key t) y e in
    let r = fit key t o.first o.is_first d h m ft in (
      subst (λ z. SpellingFits d (write z))
          (sym (ap (λ z. z.1) o.value)) (subst (SpellingFits d) (sym (same o.first.1)) r.0),
      subst (AllByRecursion Q) (sym (ap (λ z. z.0) o.value)) r.1,
    )

-- a variant that is written under one of two keys, both times in the same way
pub chosen_fit : {A B : Type 0} (Q : Object → Type 0) (room : ℕ) (h : Form A)
    (made : A → B) (f g : Form B) (is_first : B → Bool) → ((a : A) → f.write (made a) ≡ h.write a)
    → ((a : A) → g.write (made a) ≡ h.write a) → FormFit Q room h
    → (write : B → Spelling) → EitherFit Q room (variant h made write) f g is_first
chosen_fit Q room h made f g is_first same also fit write key t y e d r m ft =
    let o = mapped_ok made (h.read key t) y e in
    let k = fit key t o.first o.is_first d r m ft in
    let v = sym (ap (λ z. z.1) o.value) in (
      λ _. subst (λ z. SpellingFits d (f.write z)) v
          (subst (SpellingFits d) (sym (same o.first.1)) k.0),
      λ _. subst (λ z. SpellingFits d (g.write z)) v
          (subst (SpellingFits d) (sym (also o.first.1)) k.0),
      subst (AllByRecursion Q) (sym (ap (λ z. z.0) o.value)) k.1,
    )

pub free_fit : (Q : Object → Type 0) (room : ℕ) → FormFit Q room free
free_fit Q room key t y e d h m ft = let v = ok_same ([], t) y e in (
  subst (λ z. SpellingFits d (spelled z)) (ap (λ z. z.1) v) ft,
  subst (AllByRecursion Q) (ap (λ z. z.0) v) tt,
)

pub free_map_fit : (Q : Object → Type 0) (room : ℕ) → FormFit Q room free_map
free_map_fit Q room key (mapping es) y e d h m ft = let v = ok_same ([], mapping es) y e in (
  subst (λ z. SpellingFits d (spelled z)) (ap (λ z. z.1) v) ft,
  subst (AllByRecursion Q) (ap (λ z. z.0) v) tt,
)
free_map_fit Q room key (sequence ts) y e d h m ft = refused_not_ok key rules.NotMap y e
free_map_fit Q room key (scalar bytes plain) y e d h m ft = refused_not_ok key rules.NotMap y e

-- LISTS

abbrev pub ItemFit : (Q : Object → Type 0) → ℕ → {A : Type 0} → (Key → List A → Tree → Answer A)
    → (A → Spelling) → Type 0
ItemFit Q room {A} read write = (key : Key) (before : List A) (t : Tree) (y : List Object × A)
    → read key before t ≡ Ok y → (d : ℕ) → room ≤ d → d ≤ max_depth → SpellingFits d (spelled t)
    → SpellingFits d (write y.1) × AllByRecursion Q y.0

items_more : {A : Type 0} (d : ℕ) (write : A → Spelling) (before : List A) (a : A)
    → FitItems d (written_items write before) → SpellingFits d (write a)
    → FitItems d (written_items write (before ++ a ∷ []))
items_more d write [] a f g = (g, tt)
items_more d write (b ∷ before) a f g = (f.0, items_more d write before a f.1 g)

each_fit : {A : Type 0} (Q : Object → Type 0) (room : ℕ)
    (read : Key → List A → Tree → Answer A) (write : A → Spelling) → ItemFit Q room read write
    → (key : Key) (objects : List Object) (before : List A) (ts : Trees) (y : List Object × List A)
    → each (read key) objects before ts ≡ Ok y → (d : ℕ) → room ≤ d
    → d ≤ max_depth → FitItems d (items_spelled ts) → FitItems d (written_items write before)
    → AllByRecursion Q objects → FitItems d (written_items write y.1) × AllByRecursion Q y.0
each_fit Q room read write fit key objects before no_trees y e d h m ft fb q =
    let v = ok_same (objects, before) y e in (
      subst (λ z. FitItems d (written_items write z)) (ap (λ z. z.1) v) fb,
      subst (AllByRecursion Q) (ap (λ z. z.0) v) q,
    )
each_fit {A} Q room read write fit key objects before (item t ts) y e d h m ft fb q =
    by (read key before t) refl e (λ p g i. each_fit Q room read write fit key (objects ++ p.0)
    (before ++ p.1 ∷ []) ts y g d h m ft.1 i)
  where
    by : (r : Answer A) → read key before t ≡ r
        → with_item objects before r (λ os vs. each (read key) os vs ts) ≡ Ok y
        → ((p : List Object × A) → each (read key) (objects ++ p.0) (before ++ p.1 ∷ []) ts ≡ Ok y
        → FitItems d (written_items write (before ++ p.1 ∷ [])) → AllByRecursion Q
        (objects ++ p.0) → FitItems d (written_items write y.1) × AllByRecursion Q y.0)
        → FitItems d (written_items write y.1) × AllByRecursion Q y.0
    by (Err x) g i next = absurd (err_not_ok x y i)
    by (Ok p) g i next = let r = fit key before t p g d h m ft.0 in
        next p i (items_more d write before p.1 fb r.0) (all_joined Q objects p.0 q r.1)

pub list_fit : {A : Type 0} (Q : Object → Type 0) (outer inner : ℕ) (may_have : ℕ → Bool)
    (read : Key → List A → Tree → Answer A) (write : A → Spelling) → Within outer inner
    → ItemFit Q inner read write → FormFit Q outer (list_with may_have read write)
list_fit Q outer inner may_have read write w fit key (mapping es) y e d h m ft =
    refused_not_ok key rules.NotList y e
list_fit Q outer inner may_have read write w fit key (scalar bytes plain) y e d h m ft =
    refused_not_ok key rules.NotList y e
list_fit Q outer inner may_have read write w fit key (sequence ts) y e zero h m ft = absurd ft
list_fit {A} Q outer inner may_have read write w fit key (sequence ts) y e (suc d) h m ft =
    by (may_have (count ts)) e
  where
    by : (b : Bool) → cond b (each (read key) [] [] ts) (refused key rules.ListLength) ≡ Ok y
        → FitItems d (written_items write y.1) × AllByRecursion Q y.0
    by true g = each_fit Q inner read write fit key [] [] ts y g d (w d h)
        (let k = m in omega arith) ft tt tt
    by false g = refused_not_ok key rules.ListLength y g

pub single_fit : {A : Type 0} (Q : Object → Type 0) (outer inner : ℕ) (f : Form A)
    → Within outer inner → FormFit Q inner f → FormFit Q outer (single f)
single_fit Q outer inner f w fit key (mapping es) y e d h m ft =
    refused_not_ok key rules.NotList y e
single_fit Q outer inner f w fit key (scalar bytes plain) y e d h m ft =
    refused_not_ok key rules.NotList y e
single_fit Q outer inner f w fit key (sequence no_trees) y e d h m ft =
    refused_not_ok key rules.ListLength y e
single_fit Q outer inner f w fit key (sequence (item t no_trees)) y e zero h m ft = absurd ft
single_fit Q outer inner f w fit key (sequence (item t no_trees)) y e (suc d) h m ft = let r =
    fit key t y e d (w d h) (let k = m in omega arith) ft.0 in ((r.0, tt), r.1)
single_fit Q outer inner f w fit key (sequence (item t (item u ts))) y e d h m ft =
    refused_not_ok key rules.ListLength y e

-- SCALARS

-- What a value is written as can be written, where the text that it was read of can
-- stand in quotes.
abbrev pub ScalarFit : {A : Type 0} → (List ℕ → Result A Rule) → (A → Spelling) → Type 0
ScalarFit {A} parse write = (bytes : List ℕ) (a : A) → parse bytes ≡ Ok a → IsUtf8 bytes
    → is_quotable bytes ≡ true → (d : ℕ) → SpellingFits d (write a)

last_of_five : (a b c d e : Bool) → (a && (b && (c && (d && e)))) ≡ true → e ≡ true
last_of_five a b c d e h = and_right d e
    (and_right c (d && e) (and_right b (c && (d && e)) (and_right a (b && (c && (d && e))) h)))

plain_quotable : (bytes : List ℕ) → is_plain bytes ≡ true → is_quotable bytes ≡ true
plain_quotable [] e = refl
plain_quotable (c ∷ cs) e = quotable (c ∷ cs) (not_false (has_control (c ∷ cs)) (last_of_five
    (not (is_blank_byte c)) (is_plain_start c cs) (plain_len (c ∷ cs) == length (c ∷ cs))
    (not (is_blank_byte (slice_index (c ∷ cs) (length cs)))) (not (has_control (c ∷ cs))) e))

pub scalar_fit : {A : Type 0} (Q : Object → Type 0) (room : ℕ)
    (rule : Rule) (parse : List ℕ → Result A Rule) (write : A → Spelling) → ScalarFit parse write
    → FormFit Q room (scalar_form rule parse write)
scalar_fit Q room rule parse write fit key (mapping es) y e d h m ft = refused_not_ok key rule y e
scalar_fit Q room rule parse write fit key (sequence ts) y e d h m ft = refused_not_ok key rule y e
scalar_fit Q room rule parse write fit key (scalar bytes true) y e d h m ft = let o =
    told_ok key (parse bytes) y e in
    (fit bytes y.1 o.0 ft.0 (plain_quotable bytes ft.1) d, subst (AllByRecursion Q) (sym o.1) tt)
scalar_fit Q room rule parse write fit key (scalar bytes false) y e d h m ft =
    let o = told_ok key (parse bytes) y e in
    (fit bytes y.1 o.0 ft.0 ft.1 d, subst (AllByRecursion Q) (sym o.1) tt)

-- a text that is read as it stands
pub quoted_fit : (parse : List ℕ → Result (List ℕ) Rule) → ((t a : List ℕ) → parse t ≡ Ok a → t ≡ a)
    → ScalarFit parse quoted
quoted_fit parse same t a e u q d = subst (λ z. SpellingFits d (quoted z)) (same t a e) (u, q)

-- a word
pub word_fit : (w : List ℕ) (d : ℕ) → is_low w ≡ true → is_plain w ≡ true → SpellingFits d (word w)
word_fit w d e f = (low_utf8 w e, f)

-- NAMES

none_odd : agree_below (λ c. is_name_byte c && is_control c) (λ c. false) 123 ≡ true
none_odd = refl

name_low : (c : ℕ) → is_name_byte c ≡ true → c < 123
name_low c e = grind (arith, nat_tests)

name_bytes : (c : ℕ) → is_name_byte c ≡ true → is_control c ≡ false
name_bytes c e = by (is_control c) (ap (λ (b : Bool). b && is_control c) (sym e) ∙ agree_below_at
    (λ c. is_name_byte c && is_control c) (λ c. false) 123 c none_odd (name_low c e))
  where
    by : (b : Bool) → b ≡ false → b ≡ false
    by b f = f

name_quotable : (cs : List ℕ) → list_all is_name_byte cs ≡ true → is_quotable cs ≡ true
name_quotable [] e = refl
name_quotable (c ∷ cs) e = and_both (not (is_control c) || c == 10) (is_quotable cs) (ap
    (λ b. not b || c == 10) (name_bytes c (and_left (is_name_byte c) (list_all is_name_byte cs) e)))
    (name_quotable cs (and_right (is_name_byte c) (list_all is_name_byte cs) e))

name_ascii : (cs : List ℕ) → list_all is_name_byte cs ≡ true → (i : ℕ) → slice_index cs i < 128
name_ascii [] e i = omega arith
name_ascii (c ∷ cs) e zero = let low =
    name_low c (and_left (is_name_byte c) (list_all is_name_byte cs) e) in omega arith
name_ascii (c ∷ cs) e (suc i) =
    name_ascii cs (and_right (is_name_byte c) (list_all is_name_byte cs) e) i

name_all : (n : List ℕ) → name_value n ≡ Ok n → list_all is_name_byte n ≡ true
unfolding name_value
name_all n e = by (is_object_name n) refl e
  where
    by : (b : Bool) → is_object_name n ≡ b → cond b (Ok n) (Err rules.BadName) ≡ Ok n
        → list_all is_name_byte n ≡ true
    by true f g = and_right _ _ (and_left _ _ (and_left _ _ f))
    by false f g = rule_not_ok rules.BadName n g

pub name_fits : (n : List ℕ) → name_value n ≡ Ok n → (d : ℕ) → SpellingFits d (quoted n)
name_fits n e d = let a = name_all n e in (IsUtf8-from_ascii n (name_ascii n a), name_quotable n a)
