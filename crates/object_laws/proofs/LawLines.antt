-- What was read is read again from what it is written as: each sort of line.
use Rattle.std.proofs.Common.{◌≡◌, Bool, true, false, List, [], ◌∷◌, Option, Some, None, Ok, Err}
use Rattle.std.proofs.Common.{cond, refl, sym, ap, ◌∙◌, subst}
use Rattle.std.specs.Str.{bytes_eq}
use Rattle.std.specs.List.{AllByRecursion}
use Rattle.yaml_terms.specs.Tree.{Tree, Entries, no_entries, entry}
use Rattle.yaml_terms.specs.Spelling.{Fields, meant, entries_meant}
use Rattle.object_terms.specs.declared.object.Object.{Object}
use Rattle.object_terms.specs.declared.fault.Rule.{Rule}
use Rattle.object_terms.specs.declared.fault.Rule.TheVariants.{Missing, Both}
use Rattle.object_terms.specs.Form.{Key, Answer, gives, refused, mapped, on_some, is_among}
use Rattle.object_terms.specs.Form.{field_of, Form, own_where, spelled_where, field_or, optional}
use Rattle.object_terms.specs.Form.{required, required_where, required_unless, barred_field}
use Rattle.object_laws.proofs.LawFields.{bytes_self, and_left, and_both, or_left, joined, lacks}
use Rattle.object_laws.proofs.LawFields.{within, lacks-joined, nothing_found, found, field_shown}
use Rattle.object_terms.proofs.AnswerLemmas.{ok_same, err_not_ok}
use Rattle.object_laws.proofs.LawFieldTables.{LineLaw, FormLaw}

-- what is known of a mapped reading that gave a value
pub record MappedOk (A B : Type 0) (f : A → B) (a : Answer A) (y : List Object × B) : Type 0 where
  pub first : List Object × A
  pub is_first : a ≡ Ok first
  pub value : y ≡ (first.0, f first.1)

pub mapped_ok : {A B : Type 0} (f : A → B) (a : Answer A) (y : List Object × B) → mapped f a ≡ Ok y
    → MappedOk A B f a y
mapped_ok f (Ok p) y e = record {
  first = p;
  is_first = refl;
  value = sym (ok_same (p.0, f p.1) y e);
}
mapped_ok f (Err x) y e = absurd (err_not_ok x y e)

-- ONE FIELD

-- what a field is written as, where it stands
abbrev pub field_piece : {A : Type 0} → Form A → Key → Option A → Entries
field_piece f key None = no_entries
field_piece f key (Some a) = entry key (meant (f.write a)) no_entries

abbrev pub field_written : {A : Type 0} → Form A → Key → Option A → Fields → Fields
field_written f key a behind = own_where key (spelled_where f a) behind

pub is_field_piece : {A : Type 0} (f : Form A) (key : Key) (a : Option A) (behind : Fields)
    → entries_meant (field_written f key a behind)
    ≡ joined (field_piece f key a) (entries_meant behind)
is_field_piece f key None behind = refl
is_field_piece f key (Some a) behind = refl

pub self_among : (key : Key) (ks : List Key) → is_among (key ∷ ks) key ≡ true
self_among key ks = or_left (bytes_eq key key) (is_among ks key) (bytes_self key)

pub field_within : {A : Type 0} (f : Form A) (key : Key) (ks : List Key) (a : Option A)
    → within (key ∷ ks) (field_piece f key a) ≡ true
field_within f key ks None = refl
field_within f key ks (Some a) = and_both (is_among (key ∷ ks) key) true (self_among key ks) refl

-- A line whose value is read of the field's value alone, where there is one, and is none where
-- there is none.
pub record OfField (A : Type 0) (key : Key) (f : Form A)
    (value : Option Tree → Answer (Option A)) : Type 0 where
  pub none : (y : List Object × Option A) → value None ≡ Ok y → y ≡ ([], None)
  pub some : (t : Tree) (y : List Object × Option A) → value (Some t) ≡ Ok y → (u : Tree)
      → value (Some u) ≡ mapped Some (f.read key u)

pub field_again : {A : Type 0} (P : Object → Type 0) (key : Key) (f : Form A)
    (value : Option Tree → Answer (Option A)) → FormLaw P f → OfField A key f value
    → (es : Entries) (y : List Object × Option A) → value (field_of key es) ≡ Ok y
    → (front tail : Entries) → lacks key front ≡ true → lacks key tail ≡ true
    → value (field_of key (joined front (joined (field_piece f key y.1) tail))) ≡ gives y.1
field_again {A} P key f value law of es y e front tail lf lt = by (field_of key es) refl e
  where
    there : (t : Tree) → field_of key es ≡ Some t
        → value (Some t) ≡ Ok y → MappedOk A (Option A) Some (f.read key t) y
        → value (field_of key (joined front (joined (field_piece f key y.1) tail))) ≡ gives y.1
    there t g h m =
        let back = law key t m.first (field_shown key es t g) m.is_first in
        let u = meant (f.write m.first.1) in
        subst (λ z. value (field_of key (joined front (joined (field_piece f key z) tail)))
        ≡ gives z) (sym (ap (λ z. z.1) m.value))
        (ap value (found key u front tail lf back.shown) ∙ of.some t y h u
        ∙ ap (mapped Some) (back.again key))

    by : (o : Option Tree) → field_of key es ≡ o → value o ≡ Ok y
        → value (field_of key (joined front (joined (field_piece f key y.1) tail))) ≡ gives y.1
    by None g h = let n = of.none y h in
        subst (λ z. value (field_of key (joined front (joined (field_piece f key z) tail)))
        ≡ gives z) (sym (ap (λ z. z.1) n))
        (ap value (nothing_found key (joined front tail) (lacks-joined key front tail lf lt))
        ∙ h ∙ ap Ok n)
    by (Some t) g h = there t g h (mapped_ok Some (f.read key t) y (sym (of.some t y h t) ∙ h))

pub field_taken : {A : Type 0} (P : Object → Type 0) (key : Key) (f : Form A)
    (value : Option Tree → Answer (Option A)) → FormLaw P f → OfField A key f value
    → (es : Entries) (y : List Object × Option A) → value (field_of key es) ≡ Ok y
    → AllByRecursion P y.0
field_taken {A} P key f value law of es y e = by (field_of key es) refl e
  where
    there : (t : Tree) → field_of key es ≡ Some t → MappedOk A (Option A) Some (f.read key t) y
        → AllByRecursion P y.0
    there t g m = subst (AllByRecursion P) (sym (ap (λ z. z.0) m.value))
        (law key t m.first (field_shown key es t g) m.is_first).taken

    by : (o : Option Tree) → field_of key es ≡ o → value o ≡ Ok y → AllByRecursion P y.0
    by None g h = subst (AllByRecursion P) (sym (ap (λ z. z.0) (of.none y h))) tt
    by (Some t) g h = there t g (mapped_ok Some (f.read key t) y (sym (of.some t y h t) ∙ h))

-- a line that reads one field in this way
abbrev pub field_law : {A : Type 0} (P : Object → Type 0) (key : Key) (f : Form A)
    (value : Option Tree → Answer (Option A)) → FormLaw P f → OfField A key f value
    → LineLaw P (Option A) (record {
      keys = key ∷ [];
      read = λ es. value (field_of key es);
      write = field_written f key;
    })
field_law P key f value law of = record {
  asks = λ _. key ∷ [];
  piece = field_piece f key;
  is_piece = is_field_piece f key;
  of_keys = field_within f key [];
  of_asks = field_within f key [];
  covers = λ b k e. e;
  again = λ es y e front tail lf lt. field_again P key f value law of es y e front tail
      (and_left (lacks key front) true lf) (and_left (lacks key tail) true lt);
  taken = field_taken P key f value law of;
}

pub none_given : {A : Type 0} (y : List Object × Option A)
    → (let r : Answer (Option A) = gives None in r) ≡ Ok y → y ≡ ([], None)
none_given y e = sym (ok_same ([], None) y e)

pub refused_not_ok : {A : Type 0} {Q : Type 0} (key : Key) (rule : Rule) (y : List Object × A)
    → (let r : Answer A = refused key rule in r) ≡ Ok y → Q
refused_not_ok key rule y e = absurd (err_not_ok (record { field = key; rule = rule }) y e)

abbrev pub optional_law : {A : Type 0} (P : Object → Type 0) (key : Key) (f : Form A) → FormLaw P f
    → LineLaw P (Option A) (optional key f)
optional_law P key f law = field_law P key f (λ o. field_or (gives None) f key o) law
    (record { none = none_given; some = λ t y e u. refl })

-- what a line reads where its field is, or isn't, required
pub required_where_of : {A : Type 0} (needed : Bool) (key : Key) (f : Form A)
    → OfField A key f (λ o. field_or (cond needed (refused key Missing) (gives None)) f key o)
required_where_of {A} needed key f = record { none = by needed; some = λ t y e u. refl }
  where
    by : (b : Bool) (y : List Object × Option A) → cond b (refused key Missing) (gives None) ≡ Ok y
        → y ≡ ([], None)
    by true y e = refused_not_ok key Missing y e
    by false y e = none_given y e

abbrev pub required_where_law : {A : Type 0} (P : Object → Type 0) (needed : Bool) (key : Key)
    (f : Form A) → FormLaw P f → LineLaw P (Option A) (required_where needed key f)
required_where_law P needed key f law = field_law P key f
    (λ o. field_or (cond needed (refused key Missing) (gives None)) f key o) law
    (required_where_of needed key f)

-- and where its field is required or barred
pub required_unless_of : {A : Type 0} (barred : Bool) (key : Key) (f : Form A) → OfField A key f
    (λ o. cond barred (barred_field key o) (field_or (refused key Missing) f key o))
required_unless_of {A} barred key f =
    record { none = no barred; some = λ t y e u. yes barred t y e u }
  where
    no : (b : Bool) (y : List Object × Option A)
        → cond b (barred_field key None) (field_or (refused key Missing) f key None) ≡ Ok y
        → y ≡ ([], None)
    no true y e = none_given y e
    no false y e = refused_not_ok key Missing y e

    yes : (b : Bool) (t : Tree) (y : List Object × Option A)
        → cond b (barred_field key (Some t)) (field_or (refused key Missing) f key (Some t)) ≡ Ok y
        → (u : Tree) → cond b (barred_field key (Some u))
        (field_or (refused key Missing) f key (Some u)) ≡ mapped Some (f.read key u)
    yes true t y e u = refused_not_ok key Both y e
    yes false t y e u = refl

abbrev pub required_unless_law : {A : Type 0} (P : Object → Type 0) (barred : Bool) (key : Key)
    (f : Form A) → FormLaw P f → LineLaw P (Option A) (required_unless barred key f)
required_unless_law P barred key f law = field_law P key f
    (λ o. cond barred (barred_field key o) (field_or (refused key Missing) f key o)) law
    (required_unless_of barred key f)

-- a field that must stand
abbrev pub required_law : {A : Type 0} (P : Object → Type 0) (key : Key) (f : Form A) → FormLaw P f
    → LineLaw P A (required key f)
required_law {A} P key f law = record {
  asks = λ _. key ∷ [];
  piece = λ a. field_piece f key (Some a);
  is_piece = λ a behind. refl;
  of_keys = λ a. field_within f key [] (Some a);
  of_asks = λ a. field_within f key [] (Some a);
  covers = λ b k e. e;
  again = λ es y e front tail lf lt.
      again es y (field_of key es) refl e front tail (and_left (lacks key front) true lf);
  taken = λ es y e. taken es y (field_of key es) refl e;
}
  where
    again : (es : Entries) (y : List Object × A) (o : Option Tree) → field_of key es ≡ o
        → on_some (refused key Missing) (f.read key) o ≡ Ok y → (front tail : Entries)
        → lacks key front ≡ true
        → on_some (refused key Missing) (f.read key)
        (field_of key (joined front (joined (field_piece f key (Some y.1)) tail))) ≡ gives y.1
    again es y None g e front tail lf = refused_not_ok key Missing y e
    again es y (Some t) g e front tail lf = let back = law key t y (field_shown key es t g) e in
        ap (on_some (refused key Missing) (f.read key))
        (found key (meant (f.write y.1)) front tail lf back.shown) ∙ back.again key

    taken : (es : Entries) (y : List Object × A) (o : Option Tree) → field_of key es ≡ o
        → on_some (refused key Missing) (f.read key) o ≡ Ok y → AllByRecursion P y.0
    taken es y None g e = refused_not_ok key Missing y e
    taken es y (Some t) g e = (law key t y (field_shown key es t g) e).taken
