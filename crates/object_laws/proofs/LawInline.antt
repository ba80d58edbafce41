-- What was read is read again from what it is written as: references, objects that stood inline,
-- policies and objectives.
use Rattle.std.proofs.Common.{◌≡◌, ℕ, Bool, true, false, List, [], ◌∷◌, ◌++◌, Option, Some, None}
use Rattle.std.proofs.Common.{Ok, Err, cond, refl, sym, ap, ◌∙◌, subst}
use Rattle.std.specs.Prelude.{◌&&◌, ◌||◌, is_none}
use Rattle.std.specs.Str.{bytes_eq}
use Rattle.std.specs.List.{AllByRecursion}
use Rattle.yaml_terms.specs.Tree.{Tree, mapping, sequence, scalar, Entries, no_entries, entry}
use Rattle.object_terms.specs.declared.object.Object.{Object}
use Rattle.object_terms.specs.declared.object.Body.{Body}
use Rattle.object_terms.specs.declared.metadata.Metadata.{Metadata}
use Rattle.object_terms.specs.declared.kind.Kind.{Kind}
use Rattle.object_terms.specs.declared.fault.Rule.TheVariants as rules
use Rattle.object_terms.specs.Form.{Key, Answer, gives, refused, on_some, is_null, field_of, shown}
use Rattle.object_terms.specs.Form.{told, Form, answer_by, required, optional, map_with}
use Rattle.object_terms.specs.Metadata.{metadata, object_with}
use Rattle.object_terms.specs.Scalars.{name, name_value, version, only_kind}
use Rattle.object_terms.specs.Inline.{inline_object, taken_out, inline_read, reference}
use Rattle.object_terms.specs.Inline.{reference_written, item_read, reference_item}
use Rattle.object_laws.proofs.LawFields.{bytes_self, field_shown, or_left}
use Rattle.object_terms.proofs.AnswerLemmas.{ok_same, err_not_ok}
use Rattle.object_laws.proofs.LawFieldTables.{all_joined, then_gives, given, FormLaw, map_law}
use Rattle.object_laws.proofs.LawLines.{refused_not_ok, optional_law}
use Rattle.object_laws.proofs.LawForms.{ItemLaw, told_ok}
use Rattle.object_laws.proofs.LawScalars.{name_same, version_law, only_kind_law}
use Rattle.object_laws.proofs.LawTables.{loose, metadata_law}
use Rattle.object_terms.specs.declared.keys.TheConstants.{NAME, API_VERSION, KIND, METADATA, SPEC}

-- NAMES

-- what is known of a name that was read
pub record NameOk (y : List Object × List ℕ) : Type 0 where
  pub is_name : name_value y.1 ≡ Ok y.1
  pub alone : y.0 ≡ []

pub name_ok : (key : Key) (t : Tree) (y : List Object × List ℕ) → name.read key t ≡ Ok y → NameOk y
name_ok key (mapping es) y e = refused_not_ok key rules.BadName y e
name_ok key (sequence ts) y e = refused_not_ok key rules.BadName y e
name_ok key (scalar text plain) y e = by (told_ok key (name_value text) y e)
  where
    by : (name_value text ≡ Ok y.1) × (y.0 ≡ []) → NameOk y
    by h = record { is_name = ap name_value (sym (name_same text y.1 h.0)) ∙ h.0; alone = h.1 }

-- a field that was read because it had to stand
pub record FieldOk (A : Type 0) (f : Form A) (key : Key) (es : Entries)
    (y : List Object × A) : Type 0 where
  pub value : Tree
  pub found : field_of key es ≡ Some value
  pub shown : is_null value ≡ false
  pub is_read : f.read key value ≡ Ok y

pub field_ok : {A : Type 0} (key : Key) (f : Form A) (es : Entries) (y : List Object × A)
    → (required key f).read es ≡ Ok y → FieldOk A f key es y
field_ok {A} key f es y e = by (field_of key es) refl e
  where
    by : (o : Option Tree) → field_of key es ≡ o
        → on_some (refused key rules.Missing) (f.read key) o ≡ Ok y → FieldOk A f key es y
    by None g h = refused_not_ok key rules.Missing y h
    by (Some t) g h = record { value = t; found = g; shown = field_shown key es t g; is_read = h }

-- REFERENCES

referring : Key → List ℕ → Entries
referring key n = entry key (scalar n false) no_entries

referred : (key : Key) (n : List ℕ)
    → field_of key (entry key (scalar n false) no_entries) ≡ Some (scalar n false)
referred key n = ap (λ b. cond (b && true) (Some (scalar n false)) None) (bytes_self key)

-- a reference that is written is read
reference_again : (key : Key) (n : List ℕ) → name_value n ≡ Ok n
    → answer_by (reference key) [] (entry key (scalar n false) no_entries) ≡ gives n
unfolding reference
reference_again key n e = then_gives _ n _ n
    (ap (on_some (refused key rules.Missing) (name.read key)) (referred key n) ∙ ap (told key) e)
    (then_gives _ tt (λ _. gives n)
    n (ap (λ b. cond (b || false) (gives tt) (refused (shown key) rules.UnknownField))
    (or_left (bytes_eq key key) false (bytes_self key))) refl)

-- what is known of an item that was read: its name is one, and what was taken out has the property
pub record ItemOk (P : Object → Type 0) (y : List Object × List ℕ) : Type 0 where
  pub is_name : name_value y.1 ≡ Ok y.1
  pub taken : AllByRecursion P y.0

-- OBJECTS THAT STOOD INLINE

-- What is to hold of each object that stood inline: it is made of metadata and of a `spec`
-- that were read.
abbrev pub Own : (P : Object → Type 0) → Kind → Form Body → Type 0
Own P kind body = (tm ts : Tree) (m : List Object × Metadata) (b : List Object × Body)
    → is_null tm ≡ false → is_null ts ≡ false
    → (map_with metadata).read METADATA.now tm ≡ Ok m → body.read SPEC.now ts ≡ Ok b
    → P (object_with kind m.1 b.1)

-- the name in metadata that were read is one
metadata_name : (key : Key) (t : Tree) (y : List Object × Metadata)
    → (map_with metadata).read key t ≡ Ok y → name_value y.1.name ≡ Ok y.1.name
unfolding metadata
metadata_name key (mapping es) y e = given metadata es [] (λ os m. name_value m.name ≡ Ok m.name)
    (λ n h d _ l _ a _. (let f = field_ok NAME.now name es n h in
    name_ok NAME.now f.value n f.is_read).is_name) [] y e
metadata_name key (sequence ts) y e = refused_not_ok key rules.NotMap y e
metadata_name key (scalar text plain) y e = refused_not_ok key rules.NotMap y e

abbrev InlineOk : (P : Object → Type 0) → List Object → Object → Type 0
InlineOk P os o = AllByRecursion P (os ++ o ∷ []) × (name_value o.name ≡ Ok o.name)

taken_ok : (P : Object → Type 0) (a : Answer Object) (y : List Object × List ℕ)
    → ((p : List Object × Object) → a ≡ Ok p → InlineOk P p.0 p.1) → taken_out a ≡ Ok y → ItemOk P y
taken_ok P (Ok p) y h e = let v = ok_same (p.0 ++ p.1 ∷ [], p.1.name) y e in let k = h p refl in
    record {
      is_name = subst (λ z. name_value z ≡ Ok z) (ap (λ z. z.1) v) k.1;
      taken = subst (AllByRecursion P) (ap (λ z. z.0) v) k.0;
    }
taken_ok P (Err f) y h e = absurd (err_not_ok f y e)

pub inline_ok : (P : Object → Type 0) (kind : Kind) (body : Form Body)
    → FormLaw P body → Own P kind body → (es : Entries) (y : List Object × List ℕ)
    → inline_read kind body es ≡ Ok y → ItemOk P y
unfolding inline_object
inline_ok P kind body law own es y e =
    taken_ok P (answer_by (inline_object kind body) [] es) y
    (λ p h. given (inline_object kind body) es []
    (InlineOk P) (λ v ev k ek m em s es. parts v ev k ek m em s es) [] p h) e
  where
    parts : (v : List Object × Option (Unit {0}))
        → (optional API_VERSION.now version).read es ≡ Ok v
        → (k : List Object × Option (Unit {0}))
        → (optional KIND.now (only_kind kind)).read es ≡ Ok k
        → (m : List Object × Metadata) → (required METADATA.now (map_with metadata)).read es ≡ Ok m
        → (s : List Object × Body) → (required SPEC.now body).read es ≡ Ok s
        → InlineOk P ((([] ++ v.0) ++ k.0) ++ m.0 ++ s.0) (object_with kind m.1 s.1)
    parts v ev k ek m em s es2 =
        let fm = field_ok METADATA.now (map_with metadata) es m em in
        let fs = field_ok SPEC.now body es s es2 in
        let tv = (optional_law P API_VERSION.now version (loose P version (version_law P))).taken es
        v ev in
        let tk = (optional_law P KIND.now (only_kind kind)
        (loose P (only_kind kind) (only_kind_law P kind))).taken es k ek in
        let tm = (map_law P metadata (metadata_law P) METADATA.now fm.value m fm.shown
        fm.is_read).taken in
        let ts = (law SPEC.now fs.value s fs.shown fs.is_read).taken in
        let o = own fm.value fs.value m s fm.shown fs.shown fm.is_read fs.is_read in (
          all_joined P (([] ++ v.0) ++ k.0 ++ m.0 ++ s.0) (object_with kind m.1 s.1 ∷ [])
              (all_joined P (([] ++ v.0) ++ k.0 ++ m.0) s.0 (all_joined P (([] ++ v.0) ++ k.0) m.0
              (all_joined P ([] ++ v.0) k.0 tv tk) tm) ts) (o, tt),
          metadata_name METADATA.now fm.value m fm.is_read,
        )

-- ITEMS

pub reference_ok : (P : Object → Type 0) (key : Key) (es : Entries) (y : List Object × List ℕ)
    → answer_by (reference key) [] es ≡ Ok y → ItemOk P y
unfolding reference
reference_ok P key es y e = given (reference key) es [] (λ os n. ItemOk P (os, n))
    (λ n h. let f = field_ok key name es n h in let k = name_ok key f.value n f.is_read in
    record { is_name = k.is_name; taken = subst (AllByRecursion P) (sym k.alone) tt }) [] y e

pub item_ok : (P : Object → Type 0) (key : Key) (kind : Kind) (body : Form Body)
    → FormLaw P body → Own P kind body → (es : Entries) (y : List Object × List ℕ)
    → item_read key kind body es ≡ Ok y → ItemOk P y
item_ok P key kind body law own es y e = by (is_none (field_of key es)) e
  where
    by : (b : Bool) → cond b (inline_read kind body es) (answer_by (reference key) [] es) ≡ Ok y
        → ItemOk P y
    by true f = inline_ok P kind body law own es y f
    by false f = reference_ok P key es y f

-- what was read of an item is read again of a reference
pub item_again : (key : Key) (kind : Kind) (body : Form Body) (n : List ℕ) → name_value n ≡ Ok n
    → item_read key kind body (entry key (scalar n false) no_entries) ≡ gives n
item_again key kind body n e =
    ap (λ o. cond (is_none o) (inline_read kind body (entry key (scalar n false) no_entries))
    (answer_by (reference key) [] (entry key (scalar n false) no_entries))) (referred key n)
    ∙ reference_again key n e

pub reference_item_law : (P : Object → Type 0) (key : Key) (kind : Kind) (body : Form Body)
    → FormLaw P body → Own P kind body
    → ItemLaw P (reference_item key kind body) (reference_written key)
reference_item_law P key kind body law own listed before (mapping es) y e = let h =
    item_ok P key kind body law own es y e in
    record { again = λ k. item_again key kind body y.1 h.is_name; taken = h.taken }
reference_item_law P key kind body law own listed before (sequence ts) y e =
    refused_not_ok listed rules.NotMap y e
reference_item_law P key kind body law own listed before (scalar text plain) y e =
    refused_not_ok listed rules.NotMap y e
