-- What is written of a node that can be written can be written: lines, tables and forms.
use Rattle.std.proofs.Common.{◌≡◌, ℕ, zero, suc, ◌≤◌, ◌<◌, Bool, true, false, List, [], ◌∷◌, ◌++◌}
use Rattle.std.proofs.Common.{Option, Some, None, Ok, cond, IsUtf8, refl, sym, ap, ◌∙◌, subst}
use Rattle.std.proofs.Common.{arith}
use Rattle.std.specs.Prelude.{◌&&◌, ◌||◌, not, nat_lt, slice_index}
use Rattle.std.specs.Str.{bytes_eq}
use Rattle.std.specs.List.{AllByRecursion, list_all}
use Rattle.std.proofs.lemmas.Bool.{false≢true}
use Rattle.std.proofs.lemmas.Option.{none-some}
use Rattle.std.proofs.lemmas.Str.{IsUtf8-from_ascii}
use Rattle.std.proofs.lemmas.Bool.Decides.{nat_tests}
use Rattle.yaml_terms.specs.Tree.{Tree, mapping, sequence, scalar, Entries, no_entries, entry}
use Rattle.yaml_terms.specs.Spelling.{Spelling, word, quoted, fields, items, Fields, no_fields}
use Rattle.yaml_terms.specs.Spelling.{field, Items, no_items, one_item, entries_meant, spelled}
use Rattle.yaml_terms.specs.Spelling.{fields_spelled}
use Rattle.yaml_terms.specs.Profile.{max_depth}
use Rattle.yaml_terms.specs.SpellingFits.{SpellingFits, FitFields, FitItems, is_plain_key}
use Rattle.yaml_terms.specs.SpellingFits.{has_field}
use Rattle.object_terms.specs.declared.object.Object.{Object}
use Rattle.object_terms.specs.declared.fault.Rule.{Rule}
use Rattle.object_terms.specs.declared.fault.Rule.TheVariants.{Missing, Both, Neither, NotMap}
use Rattle.object_terms.specs.Form.{Key, Answer, gives, refused, mapped, on_some, is_null, field_of}
use Rattle.object_terms.specs.Form.{closed, Form, FieldLine, FieldTable, done, next_line, answer_by}
use Rattle.object_terms.specs.Form.{fields_by, own, field_or, optional, required, required_where}
use Rattle.object_terms.specs.Form.{required_unless, barred_field, has_one_of, alone_field}
use Rattle.object_terms.specs.Form.{optional_alone, either_field, one_of, holding, map_with}
use Rattle.object_laws.proofs.LawFields.{bytes_same, bytes_self, and_left, and_right, not_false}
use Rattle.object_laws.proofs.LawFields.{lacks, lacks_all, lacks_all_from, among-back}
use Rattle.object_terms.proofs.AnswerLemmas.{ok_same}
use Rattle.object_laws.proofs.LawFieldTables.{all_joined, then_ok, LineLaw, always_run, TableLaw}
use Rattle.object_laws.proofs.LawFieldTables.{lacking, closed_alone}
use Rattle.object_laws.proofs.LawLines.{MappedOk, mapped_ok, none_given, refused_not_ok, OfField}
use Rattle.object_laws.proofs.LawLines.{field_written, required_unless_of, required_where_of}

-- DEPTH

-- what can be written can be written where more may nest
mutual
  pub deeper : (d e : ℕ) (s : Spelling) → d ≤ e → SpellingFits d s → SpellingFits e s
  deeper d e (word t) h f = f
  deeper d e (quoted t) h f = f
  deeper zero e (fields fs) h f = absurd f
  deeper (suc d) zero (fields fs) h f = absurd (omega arith)
  deeper (suc d) (suc e) (fields fs) h f = deeper_fields d e fs (omega arith) f
  deeper zero e (items is) h f = absurd f
  deeper (suc d) zero (items is) h f = absurd (omega arith)
  deeper (suc d) (suc e) (items is) h f = deeper_items d e is (omega arith) f

  pub deeper_fields : (d e : ℕ) (fs : Fields) → d ≤ e → FitFields d fs → FitFields e fs
  deeper_fields d e no_fields h f = tt
  deeper_fields d e (field q k s fs) h f =
      (f.0, f.1, deeper d e s h f.2, deeper_fields d e fs h f.3)

  pub deeper_items : (d e : ℕ) (is : Items) → d ≤ e → FitItems d is → FitItems e is
  deeper_items d e no_items h f = tt
  deeper_items d e (one_item s is) h f = (deeper d e s h f.0, deeper_items d e is h f.1)

-- FIELDS

-- bytes of ASCII
abbrev pub is_low : List ℕ → Bool
is_low bytes = list_all (λ c. nat_lt c 128) bytes

low_byte : (c : ℕ) → nat_lt c 128 ≡ true → c < 128
low_byte c e = grind (arith, nat_tests)

low_bytes : (cs : List ℕ) → is_low cs ≡ true → (i : ℕ) → slice_index cs i < 128
low_bytes [] e i = omega arith
low_bytes (c ∷ cs) e zero = low_byte c (and_left (nat_lt c 128) (is_low cs) e)
low_bytes (c ∷ cs) e (suc i) = low_bytes cs (and_right (nat_lt c 128) (is_low cs) e) i

pub low_utf8 : (cs : List ℕ) → is_low cs ≡ true → IsUtf8 cs
low_utf8 cs e = IsUtf8-from_ascii cs (low_bytes cs e)

-- the key of an object's own field: a word of letters
abbrev pub own_key : Key → Bool
own_key key = is_low key && is_plain_key key

no_field : (key : Key) (fs : Fields) → lacks key (entries_meant fs) ≡ true
    → has_field key fs ≡ false
no_field key no_fields l = refl
no_field key (field q k s fs) l = by (bytes_eq key k) refl
    (no_field key fs (and_right (not (bytes_eq k key)) (lacks key (entries_meant fs)) l))
  where
    by : (b : Bool) → bytes_eq key k ≡ b → has_field key fs ≡ false
        → (b || has_field key fs) ≡ false
    by true e h = absurd (false≢true (sym (not_false
        (bytes_eq k key) (and_left (not (bytes_eq k key)) (lacks key (entries_meant fs)) l))
        ∙ subst (λ z. bytes_eq k z ≡ true) (sym (bytes_same key k e)) (bytes_self k)))
    by false e h = h

pub own_fits : (d : ℕ) (key : Key) (s : Spelling) (behind : Fields)
    → own_key key ≡ true → lacks key (entries_meant behind) ≡ true → SpellingFits d s
    → FitFields d behind
    → FitFields d (own key s behind)
own_fits d key s behind k l f g = (
  (
    low_utf8 key (and_left (is_low key) (is_plain_key key) k),
    and_right (is_low key) (is_plain_key key) k,
  ),
  no_field key behind l,
  f,
  g,
)

some_same : (a b : Tree) → (let o : Option Tree = Some a in o) ≡ Some b → a ≡ b
some_same a b g = cc

pub found_fits : (d : ℕ) (key : Key) (es : Entries) (t : Tree) → field_of key es ≡ Some t
    → FitFields d (fields_spelled es) → SpellingFits d (spelled t)
found_fits d key no_entries t e f = absurd (none-some t e)
found_fits d key (entry k u es) t e f =
    by (bytes_eq k key && not (is_null u)) e (λ g. found_fits d key es t g f.3)
  where
    by : (b : Bool) → cond b (Some u) (field_of key es) ≡ Some t
        → (field_of key es ≡ Some t → SpellingFits d (spelled t)) → SpellingFits d (spelled t)
    by true g h = subst (λ z. SpellingFits d (spelled z)) (some_same u t g) f.2
    by false g h = h g

-- LAWS

-- What a form writes can be written where the node that it read can, with so much room for levels;
-- and so can each object that it took out.
abbrev pub FormFit : (Q : Object → Type 0) → ℕ → {A : Type 0} → Form A → Type 0
FormFit Q room {A} f = (key : Key) (t : Tree) (y : List Object × A) → f.read key t ≡ Ok y → (d : ℕ)
    → room ≤ d → d ≤ max_depth → SpellingFits d (spelled t)
    → SpellingFits d (f.write y.1) × AllByRecursion Q y.0

abbrev pub LineFit : (Q : Object → Type 0) → ℕ → {B : Type 0} → FieldLine B → Type 0
LineFit Q room {B} r = (es : Entries) (y : List Object × B) → r.read es ≡ Ok y → (d : ℕ) → room ≤ d
    → d ≤ max_depth → FitFields d (fields_spelled es)
    → (behind : Fields) → FitFields d behind → lacks_all r.keys (entries_meant behind) ≡ true
    → FitFields d (r.write y.1 behind) × AllByRecursion Q y.0

abbrev pub TableFit : (Q : Object → Type 0) → ℕ → {A : Type 0} → FieldTable A → Type 0
TableFit Q room (done a) = Unit {0}
TableFit Q room (next_line {B = B} r part rest) = LineFit Q room r
    × ((b : B) → TableFit Q room (rest b))

-- what stands behind a line lacks its keys
behind_lacks : {A B : Type 0} (P : Object → Type 0) (r : FieldLine B) (law : LineLaw P B r)
    (table : FieldTable A) (barred : List Key) (b : B) → TableLaw P (barred ++ law.asks b) table
    → (v : A)
    → lacks_all r.keys (entries_meant (fields_by table v)) ≡ true
behind_lacks P r law table barred b later v =
    lacks_all_from r.keys (entries_meant (fields_by table v))
    (λ k e. lacking P table (barred ++ law.asks b)
    later v k (among-back barred (law.asks b) k (law.covers b k e)))

pub run_fit : {A : Type 0} (Q : Object → Type 0) (room : ℕ) (P : Object → Type 0)
    (table : FieldTable A) (barred : List Key) → TableLaw P barred table → TableFit Q room table
    → (known : List Key) (es : Entries) (y : List Object × A) → answer_by table known es ≡ Ok y
    → (d : ℕ) → room ≤ d → d ≤ max_depth → FitFields d (fields_spelled es)
    → FitFields d (fields_by table y.1) × AllByRecursion Q y.0
run_fit Q room P (done a) barred law fit known es y e d h k f =
    let t = then_ok (closed known es) (λ _. gives a) y e in
    let s = ok_same ([], a) t.second t.is_second in (
      tt,
      subst (AllByRecursion Q) (sym (t.objects ∙ ap (λ os. os ++ t.second.0)
          (closed_alone known es t.first t.is_first) ∙ sym (ap (λ z. z.0) s))) tt,
    )
run_fit Q room P (next_line r part rest) barred law fit known es y e d h k f =
    let t = then_ok (r.read es) (λ b. answer_by (rest b) (known ++ r.keys) es) y e in
    let b = t.first.1 in
    let q = t.second in
    let s = law.1 b in
    let is_part : part q.1 ≡ b =
    always_run (rest b) (λ z. part z ≡ b) s.1 (known ++ r.keys) es q t.is_second in
    let later = run_fit Q room P (rest b) (barred ++ law.0.asks b) s.2 (fit.1 b) (known ++ r.keys)
    es q t.is_second d h k f in
    let first = fit.0 es t.first t.is_first d h k f (fields_by (rest b) q.1) later.0
    (behind_lacks P r law.0 (rest b) barred b s.2 q.1) in (
      subst (λ z. FitFields d (fields_by (next_line r part rest) z)) (sym t.value)
          (subst (λ c. FitFields d (r.write c (fields_by (rest c) q.1))) (sym is_part) first.0),
      subst (AllByRecursion Q) (sym t.objects) (all_joined Q t.first.0 q.0 first.1 later.1),
    )

-- a map's own level
abbrev pub Within : ℕ → ℕ → Type 0
Within outer inner = (d : ℕ) → outer ≤ suc d → inner ≤ d

pub map_fit : {A : Type 0} (Q : Object → Type 0) (outer inner : ℕ) (P : Object → Type 0)
    (table : FieldTable A) → Within outer inner → TableLaw P [] table → TableFit Q inner table
    → FormFit Q outer (map_with table)
map_fit Q outer inner P table w law fit key (mapping es) y e zero h k f = absurd f
map_fit Q outer inner P table w law fit key (mapping es) y e (suc d) h k f =
    run_fit Q inner P table [] law fit [] es y e d (w d h) (let k2 = k in omega arith) f
map_fit Q outer inner P table w law fit key (sequence ts) y e d h k f = refused_not_ok key NotMap y
    e
map_fit Q outer inner P table w law fit key (scalar text plain) y e d h k f =
    refused_not_ok key NotMap y e

-- LINES

field_fit : {A : Type 0} (Q : Object → Type 0) (room : ℕ) (key : Key)
    (f : Form A) (value : Option Tree → Answer (Option A)) → own_key key ≡ true → FormFit Q room f
    → OfField A key f value
    → LineFit Q room (record {
      keys = key ∷ [];
      read = λ es. value (field_of key es);
      write = field_written f key;
    })
field_fit {A} Q room key f value k fit of es y e d h m fe behind fb lk = by (field_of key es) refl e
  where
    there : (t : Tree) → field_of key es ≡ Some t → MappedOk A (Option A) Some (f.read key t) y
        → FitFields d (field_written f key y.1 behind) × AllByRecursion Q y.0
    there t g o = let r = fit key t o.first o.is_first d h m (found_fits d key es t g fe) in (
      subst (λ z. FitFields d (field_written f key z behind)) (sym (ap (λ z. z.1) o.value))
          (own_fits d key (f.write o.first.1) behind k
          (and_left (lacks key (entries_meant behind)) true lk) r.0 fb),
      subst (AllByRecursion Q) (sym (ap (λ z. z.0) o.value)) r.1,
    )

    by : (o : Option Tree) → field_of key es ≡ o → value o ≡ Ok y
        → FitFields d (field_written f key y.1 behind) × AllByRecursion Q y.0
    by None g v = let n = of.none y v in (
      subst (λ z. FitFields d (field_written f key z behind)) (sym (ap (λ z. z.1) n)) fb,
      subst (AllByRecursion Q) (sym (ap (λ z. z.0) n)) tt,
    )
    by (Some t) g v = there t g (mapped_ok Some (f.read key t) y (sym (of.some t y v t) ∙ v))

pub optional_fit : {A : Type 0} (Q : Object → Type 0) (room : ℕ) (key : Key) (f : Form A)
    → own_key key ≡ true → FormFit Q room f → LineFit Q room (optional key f)
optional_fit Q room key f k fit = field_fit Q room key f (λ o. field_or (gives None) f key o) k fit
    (record { none = none_given; some = λ t y e u. refl })

pub required_where_fit : {A : Type 0} (Q : Object → Type 0)
    (room : ℕ) (needed : Bool) (key : Key) (f : Form A) → own_key key ≡ true → FormFit Q room f
    → LineFit Q room (required_where needed key f)
required_where_fit Q room needed key f k fit =
    field_fit Q room key f (λ o. field_or (cond needed (refused key Missing) (gives None)) f key o)
    k fit (required_where_of needed key f)

pub required_unless_fit : {A : Type 0} (Q : Object → Type 0)
    (room : ℕ) (barred : Bool) (key : Key) (f : Form A) → own_key key ≡ true → FormFit Q room f
    → LineFit Q room (required_unless barred key f)
required_unless_fit Q room barred key f k fit = field_fit Q room
    key f (λ o. cond barred (barred_field key o) (field_or (refused key Missing) f key o)) k fit
    (required_unless_of barred key f)

pub required_fit : {A : Type 0} (Q : Object → Type 0) (room : ℕ) (key : Key) (f : Form A)
    → own_key key ≡ true → FormFit Q room f → LineFit Q room (required key f)
required_fit {A} Q room key f k fit es y e d h m fe behind fb lk = by (field_of key es) refl e
  where
    by : (o : Option Tree) → field_of key es ≡ o
        → on_some (refused key Missing) (f.read key) o ≡ Ok y
        → FitFields d (own key (f.write y.1) behind) × AllByRecursion Q y.0
    by None g v = refused_not_ok key Missing y v
    by (Some t) g v = let r = fit key t y v d h m (found_fits d key es t g fe) in (
      own_fits d key (f.write y.1) behind k
          (and_left (lacks key (entries_meant behind)) true lk) r.0 fb,
      r.1,
    )

pub alone_fit : {A : Type 0} (Q : Object → Type 0)
    (room : ℕ) (key : Key) (others : List Key) (f : Form A) → own_key key ≡ true → FormFit Q room f
    → LineFit Q room (optional_alone key others f)
alone_fit {A} Q room key others f k fit es y e d h m fe behind fb lk =
    by (has_one_of others es) (field_of key es) refl e
  where
    there : (t : Tree) → field_of key es ≡ Some t → MappedOk A (Option A) Some (f.read key t) y
        → FitFields d (field_written f key y.1 behind) × AllByRecursion Q y.0
    there t g o = let r = fit key t o.first o.is_first d h m (found_fits d key es t g fe) in (
      subst (λ z. FitFields d (field_written f key z behind)) (sym (ap (λ z. z.1) o.value))
          (own_fits d key (f.write o.first.1) behind k
          (and_left (lacks key (entries_meant behind)) true lk) r.0 fb),
      subst (AllByRecursion Q) (sym (ap (λ z. z.0) o.value)) r.1,
    )

    by : (b : Bool) (o : Option Tree) → field_of key es ≡ o → alone_field b f key o ≡ Ok y
        → FitFields d (field_written f key y.1 behind) × AllByRecursion Q y.0
    by b None g v = let n = none_given y v in (
      subst (λ z. FitFields d (field_written f key z behind)) (sym (ap (λ z. z.1) n)) fb,
      subst (AllByRecursion Q) (sym (ap (λ z. z.0) n)) tt,
    )
    by true (Some t) g v = refused_not_ok key Both y v
    by false (Some t) g v = there t g (mapped_ok Some (f.read key t) y v)

-- a value that was read can be written under the key that it is written under
abbrev pub EitherFit : (Q : Object → Type 0) → ℕ → {A : Type 0} → Form A → Form A → Form A
    → (A → Bool) → Type 0
EitherFit Q room {A} h f g is_first = (key : Key) (t : Tree) (y : List Object × A)
    → h.read key t ≡ Ok y → (d : ℕ) → room ≤ d → d ≤ max_depth → SpellingFits d (spelled t)
    → (is_first y.1 ≡ true → SpellingFits d (f.write y.1))
    × (is_first y.1 ≡ false → SpellingFits d (g.write y.1))
    × AllByRecursion Q y.0

pub one_of_fit : {A : Type 0} (Q : Object → Type 0) (room : ℕ) (key : Key) (f : Form A)
    (other : Key) (g : Form A) (is_first : A → Bool) → own_key key ≡ true → own_key other ≡ true
    → EitherFit Q room f f g is_first → EitherFit Q room g f g is_first
    → LineFit Q room (one_of key f other g is_first)
one_of_fit {A} Q room key f other g is_first k j ff gf es y e d h m fe behind fb lk =
    by (field_of key es) (field_of other es) refl refl e
  where
    written : (b : Bool) → is_first y.1 ≡ b → (is_first y.1 ≡ true → SpellingFits d (f.write y.1))
        × (is_first y.1 ≡ false → SpellingFits d (g.write y.1)) × AllByRecursion Q y.0
        → FitFields d (cond b (own key (f.write y.1) behind) (own other (g.write y.1) behind))
        × AllByRecursion Q y.0
    written true i r = (
      own_fits d key (f.write y.1) behind k (and_left (lacks key (entries_meant behind))
          (lacks other (entries_meant behind) && true) lk) (r.0 i) fb,
      r.2,
    )
    written false i r = (
      own_fits d other (g.write y.1) behind j (and_left
          (lacks other (entries_meant behind)) true (and_right (lacks key (entries_meant behind))
          (lacks other (entries_meant behind) && true) lk)) (r.1 i) fb,
      r.2,
    )

    by : (o p : Option Tree) → field_of key es ≡ o → field_of other es ≡ p
        → either_field f key g other o p ≡ Ok y
        → FitFields d (cond (is_first y.1) (own key (f.write y.1) behind)
        (own other (g.write y.1) behind)) × AllByRecursion Q y.0
    by None None a b v = refused_not_ok key Neither y v
    by (Some t) None a b v =
        written (is_first y.1) refl (ff key t y v d h m (found_fits d key es t a fe))
    by None (Some t) a b v =
        written (is_first y.1) refl (gf other t y v d h m (found_fits d other es t b fe))
    by (Some t) (Some u) a b v = refused_not_ok key Both y v

pub holding_fit : (Q : Object → Type 0) (room : ℕ) (holds : Bool) (key : Key) (rule : Rule)
    → LineFit Q room (holding holds key rule)
holding_fit Q room holds key rule es y e d h m fe behind fb lk = (fb, by holds e)
  where
    by : (b : Bool) → cond b (gives tt) (refused key rule) ≡ Ok y → AllByRecursion Q y.0
    by true v = subst (AllByRecursion Q) (ap (λ z. z.0) (ok_same ([], tt) y v)) tt
    by false v = refused_not_ok key rule y v
