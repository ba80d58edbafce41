-- What was read is read again from what it is written as: tables of lines.
use Rattle.std.proofs.Common.{◌≡◌, Bool, true, false, List, [], ◌∷◌, ◌++◌, Option, Some, None}
use Rattle.std.proofs.Common.{Result, Ok, Err, cond, refl, sym, ap, ◌∙◌, subst, append_assoc}
use Rattle.std.proofs.Common.{append-nil}
use Rattle.std.specs.Prelude.{◌||◌}
use Rattle.std.specs.List.{AllByRecursion}
use Rattle.std.proofs.lemmas.Bool.{false≢true}
use Rattle.yaml_terms.specs.Tree.{Tree, Entries, no_entries, entry}
use Rattle.yaml_terms.specs.Spelling.{Fields, meant, entries_meant}
use Rattle.object_terms.specs.declared.object.Object.{Object}
use Rattle.object_terms.specs.declared.fault.Rule.TheVariants.{NotMap, UnknownField}
use Rattle.object_terms.specs.declared.fault.ObjectFault.{ObjectFault}
use Rattle.object_terms.specs.Form.{Key, Answer, gives, refused, after, and_then, on_some}
use Rattle.object_terms.specs.Form.{mapping_in, is_among, is_null, closed, shown, Form, FieldLine}
use Rattle.object_terms.specs.Form.{FieldTable, done, next_line, answer_by, fields_by, map_with}
use Rattle.object_terms.proofs.AnswerLemmas.{ok_same, err_not_ok}
use Rattle.object_laws.proofs.LawFields.{false_if, apart, apart_among, among-front, among-back}
use Rattle.object_laws.proofs.LawFields.{joined, joined-none, joined-joined, lacks, lacks_all}
use Rattle.object_laws.proofs.LawFields.{within, within-front, within-back, within-joined}
use Rattle.object_laws.proofs.LawFields.{lacks-joined, lacks-within, lacks_all_from}
use Rattle.object_laws.proofs.LawFields.{lacks_all-within, closed_known}

-- ANSWERS

pub all_joined : (P : Object → Type 0) (a b : List Object) → AllByRecursion P a → AllByRecursion P b
    → AllByRecursion P (a ++ b)
all_joined P [] b h k = k
all_joined P (x ∷ xs) b h k = (h.0, all_joined P xs b h.1 k)

-- what is known of two readings that gave a value
pub record ThenOk (A B : Type 0) (a : Answer A) (f : A → Answer B)
    (y : List Object × B) : Type 0 where
  pub first : List Object × A
  pub second : List Object × B
  pub is_first : a ≡ Ok first
  pub is_second : f first.1 ≡ Ok second
  pub objects : y.0 ≡ first.0 ++ second.0
  pub value : y.1 ≡ second.1

pub then_ok : {A B : Type 0} (a : Answer A) (f : A → Answer B) (y : List Object × B)
    → and_then a f ≡ Ok y → ThenOk A B a f y
then_ok {A} {B} (Ok p) f y e = by (f p.1) refl e
  where
    by : (r : Answer B) → f p.1 ≡ r → after p.0 r ≡ Ok y → ThenOk A B (Ok p) f y
    by (Ok q) g h = let s : y ≡ (p.0 ++ q.0, q.1) = sym (ok_same (p.0 ++ q.0, q.1) y h) in
        record {
          first = p;
          second = q;
          is_first = refl;
          is_second = g;
          objects = ap (λ z. z.0) s;
          value = ap (λ z. z.1) s;
        }
    by (Err x) g h = absurd (err_not_ok x y h)
then_ok (Err x) f y e = absurd (err_not_ok x y e)

-- LINES

-- The law of a line: the keys that it asks for, the entries that it writes, and that what was read
-- is read again among other entries, alone.
pub record LineLaw (P : Object → Type 0) (B : Type 0) (r : FieldLine B) : Type 0 where
  pub asks : B → List Key
  pub piece : B → Entries
  pub is_piece : (b : B) (behind : Fields)
      → entries_meant (r.write b behind) ≡ joined (piece b) (entries_meant behind)
  pub of_keys : (b : B) → within r.keys (piece b) ≡ true
  pub of_asks : (b : B) → within (asks b) (piece b) ≡ true
  pub covers : (b : B) (k : Key) → is_among r.keys k ≡ true → is_among (asks b) k ≡ true
  pub again : (es : Entries) (y : List Object × B) → r.read es ≡ Ok y → (front tail : Entries)
      → lacks_all (asks y.1) front ≡ true → lacks_all (asks y.1) tail ≡ true
      → r.read (joined front (joined (piece y.1) tail)) ≡ gives y.1
  pub taken : (es : Entries) (y : List Object × B) → r.read es ≡ Ok y → AllByRecursion P y.0

-- what holds of each value that the lines make
abbrev pub Made : {A : Type 0} → FieldTable A → (A → Type 0) → Type 0
Made (done a) Q = Q a
Made (next_line {B = B} r part rest) Q = (b : B) → Made (rest b) Q

pub always_run : {A : Type 0} (table : FieldTable A) (Q : A → Type 0) → Made table Q
    → (known : List Key) (es : Entries) (y : List Object × A) → answer_by table known es ≡ Ok y
    → Q y.1
always_run (done a) Q m known es y e = let h = then_ok (closed known es) (λ _. gives a) y e in
    subst Q (sym (h.value ∙ sym (ap (λ z. z.1) (ok_same ([], a) h.second h.is_second)))) m
always_run (next_line r part rest) Q m known es y e = let h =
    then_ok (r.read es) (λ b. answer_by (rest b) (known ++ r.keys) es) y e in
    subst Q (sym h.value) (always_run (rest h.first.1) Q (m h.first.1) (known ++ r.keys) es
    h.second h.is_second)

-- The law of a table, one line after another: the line's own law, that none of its keys was asked
-- for before, and that each value which the later lines make has this part.
abbrev pub TableLaw : (P : Object → Type 0) → {A : Type 0} → List Key → FieldTable A → Type 0
TableLaw P barred (done a) = Unit {0}
TableLaw P barred (next_line {B = B} r part rest) = (law : LineLaw P B r)
    × ((b : B) → (apart (law.asks b) barred ≡ true) × Made (rest b) (λ v. part v ≡ b)
    × TableLaw P (barred ++ law.asks b) (rest b))

pub line_piece : {A B : Type 0} (P : Object → Type 0) (r : FieldLine B) (law : LineLaw P B r)
    (part : A → B)
    (rest : B → FieldTable A) (v : A) (b : B) → part v ≡ b
    → entries_meant (fields_by (next_line r part rest) v)
    ≡ joined (law.piece b) (entries_meant (fields_by (rest b) v))
line_piece P r law part rest v b e = ap (λ c. entries_meant (r.write c (fields_by (rest c) v))) e
    ∙ law.is_piece b (fields_by (rest b) v)

-- the lines write no key that was asked for before
pub lacking : {A : Type 0} (P : Object → Type 0) (table : FieldTable A) (barred : List Key)
    → TableLaw P barred table → (v : A) (key : Key) → is_among barred key ≡ true
    → lacks key (entries_meant (fields_by table v)) ≡ true
lacking P (done a) barred law v key e = refl
lacking P (next_line r part rest) barred law v key e =
    let b = part v in
    let s = law.1 b in
    let not_asked : is_among (law.0.asks b) key ≡ false = false_if (is_among (law.0.asks b) key)
    (λ f. false≢true (sym (apart_among (law.0.asks b) barred key s.0 f) ∙ e)) in
    subst (λ es. lacks key es ≡ true) (sym (law.0.is_piece b (fields_by (rest b) v)))
    (lacks-joined key (law.0.piece b) (entries_meant (fields_by (rest b) v))
    (lacks-within key (law.0.asks b) (law.0.piece b) (law.0.of_asks b) not_asked)
    (lacking P (rest b) (barred ++ law.0.asks b) s.2 v key
    (among-front barred (law.0.asks b) key e)))

pub then_gives : {A B : Type 0} (a : Answer A) (b : A) (f : A → Answer B) (c : B) → a ≡ gives b
    → f b ≡ gives c → and_then a f ≡ gives c
then_gives a b f c e g = ap (λ x. and_then x f) e ∙ ap (after []) g

-- What was read is read again from what it is written as, behind fields that stand before it.
pub run_again : {A : Type 0} (P : Object → Type 0) (table : FieldTable A) (barred known : List Key)
    → TableLaw P barred table → (es : Entries) (y : List Object × A)
    → answer_by table known es ≡ Ok y
    → (front : Entries) → within known front ≡ true → within barred front ≡ true
    → answer_by table known (joined front (entries_meant (fields_by table y.1))) ≡ gives y.1
run_again P (done a) barred known law es y e front w v =
    let h = then_ok (closed known es) (λ _. gives a) y e in
    let s : y.1 ≡ a = h.value ∙ sym (ap (λ z. z.1) (ok_same ([], a) h.second h.is_second)) in
    subst (λ z. and_then (closed known (joined front no_entries)) (λ _. gives a) ≡ gives z) (sym s)
    (then_gives (closed known (joined front no_entries)) tt (λ _. gives a) a
    (ap (closed known) (joined-none front) ∙ closed_known known front w) refl)
run_again P (next_line r part rest) barred known law es y e front w v =
    let h = then_ok (r.read es) (λ b. answer_by (rest b) (known ++ r.keys) es) y e in
    let l = law.0 in
    let b = h.first.1 in
    let q = h.second in
    let s = law.1 b in
    let is_part : part q.1 ≡ b =
    always_run (rest b) (λ z. part z ≡ b) s.1 (known ++ r.keys) es q h.is_second in
    let tail = entries_meant (fields_by (rest b) q.1) in
    let later : answer_by (rest b) (known ++ r.keys) (joined (joined front (l.piece b)) tail)
    ≡ gives q.1 =
    run_again P (rest b) (barred ++ l.asks b) (known ++ r.keys) s.2 es q h.is_second
    (joined front (l.piece b))
    (within-joined (known ++ r.keys) front (l.piece b) (within-front known r.keys front w)
    (within-back known r.keys (l.piece b) (l.of_keys b)))
    (within-joined (barred ++ l.asks b) front (l.piece b) (within-front barred (l.asks b) front v)
    (within-back barred (l.asks b) (l.piece b) (l.of_asks b))) in
    let first : r.read (joined front (joined (l.piece b) tail)) ≡ gives b =
    l.again es h.first h.is_first front tail (lacks_all-within (l.asks b) barred front s.0 v)
    (lacks_all_from (l.asks b) tail (λ k i.
    lacking P (rest b) (barred ++ l.asks b) s.2 q.1 k (among-back barred (l.asks b) k i))) in
    let whole = line_piece P r l part rest q.1 b is_part in
    subst (λ z. answer_by (next_line r part rest) known
    (joined front (entries_meant (fields_by (next_line r part rest) z)))
    ≡ gives z) (sym h.value)
    (ap (λ fs. answer_by (next_line r part rest) known (joined front fs)) whole
    ∙ then_gives (r.read (joined front (joined (l.piece b) tail))) b
    (λ c. answer_by (rest c) (known ++ r.keys) (joined front (joined (l.piece b) tail))) q.1 first
    (ap (answer_by (rest b) (known ++ r.keys)) (sym (joined-joined front (l.piece b) tail)) ∙
    later))

-- no objects stand in the unknown fields
pub closed_alone : (known : List Key) (es : Entries) (u : List Object × Unit {0})
    → closed known es ≡ Ok u → u.0 ≡ []
closed_alone known no_entries u e = sym (ap (λ z. z.0) (ok_same ([], tt) u e))
closed_alone known (entry k t es) u e =
    by (is_among known k || is_null t) e (λ f. closed_alone known es u f)
  where
    by : (b : Bool) → cond b (closed known es) (refused (shown k) UnknownField) ≡ Ok u
        → (closed known es ≡ Ok u → u.0 ≡ []) → u.0 ≡ []
    by true f h = h f
    by false f h = absurd (err_not_ok _ u f)

pub run_taken : {A : Type 0} (P : Object → Type 0) (table : FieldTable A) (barred known : List Key)
    → TableLaw P barred table → (es : Entries) (y : List Object × A)
    → answer_by table known es ≡ Ok y
    → AllByRecursion P y.0
run_taken P (done a) barred known law es y e =
    let h = then_ok (closed known es) (λ _. gives a) y e in
    subst (AllByRecursion P)
    (sym (h.objects ∙ ap (λ os. os ++ h.second.0) (closed_alone known es h.first h.is_first)
    ∙ sym (ap (λ z. z.0) (ok_same ([], a) h.second h.is_second)))) tt
run_taken P (next_line r part rest) barred known law es y e =
    let h = then_ok (r.read es) (λ b. answer_by (rest b) (known ++ r.keys) es) y e in
    subst (AllByRecursion P) (sym h.objects)
    (all_joined P h.first.0 h.second.0 (law.0.taken es h.first h.is_first)
    (run_taken P (rest h.first.1) (barred ++ law.0.asks h.first.1) (known ++ r.keys)
    (law.1 h.first.1).2 es h.second h.is_second))

-- What holds of the objects and the value that the lines give, by what each of them read.
abbrev pub Given : {A : Type 0} → FieldTable A → Entries → List Object
    → (List Object → A → Type 0) → Type 0
Given (done a) es objects Q = Q objects a
Given (next_line {B = B} r part rest) es objects Q = (p : List Object × B) → r.read es ≡ Ok p
    → Given (rest p.1) es (objects ++ p.0) Q

pub given : {A : Type 0} (table : FieldTable A)
    (es : Entries) (objects : List Object) (Q : List Object → A → Type 0) → Given table es objects Q
    → (known : List Key) (y : List Object × A) → answer_by table known es ≡ Ok y
    → Q (objects ++ y.0) y.1
given (done a) es objects Q h known y e =
    let t = then_ok (closed known es) (λ _. gives a) y e in
    let s = ok_same ([], a) t.second t.is_second in
    let none : y.0 ≡ [] = t.objects
    ∙ ap (λ os. os ++ t.second.0) (closed_alone known es t.first t.is_first)
    ∙ sym (ap (λ z. z.0) s) in
    subst (λ z. Q (objects ++ y.0) z) (sym (t.value ∙ sym (ap (λ z. z.1) s)))
    (subst (λ z. Q z a) (sym (ap (λ os. objects ++ os) none ∙ append-nil objects)) h)
given (next_line r part rest) es objects Q h known y e =
    let t = then_ok (r.read es) (λ b. answer_by (rest b) (known ++ r.keys) es) y e in
    let later = given (rest t.first.1) es (objects ++ t.first.0) Q (h t.first t.is_first)
    (known ++ r.keys) t.second t.is_second in
    subst (λ z. Q (objects ++ y.0) z) (sym t.value) (subst (λ z. Q z t.second.1) (append_assoc
    objects t.first.0 t.second.0 ∙ sym (ap (λ os. objects ++ os) t.objects)) later)

-- FORMS

-- what was read is read again, whatever key it is read for; and it isn't null
pub record Back (P : Object → Type 0) (A : Type 0) (f : Form A) (t : Tree)
    (y : List Object × A) : Type 0 where
  pub again : (key : Key) → f.read key (meant (f.write y.1)) ≡ gives y.1
  pub shown : is_null (meant (f.write y.1)) ≡ false
  pub taken : AllByRecursion P y.0

abbrev pub FormLaw : (P : Object → Type 0) → {A : Type 0} → Form A → Type 0
FormLaw P {A} f = (key : Key) (t : Tree) (y : List Object × A) → is_null t ≡ false
    → f.read key t ≡ Ok y → Back P A f t y

-- a map that is told by a table
pub map_law : {A : Type 0} (P : Object → Type 0) (table : FieldTable A) → TableLaw P [] table
    → FormLaw P (map_with table)
map_law P table law key t y n e = by (mapping_in t) e
  where
    by : (m : Option Entries) → on_some (refused key NotMap) (λ es. answer_by table [] es) m ≡ Ok y
        → Back P _ (map_with table) t y
    by None g = absurd (err_not_ok _ y g)
    by (Some es) g = record {
      again = λ k. run_again P table [] [] law es y g no_entries refl refl;
      shown = refl;
      taken = run_taken P table [] [] law es y g;
    }
