-- What holds of each value that a form or a table gives.
use Rattle.std.proofs.Common.{◌≡◌, List, [], ◌++◌, Result, Ok, Err, refl, ap, ◌∙◌, subst}
use Rattle.yaml_terms.specs.Tree.{Tree, mapping, sequence, scalar, Entries}
use Rattle.object_terms.specs.declared.Object.{Object}
use Rattle.object_terms.specs.declared.Rule.{Rule}
use Rattle.object_terms.specs.declared.Rule.TheVariants.{NotMap}
use Rattle.object_terms.specs.declared.ObjectFault.{ObjectFault}
use Rattle.object_terms.specs.Form.{Key, Answer, gives, refused, after, and_then, mapped, closed}
use Rattle.object_terms.specs.Form.{Form, FieldTable, done, next_line, answer_by, map_with}
use Rattle.object_terms.proofs.AnswerLemmas.{ok_same, err_not_ok}

pub refused_not_ok : {A Q : Type 0} (key : Key) (rule : Rule) (y : List Object × A)
    → (let r : Answer A = refused key rule in r) ≡ Ok y → Q
refused_not_ok key rule y e = absurd (err_not_ok (record { field = key; rule = rule }) y e)

-- two readings that gave a value
pub record BothGave (A B : Type 0) (a : Answer A) (f : A → Answer B)
    (y : List Object × B) : Type 0 where
  pub first : List Object × A
  pub second : List Object × B
  pub is_first : a ≡ Ok first
  pub is_second : f first.1 ≡ Ok second
  pub value : second.1 ≡ y.1

pub both_gave : {A B : Type 0} (a : Answer A) (f : A → Answer B) (y : List Object × B)
    → and_then a f ≡ Ok y → BothGave A B a f y
both_gave {A} {B} (Ok p) f y e = by (f p.1) refl e
  where
    by : (r : Answer B) → f p.1 ≡ r → after p.0 r ≡ Ok y → BothGave A B (Ok p) f y
    by (Ok q) g h = record {
      first = p;
      second = q;
      is_first = refl;
      is_second = g;
      value = ap (λ z. z.1) (ok_same (p.0 ++ q.0, q.1) y h);
    }
    by (Err x) g h = absurd (err_not_ok x y h)
both_gave (Err x) f y e = absurd (err_not_ok x y e)

-- each value that a form gives
abbrev pub Reads : {A : Type 0} → Form A → (A → Type 0) → Type 0
Reads {A} f Q = (key : Key) (t : Tree) (y : List Object × A) → f.read key t ≡ Ok y → Q y.1

-- what holds of the value that a table gives, by what each of its lines read
abbrev pub Makes : {A : Type 0} → FieldTable A → Entries → (A → Type 0) → Type 0
Makes (done a) es Q = Q a
Makes (next_line {B = B} r part rest) es Q = (p : List Object × B) → r.read es ≡ Ok p
    → Makes (rest p.1) es Q

pub made : {A : Type 0} (table : FieldTable A) (es : Entries) (Q : A → Type 0) → Makes table es Q
    → (known : List Key) (y : List Object × A) → answer_by table known es ≡ Ok y → Q y.1
made (done a) es Q h known y e =
    let t = both_gave (closed known es) (λ _. gives a) y e in
    subst Q (ap (λ z. z.1) (ok_same ([], a) t.second t.is_second) ∙ t.value) h
made (next_line r part rest) es Q h known y e =
    let t = both_gave (r.read es) (λ b. answer_by (rest b) (known ++ r.keys) es) y e in
    subst Q t.value (made (rest t.first.1) es Q (h t.first t.is_first) (known ++ r.keys)
    t.second t.is_second)

pub map_reads : {A : Type 0} (table : FieldTable A) (Q : A → Type 0)
    → ((es : Entries) → Makes table es Q)
    → Reads (map_with table) Q
map_reads table Q h key (mapping es) y e = made table es Q (h es) [] y e
map_reads table Q h key (sequence ts) y e = refused_not_ok key NotMap y e
map_reads table Q h key (scalar text plain) y e = refused_not_ok key NotMap y e

-- a reading whose value was made another
pub mapped_gave : {A B : Type 0} (Q : A → Type 0) (R : B → Type 0) (f : A → B)
    → ((a : A) → Q a → R (f a)) → (a : Answer A) → ((p : List Object × A) → a ≡ Ok p → Q p.1)
    → (y : List Object × B) → mapped f a ≡ Ok y → R y.1
mapped_gave Q R f h (Ok p) q y e =
    subst R (ap (λ z. z.1) (ok_same (p.0, f p.1) y e)) (h p.1 (q p refl))
mapped_gave Q R f h (Err x) q y e = absurd (err_not_ok x y e)
