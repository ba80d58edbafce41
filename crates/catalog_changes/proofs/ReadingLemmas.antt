-- The rows' indicators keep their readings: where objects are defined that read none of them
-- otherwise, and where another object is removed.
use Rattle.std.proofs.Common.{◌≡◌, ℕ, zero, suc, ◌<◌, Bool, true, false, not, cond, List, [], ◌∷◌}
use Rattle.std.proofs.Common.{Option, Some, None, length, slice_index_or, bytes_eq, refl, sym, ap}
use Rattle.std.proofs.Common.{◌∙◌, subst, arith}
use Rattle.std.specs.List.{All, AllByRecursion, find}
use Rattle.std.specs.Option.{option_or}
use Rattle.std.specs.Prelude.{option_map, option_and_then}
use Rattle.std.proofs.lemmas.Slice.Eq.{bytes_eq-Decides}
use Rattle.slice_method.specs.declared.Reading.{Reading}
use Rattle.slice_method.specs.declared.Reading.TheVariants.{Good, Bad, Threshold, RawSuccess}
use Rattle.slice_method.specs.declared.Reading.TheVariants.{RawFailure}
use Rattle.sample_book.specs.declared.Row.{Row}
use Rattle.sample_book.specs.Counting.{is_of, first_of}
use Rattle.object_terms.specs.declared.kind.Kind.{Kind}
use Rattle.object_terms.specs.declared.kind.Kind.TheVariants as kinds
use Rattle.object_terms.specs.declared.Body.{Body}
use Rattle.object_terms.specs.declared.Body.TheVariants as bodies
use Rattle.object_terms.specs.declared.Object.{Object}
use Rattle.object_terms.specs.declared.Sli.{Sli}
use Rattle.object_terms.specs.Sli.{sli_in}
use Rattle.catalog_terms.specs.Keys.{is_key, member_of}
use Rattle.catalog_terms.specs.Catalog.{with_member, with_members, without}
use Rattle.catalog_terms.specs.NeedsOp.{sli_named}
use Rattle.office_history.specs.Readings.{reading_of, same_reading, is_other_reading, row_read_anew}
use Rattle.office_history.specs.Readings.{first_read_anew}
use Rattle.office_history.specs.Objectives.{reading_named}
use Rattle.office_derived.specs.Derived.{RowIsRead}
use Rattle.object_laws.specs.Kinds.{kind_of}
use Rattle.catalog_changes.specs.Kinds.{HasKind}
use Rattle.slo_catalog.proofs.KeyLemmas.{key_parts}
use Rattle.slo_catalog.proofs.FindLemmas.{find_put}
use Rattle.slo_catalog.proofs.WholeLemmas.{kept_apart}

-- the reading of an object that was found
reading_found : Option Object → Option Reading
reading_found found = option_map (λ (s : Sli). reading_of s.metric)
    (option_and_then (λ (o : Object). sli_in o.body) found)

-- the body of an indicator is one
sli_of : (b : Body) → kind_of b ≡ kinds.Sli → (sli : Sli) × (b ≡ bodies.Sli sli)
sli_of (bodies.Sli sli) e = (sli, refl)
sli_of (bodies.DataSource _) e = cc e
sli_of (bodies.Service _) e = cc e
sli_of (bodies.Slo _) e = cc e
sli_of (bodies.AlertPolicy _) e = cc e
sli_of (bodies.AlertCondition _) e = cc e
sli_of (bodies.AlertNotificationTarget _) e = cc e

one_reading : (a b : Reading) → not (same_reading a b) ≡ false → a ≡ b
one_reading Good Good h = refl
one_reading Bad Bad h = refl
one_reading Threshold Threshold h = refl
one_reading RawSuccess RawSuccess h = refl
one_reading RawFailure RawFailure h = refl
one_reading _ _ h = cc h

-- an indicator that isn't read otherwise than the member has the member's reading
not_other : (reading r : Reading) (m : Option Sli) → is_other_reading reading m ≡ false
    → option_map (λ (s : Sli). reading_of s.metric) m ≡ Some r → reading ≡ r
not_other reading r None h k = cc k
not_other reading r (Some m) h k = let member : reading_of m.metric ≡ r = cc k in
    one_reading reading (reading_of m.metric) h ∙ member

untested : (b : Bool) (row : Row) → cond b (Some row) None ≡ None → b ≡ false
untested true row h = cc h
untested false row h = refl

-- an object that is the indicator of these rows has their reading
new_reading : (known : List Object) (rows : List Row) (sli : List ℕ) (row : Row) (r : Reading)
    (o : Object) → first_of rows sli ≡ Some row → reading_named known sli ≡ Some r →
    HasKind o → row_read_anew known rows o.name (sli_in o.body) ≡ None →
    is_key kinds.Sli sli o ≡ true → reading_found (Some o) ≡ Some r
unfolding reading_found
new_reading known rows sli row r o first reading body anew key =
    let parts = key_parts kinds.Sli sli o key in
    let b = sli_of o.body (body ∙ parts.0) in
    let s : Sli = b.0 in
    let is : sli_in o.body ≡ Some s = ap sli_in b.1 in
    let here : row_read_anew known rows sli (Some s) ≡ None =
    sym (λ i. row_read_anew known rows (parts.1 i) (is i)) ∙ anew in
    let there : cond (is_other_reading (reading_of s.metric) (sli_named known sli)) (Some row) None
    ≡ None =
    sym (ap (λ (f : Option Row).
    cond (is_other_reading (reading_of s.metric) (sli_named known sli)) f None) first) ∙ here in
    let same = not_other (reading_of s.metric) r (sli_named known sli) (untested
    (is_other_reading (reading_of s.metric) (sli_named known sli)) row there) reading in
    ap (option_map (λ (s : Sli). reading_of s.metric)) is ∙ ap Some same

put_reading : (known : List Object) (rows : List Row) (sli : List ℕ) (row : Row)
    (r : Reading) (o : Object) (os : List Object) → first_of rows sli ≡ Some row →
    reading_named known sli ≡ Some r →
    HasKind o → row_read_anew known rows o.name (sli_in o.body) ≡ None →
    reading_named os sli ≡ Some r → reading_named (with_member o os) sli ≡ Some r
unfolding reading_found
put_reading known rows sli row r o os first reading body anew before =
    ap reading_found (find_put o os kinds.Sli sli) ∙ by (is_key kinds.Sli sli o) refl
  where
    by : (b : Bool) → is_key kinds.Sli sli o ≡ b
        → reading_found (cond b (Some o) (member_of os kinds.Sli sli)) ≡ Some r
    by true e = new_reading known rows sli row r o first reading body anew e
    by false e = before

neither : {A : Type 0} (a b : Option A) → option_or a b ≡ None → (a ≡ None) × (b ≡ None)
neither None b h = (refl, h)
neither (Some x) b h = cc h

-- objects that read no indicator with samples otherwise leave its reading
put_readings : (known : List Object) (rows : List Row) (sli : List ℕ) (row : Row) (r : Reading)
    (objects os : List Object) → first_of rows sli ≡ Some row → reading_named known sli ≡ Some r →
    AllByRecursion HasKind objects → first_read_anew known rows objects ≡ None →
    reading_named os sli ≡ Some r → reading_named (with_members objects os) sli ≡ Some r
put_readings known rows sli row r [] os first reading bodies anew before = before
put_readings known rows sli row r (o ∷ rest) os first reading bodies anew before =
    let n = neither (row_read_anew known rows o.name (sli_in o.body))
    (first_read_anew known rows rest) anew in
    put_readings known rows sli row r rest (with_member o os) first reading bodies.1 n.1
    (put_reading known rows sli row r o os first reading bodies.0 n.0 before)

-- an indicator that has a row has a first one
pub record HasFirst (rows : List Row) (sli : List ℕ) : Type 0 where
  pub row : Row
  pub is : first_of rows sli ≡ Some row

bytes_itself : (xs : List ℕ) → bytes_eq xs xs ≡ true
bytes_itself xs = (bytes_eq-Decides xs xs).1 refl

pub has_first : (rows : List Row) (k : ℕ) (d : Row) → k < length rows
    → HasFirst rows (slice_index_or rows k d).sli
has_first [] k d below = absurd (omega arith)
has_first (x ∷ xs) zero d below = record {
  row = x;
  is = ap (λ b. cond b (Some x) (find (is_of x.sli) xs)) (bytes_itself x.sli);
}
has_first (x ∷ xs) (suc k) d below =
    by (is_of (slice_index_or xs k d).sli x) refl (has_first xs k d (omega arith))
  where
    by : (b : Bool) → is_of (slice_index_or xs k d).sli x ≡ b
        → HasFirst xs (slice_index_or xs k d).sli → HasFirst (x ∷ xs) (slice_index_or xs k d).sli
    by true e h = record {
      row = x;
      is = ap (λ b. cond b (Some x) (find (is_of (slice_index_or xs k d).sli) xs)) e;
    }
    by false e h = record {
      row = h.row;
      is = ap (λ b. cond b (Some x) (find (is_of (slice_index_or xs k d).sli) xs)) e ∙ h.is;
    }

-- each row is read as before, where its indicator has the reading that it had
pub still_read : (old new : List Object) (rows : List Row) → All (RowIsRead old) rows →
    ((sli : List ℕ) (r : Reading) → HasFirst rows sli → reading_named old sli ≡ Some r
    → reading_named new sli ≡ Some r) → All (RowIsRead new) rows
still_read old new rows read keeps k d below =
    let h = read k d below in
    (h.0, keeps (slice_index_or rows k d).sli h.0 (has_first rows k d below) h.1, h.2, h.3)

pub define_read : (old : List Object) (rows : List Row) (objects : List Object) →
    All (RowIsRead old) rows →
    AllByRecursion HasKind objects → first_read_anew old rows objects ≡ None →
    All (RowIsRead (with_members objects old)) rows
define_read old rows objects read bodies anew =
    still_read old (with_members objects old) rows read (λ sli r first reading.
    put_readings old rows sli first.row r objects old first.is reading bodies anew reading)

apart_keys : (kind : Kind) (name sli : List ℕ) → (kind ≡ kinds.Sli → name ≡ sli → ⊥) → (o : Object)
    → is_key kind name o ≡ true → is_key kinds.Sli sli o ≡ false
apart_keys kind name sli other o key = by (is_key kinds.Sli sli o) refl
  where
    by : (b : Bool) → is_key kinds.Sli sli o ≡ b → b ≡ false
    by false e = refl
    by true e =
        let removed = key_parts kind name o key in
        let read = key_parts kinds.Sli sli o e in
        absurd (other (sym removed.0 ∙ read.0) (sym removed.1 ∙ read.1))

pub remove_read : (old : List Object) (rows : List Row) (kind : Kind) (name : List ℕ) →
    All (RowIsRead old) rows →
    (kind ≡ kinds.Sli → first_of rows name ≡ None) → All (RowIsRead (without kind name old)) rows
unfolding reading_found
remove_read old rows kind name read none =
    still_read old (without kind name old) rows read
    (λ sli r first reading. ap reading_found (kept_apart old kind name kinds.Sli sli
    (apart_keys kind name sli (λ is same. absurd_first sli first (none is) same))) ∙ reading)
  where
    absurd_first : (sli : List ℕ) → HasFirst rows sli → first_of rows name ≡ None → name ≡ sli → ⊥
    absurd_first sli first none same = let here : first_of rows sli ≡ None =
        ap (first_of rows) (sym same) ∙ none in let there = first.is in cc (here, there)
