-- What was read is read again from what it is written as: one of two fields, fields that bar
-- others, and conditions.
use Rattle.std.proofs.Common.{◌≡◌, Bool, true, false, List, [], ◌∷◌, Option, Some, None, Ok, cond}
use Rattle.std.proofs.Common.{refl, sym, ap, ◌∙◌, subst}
use Rattle.std.specs.Prelude.{◌&&◌, ◌||◌, not, is_none}
use Rattle.std.specs.Str.{bytes_eq}
use Rattle.std.specs.List.{AllByRecursion}
use Rattle.std.proofs.lemmas.Bool.{false≢true}
use Rattle.yaml_terms.specs.Tree.{Tree, Entries, no_entries, entry}
use Rattle.yaml_terms.specs.Spelling.{Fields, meant, entries_meant}
use Rattle.object_terms.specs.declared.object.Object.{Object}
use Rattle.object_terms.specs.declared.fault.Rule.{Rule}
use Rattle.object_terms.specs.declared.fault.Rule.TheVariants.{Both, Neither}
use Rattle.object_terms.specs.Form.{Key, Answer, gives, refused, mapped, is_among, is_null}
use Rattle.object_terms.specs.Form.{field_of, Form, own, has_one_of, alone_field, optional_alone}
use Rattle.object_terms.specs.Form.{either_field, one_of, holding}
use Rattle.object_laws.proofs.LawFields.{bytes_same, and_left, and_right, and_both, or_left}
use Rattle.object_laws.proofs.LawFields.{or_right, or_either, false_if, joined, lacks, lacks_all}
use Rattle.object_laws.proofs.LawFields.{lacks_all_from, within, lacks-joined, nothing_found, found}
use Rattle.object_laws.proofs.LawFields.{field_shown}
use Rattle.object_terms.proofs.AnswerLemmas.{ok_same}
use Rattle.object_laws.proofs.LawFieldTables.{LineLaw, Back, FormLaw}
use Rattle.object_laws.proofs.LawLines.{MappedOk, mapped_ok, field_piece, is_field_piece}
use Rattle.object_laws.proofs.LawLines.{field_within, none_given, refused_not_ok, self_among}

-- FIELDS THAT BAR OTHERS

pub lacks_all_at : (ks : List Key) (es : Entries) (k : Key) → lacks_all ks es ≡ true
    → is_among ks k ≡ true → lacks k es ≡ true
lacks_all_at [] es k l e = absurd (false≢true e)
lacks_all_at (j ∷ ks) es k l e = or_either (bytes_eq j k) (is_among ks k) e
    (λ f. subst (λ i. lacks i es ≡ true) (bytes_same j k f)
    (and_left (lacks j es) (lacks_all ks es) l))
    (λ f. lacks_all_at ks es k (and_right (lacks j es) (lacks_all ks es) l) f)

pub none_of : (ks : List Key) (es : Entries) → lacks_all ks es ≡ true → has_one_of ks es ≡ false
none_of [] es l = refl
none_of (k ∷ ks) es l = ap (λ o. not (is_none o) || has_one_of ks es)
    (nothing_found k es (and_left (lacks k es) (lacks_all ks es) l))
    ∙ none_of ks es (and_right (lacks k es) (lacks_all ks es) l)

pub not_same : (ks : List Key) (key k : Key) → is_among ks key ≡ false → is_among ks k ≡ true
    → bytes_eq key k ≡ false
not_same ks key k e f = false_if (bytes_eq key k)
    (λ g. false≢true (sym e ∙ subst (λ i. is_among ks i ≡ true) (sym (bytes_same key k g)) f))

pub single_lacks : (key k : Key) (t : Tree) → bytes_eq key k ≡ false
    → lacks k (entry key t no_entries) ≡ true
single_lacks key k t e = ap (λ b. not b && true) e

abbrev pub alone_asks : {A : Type 0} → Key → List Key → Option A → List Key
alone_asks key others None = key ∷ []
alone_asks key others (Some a) = key ∷ others

pub alone_within : {A : Type 0} (f : Form A) (key : Key) (others : List Key) (a : Option A)
    → within (alone_asks key others a) (field_piece f key a) ≡ true
alone_within f key others None = refl
alone_within f key others (Some a) = field_within f key others (Some a)

pub alone_covers : {A : Type 0} (key : Key) (others : List Key) (a : Option A) (k : Key)
    → is_among (key ∷ []) k ≡ true → is_among (alone_asks key others a) k ≡ true
alone_covers key others None k e = e
alone_covers key others (Some a) k e = or_either (bytes_eq key k) false e
    (λ f. or_left (bytes_eq key k) (is_among others k) f) (λ f. absurd (false≢true f))

-- a field beside which none of the others may stand
abbrev pub alone_law : {A : Type 0} (P : Object → Type 0)
    (key : Key) (others : List Key) (f : Form A) → is_among others key ≡ false → FormLaw P f
    → LineLaw P (Option A) (optional_alone key others f)
alone_law {A} P key others f n law = record {
  asks = alone_asks key others;
  piece = field_piece f key;
  is_piece = is_field_piece f key;
  of_keys = field_within f key [];
  of_asks = alone_within f key others;
  covers = alone_covers key others;
  again = λ es y e front tail lf lt.
      again es y (has_one_of others es) (field_of key es) refl e front tail lf lt;
  taken = λ es y e. taken es y (has_one_of others es) (field_of key es) refl e;
}
  where
    read : Entries → Answer (Option A)
    read es = alone_field (has_one_of others es) f key (field_of key es)

    there : (es : Entries) (y : List Object × Option A) (t : Tree) → field_of key es ≡ Some t
        → MappedOk A (Option A) Some (f.read key t) y → (front tail : Entries)
        → lacks_all (alone_asks key others y.1) front ≡ true
        → lacks_all (alone_asks key others y.1) tail ≡ true
        → (let fs = joined front (joined (field_piece f key y.1) tail) in
        alone_field (has_one_of others fs) f key (field_of key fs)) ≡ gives y.1
    there es y t g m front tail lf lt =
        let back = law key t m.first (field_shown key es t g) m.is_first in
        let u = meant (f.write m.first.1) in
        let e : y.1 ≡ Some m.first.1 = ap (λ z. z.1) m.value in
        let kf : lacks_all (key ∷ others) front ≡ true =
        subst (λ z. lacks_all (alone_asks key others z) front ≡ true) e lf in
        let kt : lacks_all (key ∷ others) tail ≡ true =
        subst (λ z. lacks_all (alone_asks key others z) tail ≡ true) e lt in
        let fs = joined front (entry key u tail) in
        let no_other : has_one_of others fs ≡ false =
        none_of others fs (lacks_all_from others fs (λ k i.
        lacks-joined k front (entry key u tail) (lacks_all_at (key ∷ others) front k kf
        (or_right (bytes_eq key k) (is_among others k) i))
        (lacks-joined k (entry key u no_entries) tail
        (single_lacks key k u (not_same others key k n i)) (lacks_all_at (key ∷ others) tail k
        kt (or_right (bytes_eq key k) (is_among others k) i))))) in
        subst (λ z. (let fs = joined front (joined (field_piece f key z) tail) in
        alone_field (has_one_of others fs) f key (field_of key fs)) ≡ gives z) (sym e)
        (ap (λ o. alone_field (has_one_of others fs) f key o) (found key u front tail
        (and_left (lacks key front) (lacks_all others front) kf) back.shown)
        ∙ ap (λ b. cond b (refused key Both) (mapped Some (f.read key u))) no_other
        ∙ ap (mapped Some) (back.again key))

    again : (es : Entries) (y : List Object × Option A) (b : Bool) (o : Option Tree)
        → field_of key es ≡ o → alone_field b f key o ≡ Ok y → (front tail : Entries)
        → lacks_all (alone_asks key others y.1) front ≡ true
        → lacks_all (alone_asks key others y.1) tail ≡ true
        → (let fs = joined front (joined (field_piece f key y.1) tail) in
        alone_field (has_one_of others fs) f key (field_of key fs)) ≡ gives y.1
    again es y b None g e front tail lf lt = let n = none_given y e in
        let v : y.1 ≡ None = ap (λ z. z.1) n in
        let kf : lacks_all (key ∷ []) front ≡ true =
        subst (λ z. lacks_all (alone_asks key others z) front ≡ true) v lf in
        let kt : lacks_all (key ∷ []) tail ≡ true =
        subst (λ z. lacks_all (alone_asks key others z) tail ≡ true) v lt in
        subst (λ z. (let fs = joined front (joined (field_piece f key z) tail) in
        alone_field (has_one_of others fs) f key (field_of key fs)) ≡ gives z) (sym v)
        (ap (λ o. alone_field (has_one_of others (joined front tail)) f key o)
        (nothing_found key (joined front tail) (lacks-joined key front tail
        (and_left (lacks key front) true kf) (and_left (lacks key tail) true kt))))
    again es y true (Some t) g e front tail lf lt = refused_not_ok key Both y e
    again es y false (Some t) g e front tail lf lt =
        there es y t g (mapped_ok Some (f.read key t) y e) front tail lf lt

    taken_there : (es : Entries) (y : List Object × Option A) (t : Tree) → field_of key es ≡ Some t
        → MappedOk A (Option A) Some (f.read key t) y → AllByRecursion P y.0
    taken_there es y t g m = subst (AllByRecursion P) (sym (ap (λ z. z.0) m.value))
        (law key t m.first (field_shown key es t g) m.is_first).taken

    taken : (es : Entries) (y : List Object × Option A) (b : Bool) (o : Option Tree)
        → field_of key es ≡ o → alone_field b f key o ≡ Ok y → AllByRecursion P y.0
    taken es y b None g e = subst (AllByRecursion P) (sym (ap (λ z. z.0) (none_given y e))) tt
    taken es y true (Some t) g e = refused_not_ok key Both y e
    taken es y false (Some t) g e = taken_there es y t g (mapped_ok Some (f.read key t) y e)

-- ONE OF TWO FIELDS

-- what was read under one of the keys is read again under the key that it is written under
pub record EitherBack (P : Object → Type 0) (A : Type 0) (f : Form A) (g : Form A)
    (is_first : A → Bool) (t : Tree) (y : List Object × A) : Type 0 where
  pub first : is_first y.1 ≡ true → Back P A f t y
  pub second : is_first y.1 ≡ false → Back P A g t y
  pub both_taken : AllByRecursion P y.0

abbrev pub EitherLaw : (P : Object → Type 0) → {A : Type 0} → Form A → Form A → Form A
    → (A → Bool) → Type 0
EitherLaw P {A} h f g is_first = (key : Key) (t : Tree) (y : List Object × A) → is_null t ≡ false
    → h.read key t ≡ Ok y → EitherBack P A f g is_first t y

abbrev pub either_piece : {A : Type 0} → Key → Form A → Key → Form A → (A → Bool) → A → Entries
either_piece key f other g is_first a = cond (is_first a) (entry key (meant (f.write a)) no_entries)
    (entry other (meant (g.write a)) no_entries)

abbrev pub one_of_law : {A : Type 0} (P : Object → Type 0) (key : Key) (f : Form A) (other : Key)
    (g : Form A) (is_first : A → Bool) → bytes_eq key other ≡ false → bytes_eq other key ≡ false
    → EitherLaw P f f g is_first → EitherLaw P g f g is_first
    → LineLaw P A (one_of key f other g is_first)
one_of_law {A} P key f other g is_first n m flaw glaw = record {
  asks = λ _. key ∷ other ∷ [];
  piece = either_piece key f other g is_first;
  is_piece = λ a behind. is_piece (is_first a) a behind;
  of_keys = λ a. of_keys (is_first a) a;
  of_asks = λ a. of_keys (is_first a) a;
  covers = λ b k e. e;
  again = λ es y e front tail lf lt.
      again es y (field_of key es) (field_of other es) refl refl e front tail lf lt;
  taken = λ es y e. taken es y (field_of key es) (field_of other es) refl refl e;
}
  where
    is_piece : (b : Bool) (a : A) (behind : Fields)
        → entries_meant (cond b (own key (f.write a) behind) (own other (g.write a) behind))
        ≡ joined (cond b (entry key (meant (f.write a)) no_entries)
        (entry other (meant (g.write a)) no_entries)) (entries_meant behind)
    is_piece true a behind = refl
    is_piece false a behind = refl

    of_keys : (b : Bool) (a : A)
        → within (key ∷ other ∷ []) (cond b (entry key (meant (f.write a)) no_entries)
        (entry other (meant (g.write a)) no_entries)) ≡ true
    of_keys true a =
        and_both (is_among (key ∷ other ∷ []) key) true (self_among key (other ∷ [])) refl
    of_keys false a = and_both (is_among (key ∷ other ∷ []) other) true
        (or_right (bytes_eq key other) (is_among (other ∷ []) other) (self_among other [])) refl

    -- where the written field is found, and the other isn't
    written : (t : Tree) (y : List Object × A) → EitherBack P A f g is_first t y
        → (front tail : Entries) → lacks_all (key ∷ other ∷ []) front ≡ true
        → lacks_all (key ∷ other ∷ []) tail ≡ true → (b : Bool) → is_first y.1 ≡ b
        → (let fs = joined front (joined (cond b (entry key (meant (f.write y.1)) no_entries)
        (entry other (meant (g.write y.1)) no_entries)) tail) in
        either_field f key g other (field_of key fs) (field_of other fs)) ≡ gives y.1
    written t y back front tail lf lt true e =
        let h = back.first e in
        let u = meant (f.write y.1) in
        let kf = and_left (lacks key front) (lacks_all (other ∷ []) front) lf in
        let of = and_left (lacks other front) true
        (and_right (lacks key front) (lacks_all (other ∷ []) front) lf) in
        let ot = and_left (lacks other tail) true
        (and_right (lacks key tail) (lacks_all (other ∷ []) tail) lt) in
        ap (λ o. either_field f key g other o (field_of other (joined front (entry key u tail))))
        (found key u front tail kf h.shown)
        ∙ ap (either_field f key g other (Some u)) (nothing_found
        other (joined front (entry key u tail)) (lacks-joined other front (entry key u tail) of
        (lacks-joined other (entry key u no_entries) tail (single_lacks key other u n) ot)))
        ∙ h.again key
    written t y back front tail lf lt false e =
        let h = back.second e in
        let u = meant (g.write y.1) in
        let kf = and_left (lacks key front) (lacks_all (other ∷ []) front) lf in
        let of = and_left (lacks other front) true
        (and_right (lacks key front) (lacks_all (other ∷ []) front) lf) in
        let kt = and_left (lacks key tail) (lacks_all (other ∷ []) tail) lt in
        ap (λ o. either_field f key g other (field_of key (joined front (entry other u tail))) o)
        (found other u front tail of h.shown)
        ∙ ap (λ o. either_field f key g other o (Some u)) (nothing_found
        key (joined front (entry other u tail)) (lacks-joined key front (entry other u tail) kf
        (lacks-joined key (entry other u no_entries) tail (single_lacks other key u m) kt)))
        ∙ h.again other

    again : (es : Entries) (y : List Object × A) (o p : Option Tree) → field_of key es ≡ o
        → field_of other es ≡ p → either_field f key g other o p ≡ Ok y → (front tail : Entries)
        → lacks_all (key ∷ other ∷ []) front ≡ true → lacks_all (key ∷ other ∷ []) tail ≡ true
        → (let fs = joined front (joined (either_piece key f other g is_first y.1) tail) in
        either_field f key g other (field_of key fs) (field_of other fs)) ≡ gives y.1
    again es y None None i j e front tail lf lt = refused_not_ok key Neither y e
    again es y (Some t) None i j e front tail lf lt =
        written t y (flaw key t y (field_shown key es t i) e) front tail lf lt (is_first y.1) refl
    again es y None (Some t) i j e front tail lf lt = written t y
        (glaw other t y (field_shown other es t j) e) front tail lf lt (is_first y.1) refl
    again es y (Some t) (Some u) i j e front tail lf lt = refused_not_ok key Both y e

    taken : (es : Entries) (y : List Object × A) (o p : Option Tree) → field_of key es ≡ o
        → field_of other es ≡ p → either_field f key g other o p ≡ Ok y → AllByRecursion P y.0
    taken es y None None i j e = refused_not_ok key Neither y e
    taken es y (Some t) None i j e = (flaw key t y (field_shown key es t i) e).both_taken
    taken es y None (Some t) i j e = (glaw other t y (field_shown other es t j) e).both_taken
    taken es y (Some t) (Some u) i j e = refused_not_ok key Both y e

-- CONDITIONS

abbrev pub holding_law : (P : Object → Type 0) (holds : Bool) (key : Key) (rule : Rule)
    → LineLaw P (Unit {0}) (holding holds key rule)
holding_law P holds key rule = record {
  asks = λ _. [];
  piece = λ _. no_entries;
  is_piece = λ _ behind. refl;
  of_keys = λ _. refl;
  of_asks = λ _. refl;
  covers = λ b k e. e;
  again = λ es y e front tail lf lt. again holds y e;
  taken = λ es y e. taken holds y e;
}
  where
    again : (b : Bool) (y : List Object × Unit {0}) → cond b (gives tt) (refused key rule) ≡ Ok y
        → cond b (gives tt) (refused key rule) ≡ gives y.1
    again true y e = refl
    again false y e = refused_not_ok key rule y e

    taken : (b : Bool) (y : List Object × Unit {0}) → cond b (gives tt) (refused key rule) ≡ Ok y
        → AllByRecursion P y.0
    taken true y e = subst (AllByRecursion P) (ap (λ z. z.0) (ok_same ([], tt) y e)) tt
    taken false y e = refused_not_ok key rule y e
