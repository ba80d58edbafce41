-- Pairs by the numbers of their names are the pairs that these name.
use Rattle.std.proofs.Common.{◌≡◌, ◌∙◌, ◌+◌, ◌<◌, ◌≤◌, ◌^◌, ◌&&◌, ◌++◌, ◌∷◌, [], ℕ, Bool, false}
use Rattle.std.proofs.Common.{true, nat_eq, List}
use Rattle.std.proofs.Common.{All, length, map, max, take, append-nil, length-append, add-one}
use Rattle.std.proofs.Common.{slice_get, Option, Some, None, refl, ap, sym, subst, arith, inl, inr}
use Rattle.std.specs.Cmp.{IsEquivalence, and_equiv, nat_eq_equiv, on_equiv}
use Rattle.std.specs.Cmp.Lexicographic.{nat_list_eq_equiv}
use Rattle.std.specs.List.{IsDistinct, list_any, position}
use Rattle.std.specs.Prelude.{Result, Ok, Err, IfOk, OnErr, OnOk}
use Rattle.std.specs.Str.{bytes_eq}
use Rattle.std.proofs.lemmas.Bool.Decides.{nat_tests}
use Rattle.std.proofs.lemmas.List.{get_or-take, get_or_append_left, length-take, map_push}
use Rattle.std.proofs.lemmas.List.Elements.{All-nil, All-push, All-take, All-weaker}
use Rattle.std.proofs.lemmas.List.Quantifiers.{position-Some}
use Rattle.std.proofs.lemmas.Map.Keys.{IsDistinct-push}
use Rattle.std.proofs.lemmas.Option.{get_or_from_slice_get}
use Rattle.std.proofs.lemmas.Slice.Eq.{bytes_eq-Decides}
use Rattle.indexmap.proofs.MapLemmas.{distinct-take}
use Rattle.name_numbers.proofs.FirstPlaces.{none-first, position-first}
use Rattle.name_numbers.specs.Names.{IsGrown, name_at}
use Rattle.cell_index.specs.Pairs.{AreNumbersOf, ArePaired, HasNoNumbers, HaveNames, IsLonger}
use Rattle.cell_index.specs.Pairs.{numbers_eq, pair_at, pair_eq, pair_named, pair_of, pairs_with}
use Rattle.cell_index.specs.declared.cell.Cell.{Cell}
use Rattle.cell_index.specs.declared.pairs.Numbers.{Numbers}
use Rattle.cell_index.specs.declared.pairs.Pair.{Pair}
use Rattle.cell_index.proofs.AlikeLemmas.{map-alike, nowhere_at, position-nowhere}
use Rattle.cell_index.proofs.AlikeLemmas.{position-through, same_place}
use Rattle.cell_index.proofs.ChainLemmas.{slice_get-map}
use Rattle.cell_index.proofs.ListLemmas.{map-take, take_at}

pub pair_laws : IsEquivalence pair_eq
pair_laws = and_equiv (on_equiv (λ (p : Pair). p.sli) nat_list_eq_equiv)
    (on_equiv (λ (p : Pair). p.source) nat_list_eq_equiv)

pub numbers_laws : IsEquivalence numbers_eq
numbers_laws = and_equiv (on_equiv (λ (n : Numbers). n.sli) nat_eq_equiv)
    (on_equiv (λ (n : Numbers). n.source) nat_eq_equiv)

-- equal pairs are one
pub pair_same : (a b : Pair) → pair_eq a b ≡ true → a ≡ b
pair_same a b e = by (bytes_eq a.sli b.sli) (bytes_eq a.source b.source) refl refl e
  where
    by : (m n : Bool) → bytes_eq a.sli b.sli ≡ m → bytes_eq a.source b.source ≡ n
        → (m && n) ≡ true → a ≡ b
    by true true m n e =
        let sli = (bytes_eq-Decides a.sli b.sli).0 m in
        let source = (bytes_eq-Decides a.source b.source).0 n in
        λ i. record { sli = sli i; source = source i }
    by true false m n e = cc e
    by false true m n e = cc e
    by false false m n e = cc e

pub numbers_same : (a b : Numbers) → numbers_eq a b ≡ true → a ≡ b
numbers_same a b e = by (nat_eq a.sli b.sli) (nat_eq a.source b.source) refl refl e
  where
    by : (m n : Bool) → nat_eq a.sli b.sli ≡ m → nat_eq a.source b.source ≡ n
        → (m && n) ≡ true → a ≡ b
    by true true m n e =
        let sli : a.sli ≡ b.sli = grind (arith, nat_tests, m) in
        let source : a.source ≡ b.source = grind (arith, nat_tests, n) in
        λ i. record { sli = sli i; source = source i }
    by true false m n e = cc e
    by false c m n e = cc e

-- numbers are those of a cell where they name its pair
same_numbers : (slis sources : List (List ℕ)) (cell : Cell) (numbers other : Numbers)
    → AreNumbersOf slis sources cell numbers → HaveNames (length slis) (length sources) other
    → numbers_eq numbers other ≡ pair_eq (pair_of cell) (pair_named slis sources other)
same_numbers slis sources cell numbers other own have =
    let sli = same_place nat_list_eq_equiv slis [] cell.sli numbers.sli other.sli own.slis_apart
    own.sli have.sli in
    let source = same_place nat_list_eq_equiv sources [] cell.source numbers.source other.source
    own.sources_apart own.source have.source in
    λ i. sli i && source i

-- where a pair stands, by its numbers
pub position-numbers : (slis sources : List (List ℕ)) (cell : Cell) (numbers : Numbers)
    (pairs : List Numbers) → AreNumbersOf slis sources cell numbers →
    All (HaveNames (length slis) (length sources)) pairs →
    position (numbers_eq numbers) pairs
    ≡ position (pair_eq (pair_of cell)) (map (pair_named slis sources) pairs)
position-numbers slis sources cell numbers pairs own named =
    position-through (pair_named slis sources) (numbers_eq numbers) (pair_eq (pair_of cell))
    (HaveNames (length slis) (length sources))
    (λ other have. same_numbers slis sources cell numbers other own have) pairs named

no_pair : (slis sources : List (List ℕ)) (cell : Cell) (other : Numbers)
    → HasNoNumbers slis sources cell → HaveNames (length slis) (length sources) other
    → pair_eq (pair_of cell) (pair_named slis sources other) ≡ false
no_pair slis sources cell other (inl none) have =
    ap (λ (b : Bool). b && bytes_eq cell.source (name_at sources other.source))
    (nowhere_at (bytes_eq cell.sli) slis other.sli [] none have.sli)
no_pair slis sources cell other (inr none) have =
    ap (λ (b : Bool). bytes_eq cell.sli (name_at slis other.sli) && b)
    (nowhere_at (bytes_eq cell.source) sources other.source [] none have.source)
    ∙ by (bytes_eq cell.sli (name_at slis other.sli))
  where
    by : (b : Bool) → (b && false) ≡ false
    by true = refl
    by false = refl

-- a pair one of whose names has no number stands nowhere
pub position-unnamed : (slis sources : List (List ℕ)) (cell : Cell) (pairs : List Numbers)
    → HasNoNumbers slis sources cell → All (HaveNames (length slis) (length sources)) pairs
    → position (pair_eq (pair_of cell)) (map (pair_named slis sources) pairs) ≡ None
position-unnamed slis sources cell pairs none named =
    position-nowhere (pair_named slis sources) (pair_eq (pair_of cell))
    (HaveNames (length slis) (length sources))
    (λ other have. no_pair slis sources cell other none have) pairs named

-- the pair at a place
pub pair-there : (slis sources : List (List ℕ)) (pairs : List Numbers) (place : ℕ)
    (numbers : Numbers) (view : List Pair) → slice_get pairs place ≡ Some numbers →
    map (pair_named slis sources) pairs ≡ view →
    pair_named slis sources numbers ≡ pair_at view place
pair-there slis sources pairs place numbers view there is =
    sym (get_or_from_slice_get (map (pair_named slis sources) pairs) place
    (pair_named slis sources numbers) (record { sli = []; source = [] })
    (slice_get-map (pair_named slis sources) pairs place numbers there))
    ∙ ap (λ pairs. pair_at pairs place) is

-- numbers of a cell have names, and name its pair
pub have_own : (slis sources : List (List ℕ)) (cell : Cell) (numbers : Numbers)
    → AreNumbersOf slis sources cell numbers → HaveNames (length slis) (length sources) numbers
have_own slis sources cell numbers own = record {
  sli = (position-Some (bytes_eq cell.sli) slis numbers.sli [] own.sli).0;
  source = (position-Some (bytes_eq cell.source) sources numbers.source [] own.source).0;
}

named_own : (slis sources : List (List ℕ)) (cell : Cell) (numbers : Numbers)
    → AreNumbersOf slis sources cell numbers → pair_of cell ≡ pair_named slis sources numbers
named_own slis sources cell numbers own =
    let sli = (bytes_eq-Decides cell.sli (name_at slis numbers.sli)).0
    (position-Some (bytes_eq cell.sli) slis numbers.sli [] own.sli).1 in
    let source = (bytes_eq-Decides cell.source (name_at sources numbers.source)).0
    (position-Some (bytes_eq cell.source) sources numbers.source [] own.source).1 in
    λ i. record { sli = sli i; source = source i }

-- names that come later change no pair
name_stays : (names names' : List (List ℕ)) (n : ℕ) → IsGrown names names' → n < length names
    → name_at names' n ≡ name_at names n
name_stays names names' n grown inside =
    ap (λ ns. name_at ns n) grown.grown ∙ get_or_append_left names grown.added [] n inside

still_inside : (names names' : List (List ℕ)) (n : ℕ) → IsGrown names names' → n < length names
    → n < length names'
still_inside names names' n grown inside =
    omega (arith, ap length grown.grown, length-append names grown.added, inside)

pub pairs-grown : (slis slis' sources sources' : List (List ℕ)) (pairs : List Numbers) →
    IsGrown slis slis' → IsGrown sources sources' →
    All (HaveNames (length slis) (length sources)) pairs →
    map (pair_named slis' sources') pairs ≡ map (pair_named slis sources) pairs
pairs-grown slis slis' sources sources' pairs g h named =
    map-alike (pair_named slis' sources') (pair_named slis sources)
    (HaveNames (length slis) (length sources))
    (λ numbers have.
    let sli = name_stays slis slis' numbers.sli g have.sli in
    let source = name_stays sources sources' numbers.source h have.source in
    λ i. record { sli = sli i; source = source i })
    pairs named

pub paired-grown : (slis slis' sources sources' : List (List ℕ)) (pairs : List Numbers) →
    IsGrown slis slis' → IsGrown sources sources' → ArePaired slis sources pairs →
    ArePaired slis' sources' pairs
paired-grown slis slis' sources sources' pairs g h paired = record {
  named = All-weaker (HaveNames (length slis) (length sources))
      (HaveNames (length slis') (length sources'))
      (λ numbers have. record {
        sli = still_inside slis slis' numbers.sli g have.sli;
        source = still_inside sources sources' numbers.source h have.source;
      }) pairs paired.named;
  apart = subst (IsDistinct pair_eq)
      (sym (pairs-grown slis slis' sources sources' pairs g h paired.named)) paired.apart;
  few = paired.few;
}

-- no pairs at all
distinct-none : IsDistinct pair_eq []
unfolding IsDistinct
distinct-none = tt

pub paired-none : (slis sources : List (List ℕ)) (pairs : List Numbers) → pairs ≡ []
    → ArePaired slis sources pairs
paired-none slis sources pairs none = subst (ArePaired slis sources) (sym none) (record {
  named = All-nil (HaveNames (length slis) (length sources));
  apart = distinct-none;
  few = omega arith;
})

-- a pair that may be new
pub paired-with : (slis sources : List (List ℕ)) (pairs : List Numbers) (cell : Cell)
    (numbers : Numbers) (o : Option ℕ) → AreNumbersOf slis sources cell numbers →
    position (numbers_eq numbers) pairs ≡ o → length (pairs_with o pairs numbers) ≤ 2 ^ 32 →
    ArePaired slis sources pairs → ArePaired slis sources (pairs_with o pairs numbers)
paired-with slis sources pairs cell numbers (Some place) own is few paired = paired
paired-with slis sources pairs cell numbers None own is few paired =
    let view = map (pair_named slis sources) pairs in
    let nowhere : position (pair_eq (pair_of cell)) view ≡ None =
    sym (position-numbers slis sources cell numbers pairs own paired.named) ∙ is in
    let absent : list_any (pair_eq (pair_of cell)) view ≡ false =
    none-first (pair_eq (pair_of cell)) view
    (sym (position-first (pair_eq (pair_of cell)) view) ∙ nowhere) in
    record {
      named = All-push (HaveNames (length slis) (length sources)) pairs numbers paired.named
          (have_own slis sources cell numbers own);
      apart = subst (IsDistinct pair_eq) (sym (map_push (pair_named slis sources) pairs numbers))
          (IsDistinct-push pair_laws view (pair_named slis sources numbers) paired.apart
          (subst (λ (p : Pair). list_any (pair_eq p) view ≡ false)
          (named_own slis sources cell numbers own) absent));
      few = few;
    }

pub longer-same : (old new : List Pair) → new ≡ old → IsLonger old new
longer-same old new same = record { added = []; longer = same ∙ sym (append-nil old) }

pub longer-with : (slis sources : List (List ℕ)) (pairs : List Numbers) (numbers : Numbers)
    (o : Option ℕ) (old : List Pair) → map (pair_named slis sources) pairs ≡ old →
    IsLonger old (map (pair_named slis sources) (pairs_with o pairs numbers))
longer-with slis sources pairs numbers (Some place) old is = longer-same old _ is
longer-with slis sources pairs numbers None old is = record {
  added = pair_named slis sources numbers ∷ [];
  longer = map_push (pair_named slis sources) pairs numbers
      ∙ ap (λ pairs. pairs ++ pair_named slis sources numbers ∷ []) is;
}

-- what adding the pair of a cell comes to
pub record IsAdded (slis sources : List (List ℕ)) (pairs : List Numbers) (cell : Cell) (number : ℕ)
    (old : List Pair) : Type 0 where
  pub paired : ArePaired slis sources pairs
  pub longer : IsLonger old (map (pair_named slis sources) pairs)
  pub here : position (pair_eq (pair_of cell)) (map (pair_named slis sources) pairs) ≡ Some number

pub pair-added : (slis slis' sources sources' : List (List ℕ)) (pairs pairs' : List Numbers)
    (cell : Cell) (numbers : Numbers) (number : ℕ) (old : List Pair) →
    IsGrown slis slis' → IsGrown sources sources' → ArePaired slis sources pairs →
    AreNumbersOf slis' sources' cell numbers →
    pairs' ≡ pairs_with (position (numbers_eq numbers) pairs) pairs numbers →
    length pairs' ≤ 2 ^ 32 → position (numbers_eq numbers) pairs' ≡ Some number →
    map (pair_named slis sources) pairs ≡ old → IsAdded slis' sources' pairs' cell number old
pair-added slis slis' sources sources' pairs pairs' cell numbers number old g h paired own is few
    here view =
    let grown = paired-grown slis slis' sources sources' pairs g h paired in
    let o = position (numbers_eq numbers) pairs in
    let whole : ArePaired slis' sources' pairs' =
    subst (ArePaired slis' sources') (sym is)
    (paired-with slis' sources' pairs cell numbers o own refl
    (subst (λ (ns : List Numbers). length ns ≤ 2 ^ 32) is few) grown) in
    record {
      paired = whole;
      longer = subst (λ ns. IsLonger old (map (pair_named slis' sources') ns)) (sym is)
          (longer-with slis' sources' pairs numbers o old
          (pairs-grown slis slis' sources sources' pairs g h paired.named ∙ view));
      here = sym (position-numbers slis' sources' cell numbers pairs' own whole.named) ∙ here;
    }

-- what grown names without a pair more come to
pub record IsRefused (slis sources : List (List ℕ)) (pairs : List Numbers) (old : List Pair)
    : Type 0 where
  pub paired : ArePaired slis sources pairs
  pub longer : IsLonger old (map (pair_named slis sources) pairs)

pub pair-refused : (slis slis' sources sources' : List (List ℕ)) (pairs pairs' : List Numbers)
    (old : List Pair) → IsGrown slis slis' → IsGrown sources sources' →
    ArePaired slis sources pairs → pairs' ≡ pairs → map (pair_named slis sources) pairs ≡ old →
    IsRefused slis' sources' pairs' old
pair-refused slis slis' sources sources' pairs pairs' old g h paired same view =
    subst (λ (ns : List Numbers). IsRefused slis' sources' ns old) (sym same) (record {
      paired = paired-grown slis slis' sources sources' pairs g h paired;
      longer = longer-same old (map (pair_named slis' sources') pairs)
          (pairs-grown slis slis' sources sources' pairs g h paired.named ∙ view);
    })

-- what the try to add the pair of a cell comes to
pub record IsTried {E : Type 0} (slis sources : List (List ℕ)) (pairs : List Numbers) (cell : Cell)
    (result : Result ℕ E) (old : List Pair) : Type 0 where
  pub paired : ArePaired slis sources pairs
  pub longer : IsLonger old (map (pair_named slis sources) pairs)
  pub here : IfOk result (λ number.
      position (pair_eq (pair_of cell)) (map (pair_named slis sources) pairs) ≡ Some number)

pub pair-tried : {E : Type 0} (slis slis' sources sources' : List (List ℕ))
    (pairs pairs' : List Numbers) (cell : Cell) (numbers : Numbers) (old : List Pair)
    (result : Result ℕ E) → IsGrown slis slis' → IsGrown sources sources' →
    ArePaired slis sources pairs → AreNumbersOf slis' sources' cell numbers →
    OnOk result (pairs' ≡ pairs_with (position (numbers_eq numbers) pairs) pairs numbers) →
    OnErr result (pairs' ≡ pairs) → length pairs' ≤ 2 ^ 32 →
    IfOk result (λ number. position (numbers_eq numbers) pairs' ≡ Some number) →
    map (pair_named slis sources) pairs ≡ old → IsTried slis' sources' pairs' cell result old
pair-tried slis slis' sources sources' pairs pairs' cell numbers old (Ok number) g h paired own ok
    err few here view =
    let added = pair-added slis slis' sources sources' pairs pairs' cell numbers number old g h
    paired own ok few here view in
    record { paired = added.paired; longer = added.longer; here = added.here }
pair-tried slis slis' sources sources' pairs pairs' cell numbers old (Err refused) g h paired own ok
    err few here view =
    let same = pair-refused slis slis' sources sources' pairs pairs' old g h paired err view in
    record { paired = same.paired; longer = same.longer; here = tt }

-- names from a number on are forgotten that no pair has
pub pairs-cut : (slis sources : List (List ℕ)) (few some : ℕ) (pairs : List Numbers) →
    All (HaveNames few some) pairs →
    map (pair_named (take few slis) (take some sources)) pairs
    ≡ map (pair_named slis sources) pairs
pairs-cut slis sources few some pairs all =
    map-alike (pair_named (take few slis) (take some sources)) (pair_named slis sources)
    (HaveNames few some)
    (λ numbers have.
    let sli = get_or-take few slis numbers.sli [] have.sli in
    let source = get_or-take some sources numbers.source [] have.source in
    λ i. record { sli = sli i; source = source i })
    pairs all

-- so the first pairs are as they were
pub view-cut : (slis sources : List (List ℕ)) (few some : ℕ) (pairs : List Numbers) (count : ℕ)
    (view : List Pair) → map (pair_named slis sources) pairs ≡ view →
    All (HaveNames few some) (take count pairs) →
    map (pair_named (take few slis) (take some sources)) (take count pairs) ≡ take count view
view-cut slis sources few some pairs count view is all =
    pairs-cut slis sources few some (take count pairs) all
    ∙ map-take (pair_named slis sources) count pairs ∙ ap (take count) is

pub paired-cut : (slis sources : List (List ℕ)) (few some : ℕ) (pairs : List Numbers) (count : ℕ) →
    All (HaveNames few some) (take count pairs) → ArePaired slis sources pairs →
    ArePaired (take few slis) (take some sources) (take count pairs)
paired-cut slis sources few some pairs count all paired =
    let named = All-take (HaveNames (length slis) (length sources)) count pairs paired.named in
    record {
      named = λ k d inside.
          let new = all k d inside in
          let old = named k d inside in
          record {
            sli = omega (arith, new.sli, old.sli, length-take few slis);
            source = omega (arith, new.source, old.source, length-take some sources);
          };
      apart = subst (IsDistinct pair_eq)
          (sym (view-cut slis sources few some pairs count _ refl all))
          (distinct-take pair_laws count (map (pair_named slis sources) pairs) paired.apart);
      few = omega (arith, paired.few, length-take count pairs);
    }

-- what forgetting pairs from a number on comes to
pub record IsCut (slis sources : List (List ℕ)) (pairs : List Numbers) (count : ℕ)
    (old : List Pair) : Type 0 where
  pub paired : ArePaired slis sources pairs
  pub view : map (pair_named slis sources) pairs ≡ take count old

-- the same as the code does it: the names that the pairs have are read from those that stay
pub cut-after : (slis sources slis' sources' : List (List ℕ)) (few some : ℕ)
    (pairs pairs' read : List Numbers) (count : ℕ) (old : List Pair) →
    slis' ≡ take few slis → sources' ≡ take some sources → pairs' ≡ take count pairs →
    read ≡ pairs' → All (HaveNames few some) read → ArePaired slis sources pairs →
    map (pair_named slis sources) pairs ≡ old → IsCut slis' sources' pairs' count old
cut-after slis sources slis' sources' few some pairs pairs' read count old e f g r all paired is =
    let kept : All (HaveNames few some) (take count pairs) =
    subst (All (HaveNames few some)) (r ∙ g) all in
    subst (λ (names : List (List ℕ)). IsCut names sources' pairs' count old) (sym e)
    (subst (λ (names : List (List ℕ)). IsCut (take few slis) names pairs' count old) (sym f)
    (subst (λ (ns : List Numbers). IsCut (take few slis) (take some sources) ns count old) (sym g)
    (record {
      paired = paired-cut slis sources few some pairs count kept paired;
      view = view-cut slis sources few some pairs count old is kept;
    })))

-- the names of one pair more
pub names-next : (slis sources : ℕ) (pairs : List Numbers) (numbers : Numbers) (place : ℕ) →
    slice_get pairs place ≡ Some numbers → All (HaveNames slis sources) (take place pairs) →
    All (HaveNames (max slis (numbers.sli + 1)) (max sources (numbers.source + 1)))
    (take (place + 1) pairs)
names-next slis sources pairs numbers place there all =
    let more = HaveNames (max slis (numbers.sli + 1)) (max sources (numbers.source + 1)) in
    subst (All more)
    (sym (ap (λ k. take k pairs) (add-one place) ∙ take_at pairs place numbers there))
    (All-push more (take place pairs) numbers
    (All-weaker (HaveNames slis sources) more
    (λ n have. record { sli = omega (arith, have.sli); source = omega (arith, have.source) })
    (take place pairs) all)
    (record { sli = omega arith; source = omega arith }))
