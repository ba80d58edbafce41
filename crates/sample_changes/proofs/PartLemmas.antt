-- Objectives of an SLO get sums of their own.
use Rattle.std.proofs.Common.{◌≡◌, ◌∙◌, ◌≤◌, ◌++◌, ◌∷◌, [], ℕ, Bool, Err, List, Ok, OnOk}
use Rattle.std.proofs.Common.{Result, ap, arith, false, inl, inr, map, refl, subst, sym, true}
use Rattle.std.specs.List.{AllByRecursion, Contains}
use Rattle.std.proofs.lemmas.List.{map-append}
use Rattle.std.proofs.lemmas.List.Elements.{All-contains, All-from_recursion}
use Rattle.std.proofs.lemmas.List.Elements.{Contains-append_left, Contains-push}
use Rattle.sample_book.specs.Book.{Book}
use Rattle.sample_book.specs.declared.Exclusion.{Exclusion}
use Rattle.sample_book.specs.declared.Row.{Row}
use Rattle.object_terms.specs.declared.Object.{Object}
use Rattle.office_history.specs.declared.Measure.{Measure}
use Rattle.office_history.specs.Objectives.{measures_named}
use Rattle.kept_sums.specs.Objectives.{AreKept, HasSums, HaveOwn, IsLike, IsObjective, KeepsSums}
use Rattle.kept_sums.specs.Objectives.{KeptObjectives, counted, key_by, keys_by, pooled}
use Rattle.kept_sums.specs.Sums.{SumsAreKept}
use Rattle.kept_sums.specs.declared.ObjectiveSums.{ObjectiveSums}
use Rattle.kept_sums.proofs.ListLemmas.{all_push}
use Rattle.kept_sums.proofs.ObjectiveLemmas.{objective_among}
use Rattle.office_derived.specs.declared.Derived.{Derived}
use Rattle.office_derived.specs.declared.Work.TheVariants as works
use Rattle.office_derived.specs.Derived.{HasRoom, Stays}

-- sums that are added leave the keys that were there, and theirs is there
module _ (old new : List ObjectiveSums) (k : ObjectiveSums) (e : new ≡ old ++ k ∷ []) where
  keys : keys_by false new ≡ keys_by false old ++ counted k.measure ∷ []
  keys = ap (keys_by false) e ∙ map-append (λ (k : ObjectiveSums). key_by false k.measure) old
      (k ∷ [])

  pub added_still : (key : Measure) → Contains (keys_by false old) key →
      Contains (keys_by false new) key
  added_still key has =
      subst (λ (ks : List Measure). Contains ks key) (sym keys)
      (Contains-append_left (keys_by false old) (counted k.measure ∷ []) key has)

  pub added_here : Contains (keys_by false new) (counted k.measure)
  added_here =
      subst (λ (ks : List Measure). Contains ks (counted k.measure)) (sym keys)
      (Contains-push (keys_by false old) (counted k.measure))

-- and what is kept is still the sums of the objectives
pub added_keeps : (members : List Object) (made : List (Exclusion × Bool)) (rows : List Row)
    (old new : KeptObjectives) (k : ObjectiveSums) → new.own ≡ old.own ++ k ∷ [] →
    new.pooled ≡ old.pooled → IsObjective members k.measure →
    SumsAreKept k.measure made rows k.sums → KeepsSums members made rows old →
    KeepsSums members made rows new
added_keeps members made rows old new k own pool is sums keeps = record {
  own = subst (AreKept made rows) (sym own)
      (all_push (λ (k : ObjectiveSums). SumsAreKept k.measure made rows k.sums) old.own k keeps.own
      sums);
  pooled = subst (AreKept [] rows) (sym pool) keeps.pooled;
  own_only = subst (AllByRecursion (λ (k : ObjectiveSums). IsLike members false k.measure))
      (sym own)
      (all_push (λ (k : ObjectiveSums). IsLike members false k.measure) old.own k keeps.own_only
      (record { other = k.measure; is = is; alike = refl }));
  pooled_only = subst (AllByRecursion (λ (k : ObjectiveSums). IsLike members true k.measure))
      (sym pool) keeps.pooled_only;
  all = λ m of. moved m (keeps.all m of);
}
  where
    moved : (m : Measure) → HasSums made old.own old.pooled m
        → HasSums made new.own new.pooled m
    moved m (inl has) = inl (added_still old.own new.own k own (counted m) has)
    moved m (inr has) = inr (
      subst (λ (ks : List ObjectiveSums). Contains (keys_by true ks) (pooled m)) (sym pool) has.0,
      has.1,
    )

-- all but the book's room stays
pub with_book : (d : Derived) (book : Book) → book.rows ≡ d.book.rows →
    book.exclusions ≡ d.book.exclusions → Stays d (record d { book = book })
with_book d book rows made = record {
  origin = refl;
  entries = refl;
  present = refl;
  catalog = refl;
  zones = refl;
  rows = rows;
  exclusions = made;
  accepted = refl;
  upgraded = refl;
  notices = refl;
  states = refl;
  sums = λ keeps.
      subst (λ (rs : List Row). KeepsSums d.catalog book.exclusions rs d.sums) (sym rows)
      (subst (λ (es : List (Exclusion × Bool)). KeepsSums d.catalog es d.book.rows d.sums)
      (sym made) keeps);
}

-- where all objectives of an SLO have sums of their own
pub own_of : (before members : List Object) (own : List ObjectiveSums) (slo : List ℕ)
    (measures : List Measure) → members ≡ before → measures ≡ measures_named before slo →
    AllByRecursion (λ (m : Measure). Contains (keys_by false own) (counted m)) measures →
    HaveOwn members own slo
own_of before members own slo measures same all own_there m is of =
    All-contains P (measures_named members m.slo) m
    (All-from_recursion P (measures_named members m.slo) (subst (AllByRecursion P) these own_there))
    (objective_among members m is)
  where
    P : Measure → Type 0
    P m = Contains (keys_by false own) (counted m)

    these : measures ≡ measures_named members m.slo
    these = all ∙ ap (λ (os : List Object). measures_named os slo) (sym same)
        ∙ ap (measures_named members) (sym of)

-- .. an exclusion of it can be made
pub exclude_room : {A E : Type 0} (d : Derived) (book : Book) (value : Exclusion)
    (r : Result A E) → OnOk r (1 ≤ book.spare) → HaveOwn d.catalog d.sums.own value.slo →
    OnOk r (HasRoom (record d { book = book }) (works.Exclude value))
exclude_room d book value (Ok x) room own = (omega (arith, room), own)
exclude_room d book value (Err e) room own = tt
