-- One object of a catalog after another is accepted.
use Rattle.std.proofs.Common.{◌≡◌, ℕ, ◌<◌, Bool, true, false, not, ◌&&◌, ◌||◌, cond}
use Rattle.std.proofs.Common.{List, [], ◌∷◌, refl, ap, ◌∙◌}
use Rattle.std.proofs.Common.{arith, Option, Some, None, Result, Ok}
use Rattle.std.proofs.Common.{find, is_some}
use Rattle.std.specs.List.{AllByRecursion, list_any}
use Rattle.std.specs.Option.{option_or}
use Rattle.std.proofs.lemmas.Cmp.{nat_list_eq_equiv}
use Rattle.sample_book.specs.Counting.{first_of}
use Rattle.yaml_terms.specs.Spelling.{writing}
use Rattle.object_terms.specs.declared.Object.{Object}
use Rattle.object_terms.specs.declared.Sli.{Sli}
use Rattle.object_terms.specs.Document.{written}
use Rattle.object_terms.specs.Sli.{sli_in}
use Rattle.catalog_terms.specs.declared.CatalogFault.{CatalogFault}
use Rattle.catalog_terms.specs.Keys.{is_kind, is_key, member_of}
use Rattle.catalog_terms.specs.Catalog.{with_member}
use Rattle.catalog_terms.specs.References.{references, is_resolved, is_built_in_policy}
use Rattle.catalog_terms.specs.References.{first_given, first_unresolved}
use Rattle.catalog_terms.specs.NeedsOp.{needing_op, first_needing_op}
use Rattle.catalog_terms.specs.Limits.{first_limit}
use Rattle.slo_catalog.proofs.KeyLemmas.{key_itself}
use Rattle.record_form.specs.declared.Refusal.{Refusal}
use Rattle.record_form.specs.declared.Refusal.TheVariants as refusals
use Rattle.office_history.specs.Readings.{first_read_anew, row_read_anew, is_other_reading}
use Rattle.office_history.specs.Readings.{reading_of}
use Rattle.catalog_terms.specs.NeedsOp.{sli_named}
use Rattle.office_history.specs.Starts.{begins_too_often}
use Rattle.office_history.specs.Definitions.{known, unless, unless_many_starts, limit_name}
use Rattle.office_history.specs.Definitions.{judged_by, has_samples, defined_over}
use Rattle.office_history.specs.KnownZones.{first_unknown_zone}
use Rattle.catalog_terms.specs.Define as catalog
use Rattle.export_laws.specs.Sendable.{CanStand, CanBeSent}
use Rattle.export_laws.proofs.Parts.{Among, all_among, all_weaker, but, but_sorted, but_all}
use Rattle.export_laws.proofs.Parts.{but_limits, but_ops, in_but, found_but, out_and_in}
use Rattle.export_laws.proofs.Parts.{none_of_key}
use Rattle.export_laws.proofs.Ranks.{rank, references_are_earlier, other_kinds, StandsAhead}

-- NOTHING IS FOUND

none_found : {A : Type 0} (test : A → Bool) (xs : List A) → AllByRecursion (λ x. test x ≡ false) xs
    → find test xs ≡ None
none_found test [] h = refl
none_found test (x ∷ xs) h = ap (λ b. cond b (Some x) (find test xs)) h.0 ∙ none_found test xs h.1

none_given : {A B : Type 0} (f : A → Option B) (xs : List A)
    → AllByRecursion (λ x. f x ≡ None) xs → first_given f xs ≡ None
none_given f [] h = refl
none_given f (x ∷ xs) h =
    ap (λ o. option_or o (first_given f xs)) h.0 ∙ none_given f xs h.1

none_passes : {A : Type 0} (test : A → Bool) (xs : List A)
    → AllByRecursion (λ x. test x ≡ false) xs → list_any test xs ≡ false
none_passes test [] h = refl
none_passes test (x ∷ xs) h = ap (λ b. b || list_any test xs) h.0 ∙ none_passes test xs h.1

passed : {A : Type 0} (fault : A → CatalogFault) (found : Option A)
    (rest answer : Result (List Object) CatalogFault) → found ≡ None → rest ≡ answer
    → catalog.unless fault found rest ≡ answer
passed fault found rest answer e h = ap (λ f. catalog.unless fault f rest) e ∙ h

unrefused : {A : Type 0} (refusal : A → Refusal) (found : Option A)
    (rest answer : Result (List Object) Refusal) → found ≡ None → rest ≡ answer
    → unless refusal found rest ≡ answer
unrefused refusal found rest answer e h = ap (λ f. unless refusal f rest) e ∙ h

pub all_with : {X : Type 0} (P Q R : X → Type 0) → ((x : X) → P x → Q x → R x) → (xs : List X)
    → AllByRecursion P xs → AllByRecursion Q xs → AllByRecursion R xs
all_with P Q R f [] h k = tt
all_with P Q R f (x ∷ xs) h k = (f x h.0 k.0, all_with P Q R f xs h.1 k.1)

-- ONE OBJECT MORE

same_itself : (o : Object) → catalog.is_same o o ≡ true
same_itself o = nat_list_eq_equiv.refl (writing 0 (written o))

-- an object alone is no duplicate
no_duplicate : (o : Object) → catalog.first_duplicate (o ∷ []) ≡ None
no_duplicate o = none_found (λ p. catalog.is_other_than (member_of (o ∷ []) p.kind p.name) p)
    (o ∷ []) (
      ap (λ b. catalog.is_other_than (cond b (Some o) None) o) (key_itself o)
          ∙ ap not (same_itself o),
      tt,
    )

-- over no rows no indicator is read anew
none_anew : (members : List Object) (o : Object) → first_read_anew members [] (o ∷ []) ≡ None
none_anew members o = ap (λ r. option_or r None) (by (sli_in o.body))
  where
    either : (b : Bool) → cond b (first_of [] o.name) None ≡ None
    either true = refl
    either false = refl

    by : (s : Option Sli) → row_read_anew members [] o.name s ≡ None
    by None = refl
    by (Some sli) = either (is_other_reading (reading_of sli.metric) (sli_named members o.name))

module _ (members : List Object) (zones : List (List ℕ)) (horizon : ℕ)
    (can : CanBeSent members zones horizon) where
  -- a reference of an object is resolved where only objects are out that stand behind it
  resolved : (o : Object) (rest : List Object) → Among members o
      → AllByRecursion (StandsAhead o) rest
      → AllByRecursion (λ r. is_resolved (but rest members) r ≡ true) (references o)
  resolved o rest there ahead =
      all_with (λ r. rank r.kind < rank o.kind) (λ r. is_resolved members r ≡ true)
      (λ r. is_resolved (but rest members) r ≡ true)
      (λ r below k. ap (λ f. is_some f || is_built_in_policy r)
      (found_but r.kind r.name rest members
      (all_weaker (StandsAhead o) (λ x. is_kind r.kind x.kind ≡ false)
      (λ x a. other_kinds r.kind x.kind (omega (arith, below, a.rank_is))) rest ahead)) ∙ k)
      (references o)
      (references_are_earlier o
      (all_among (CanStand zones horizon) members o can.each there).kind_is)
      (all_among (λ p. AllByRecursion (λ r. is_resolved members r ≡ true) (references p))
      members o can.whole.joined.legal there)

  stands : (o : Object) (rest : List Object) → Among members o
      → AllByRecursion (StandsAhead o) rest → Among (but rest members) o
  stands o rest there ahead = in_but o rest members there
      (all_weaker (StandsAhead o) (λ x. is_key x.kind x.name o ≡ false) (λ x a. a.apart) rest ahead)

  -- what is there without an object and those behind it, and then with the object
  pub grown : (o : Object) (rest : List Object) → Among members o
      → AllByRecursion (StandsAhead o) rest
      → with_member o (but (o ∷ rest) members) ≡ but rest members
  grown o rest there ahead = out_and_in o (but rest members)
      (but_sorted rest members can.sorted) (stands o rest there ahead)

  proposed : (o : Object) (rest : List Object) → Among members o
      → AllByRecursion (StandsAhead o) rest
      → catalog.proposed_members (but (o ∷ rest) members) (o ∷ []) ≡ Ok (but rest members)
  proposed o rest there ahead =
      let one = all_among (CanStand zones horizon) members o can.each there in
      let new = but rest members in
      let ops = but_ops rest members can.whole.joined.ops in
      passed catalog.reserved_fault (catalog.first_reserved (o ∷ [])) _ (Ok new)
      (none_found catalog.is_reserved (o ∷ []) (one.unreserved, tt))
      (passed catalog.duplicate_fault (catalog.first_duplicate (o ∷ [])) _ (Ok new)
      (no_duplicate o)
      (ap (λ ms. catalog.joined_members ms (o ∷ [])) (grown o rest there ahead)
      ∙ passed catalog.unresolved_fault (first_unresolved new (o ∷ [])) _ (Ok new)
      (ap (λ r. option_or r None) (none_found (λ r. not (is_resolved new r)) (references o)
      (all_weaker (λ r. is_resolved new r ≡ true) (λ r. not (is_resolved new r) ≡ false)
      (λ r e. ap not e) (references o) (resolved o rest there ahead))))
      (passed catalog.needs_op_fault (first_needing_op new (o ∷ [])) (Ok new) (Ok new)
      (none_given (needing_op new) (o ∷ new)
      (all_among (λ p. needing_op new p ≡ None) new o ops (stands o rest there ahead), ops)) refl)))

  -- so the object is defined, and the catalog grows by it
  pub defined_next : (o : Object) (rest : List Object) → Among members o
      → AllByRecursion (StandsAhead o) rest
      → defined_over (known (but (o ∷ rest) members) zones [] horizon) (o ∷ [])
      ≡ Ok (but rest members)
  defined_next o rest there ahead =
      let k = known (but (o ∷ rest) members) zones [] horizon in
      let one = all_among (CanStand zones horizon) members o can.each there in
      let new = but rest members in
      ap (judged_by k (o ∷ [])) (proposed o rest there ahead)
      ∙ unrefused refusals.UnknownZone (first_unknown_zone zones (o ∷ [])) _ (Ok new)
      (ap (λ z. option_or z None) one.zone_is_known)
      (unrefused has_samples (first_read_anew (but (o ∷ rest) members) [] (o ∷ [])) _ (Ok new)
      (none_anew (but (o ∷ rest) members) o)
      (unrefused (λ limit. refusals.Limit (limit_name limit)) (first_limit new) _ (Ok new)
      (but_limits rest members can.whole.within)
      (ap (λ b. unless_many_starts b (Ok new)) (none_passes (begins_too_often horizon) new
      (all_weaker (CanStand zones horizon) (λ p. begins_too_often horizon p ≡ false)
      (λ p c. c.begins_seldom) new (but_all (CanStand zones horizon) rest members can.each))))))

  -- it wasn't there
  pub is_more : (o : Object) (rest : List Object)
      → catalog.is_unchanged (but (o ∷ rest) members) (o ∷ []) ≡ false
  is_more o rest = ap (λ f. catalog.is_alike f o && true)
      (none_of_key (but rest members) o.kind o.name)
