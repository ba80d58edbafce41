-- What a text that is defined makes of the members.
use Rattle.std.proofs.Common.{◌≡◌, ℕ, ◌+◌, Bool, true, false, List, [], ◌∷◌, ◌++◌, Option, Some}
use Rattle.std.proofs.Common.{None, Result, Ok, Err, length, map, flat_map, fold, refl, sym, ap}
use Rattle.std.proofs.Common.{◌∙◌, subst, append_assoc, append-nil}
use Rattle.std.specs.List.{AllByRecursion}
use Rattle.std.specs.Str.Lines.{lines}
use Rattle.yaml_terms.specs.Tree.{Tree}
use Rattle.yaml_terms.specs.Text.{StandsFor, nodes_of, without_mark}
use Rattle.object_terms.specs.declared.Object.{Object}
use Rattle.object_terms.specs.declared.ObjectFault.{ObjectFault}
use Rattle.object_terms.specs.Document.{objects_of}
use Rattle.catalog_terms.specs.declared.CatalogFault.{CatalogFault}
use Rattle.catalog_terms.specs.Catalog.{Defined, with_member, with_members}
use Rattle.catalog_terms.specs.References.{first_unresolved}
use Rattle.catalog_terms.specs.NeedsOp.{first_needing_op}
use Rattle.catalog_terms.specs.Limits.{first_limit}
use Rattle.catalog_terms.specs.Define as catalog
use Rattle.record_form.specs.declared.Refusal.{Refusal}
use Rattle.record_form.specs.declared.Refusal.TheVariants as refusals
use Rattle.office_history.specs.Definitions.{Definition, Known, IsDefinition, unless}
use Rattle.office_history.specs.Definitions.{unless_many_starts, limit_name, within_limits}
use Rattle.office_history.specs.Definitions.{judged_by, has_samples, defined_over}
use Rattle.office_history.specs.Documents.{objects_from, objects_next}
use Rattle.office_history.specs.Documents as definition
use Rattle.office_history.specs.Readings.{first_read_anew}
use Rattle.office_history.specs.Starts.{one_begins_too_often}
use Rattle.office_history.specs.KnownZones.{first_unknown_zone}
use Rattle.office_history.specs.Catalog.{or_none, objects_in, text_objects, members_after}
use Rattle.catalog_changes.specs.Kinds.{HasKind, TextsHaveKinds}

-- the objects that are read of documents are those of each
read_objects : (before : List Object) (number : ℕ) (nodes : List Tree) (all : List Object) →
    objects_from before number nodes ≡ Ok all →
    all ≡ before ++ flat_map (λ document. or_none (objects_of document)) nodes
read_objects before number [] all e = let same : before ≡ all = cc e in
    sym same ∙ sym (append-nil before)
read_objects before number (t ∷ ts) all e =
    by (objects_of t) e (λ own g. read_objects (before ++ own) (number + 1) ts all g)
  where
    by : (r : Result (List Object) ObjectFault) →
        objects_next (λ more. objects_from more (number + 1) ts) before number r ≡ Ok all →
        ((own : List Object) → objects_from (before ++ own) (number + 1) ts ≡ Ok all
        → all ≡ (before ++ own) ++ flat_map (λ document. or_none (objects_of document)) ts) →
        all ≡ before ++ (or_none r ++ flat_map (λ document. or_none (objects_of document)) ts)
    by (Ok own) g again = again own g
        ∙ append_assoc before own (flat_map (λ document. or_none (objects_of document)) ts)
    by (Err fault) g again = cc g

-- nothing was found where members came of the tests behind it
nothing_found : {A : Type 0} (refusal : A → Refusal)
    (found : Option A) (rest : Result (List Object) Refusal) (members : List Object) →
    unless refusal found rest ≡ Ok members →
    (found ≡ None) × (rest ≡ Ok members)
nothing_found refusal None rest members e = (refl, e)
nothing_found refusal (Some x) rest members e = cc e

no_fault : {A : Type 0} (fault : A → CatalogFault)
    (found : Option A) (rest : Result (List Object) CatalogFault) (members : List Object)
    → catalog.unless fault found rest ≡ Ok members → rest ≡ Ok members
no_fault fault None rest members e = e
no_fault fault (Some x) rest members e = cc e

few_starts : (b : Bool) (rest : Result (List Object) Refusal) (members : List Object)
    → unless_many_starts b rest ≡ Ok members → rest ≡ Ok members
few_starts true rest members e = cc e
few_starts false rest members e = e

members_of_proposal : (old objects members : List Object)
    → catalog.proposed_members old objects ≡ Ok members
    → members ≡ with_members objects old
members_of_proposal old objects members e =
    let all : List Object = with_members objects old in
    let a =
    no_fault catalog.reserved_fault (catalog.first_reserved objects)
    (catalog.unless catalog.duplicate_fault (catalog.first_duplicate objects)
    (catalog.joined_members all objects)) members e in
    let b = no_fault catalog.duplicate_fault (catalog.first_duplicate objects)
    (catalog.joined_members all objects) members a in
    let c = no_fault catalog.unresolved_fault (first_unresolved all objects)
    (catalog.unless catalog.needs_op_fault (first_needing_op all objects) (Ok all)) members b in
    let d = no_fault catalog.needs_op_fault (first_needing_op all objects) (Ok all) members c in
    let same : all ≡ members = cc d in
    sym same

-- what is known of objects that are defined
pub record AreDefined (known : Known) (objects members : List Object) : Type 0 where
  pub members_are : members ≡ with_members objects known.members
  pub same_readings : first_read_anew known.members known.rows objects ≡ None

pub defined_objects : (known : Known) (objects members : List Object)
    → defined_over known objects ≡ Ok members → AreDefined known objects members
defined_objects known objects members e = by (catalog.proposed_members known.members objects) refl e
  where
    by : (r : Result (List Object) CatalogFault)
        → catalog.proposed_members known.members objects ≡ r
        → judged_by known objects r ≡ Ok members → AreDefined known objects members
    by (Err fault) f g = cc g
    by (Ok new) f g =
        let rest = unless has_samples (first_read_anew known.members known.rows objects)
        (within_limits known.horizon new) in
        let zones = nothing_found refusals.UnknownZone (first_unknown_zone known.zones objects)
        rest members g in
        let samples = nothing_found has_samples (first_read_anew known.members known.rows objects)
        (within_limits known.horizon new) members zones.1 in
        let limits = nothing_found (λ limit. refusals.Limit (limit_name limit))
        (first_limit new) (unless_many_starts (one_begins_too_often known.horizon new) (Ok new))
        members samples.1 in
        let whole = few_starts (one_begins_too_often known.horizon new) (Ok new) members limits.1 in
        let same : new ≡ members = cc whole in
        record {
          members_are = sym same ∙ members_of_proposal known.members objects new f;
          same_readings = samples.0;
        }

-- what is known of a text that is defined
pub record IsMade (known : Known) (text : List ℕ) (made : Definition) : Type 0 where
  pub catalog_is : made.catalog ≡ with_members (text_objects text) known.members
  pub counted : made.objects ≡ length (text_objects text)
  pub same_readings : first_read_anew known.members known.rows (text_objects text) ≡ None

objects_of_text : (text : List ℕ) (nodes : List Tree)
    → nodes_of (lines (without_mark text)) ≡ Some nodes
    → text_objects text ≡ flat_map (λ document. or_none (objects_of document)) nodes
unfolding text_objects
objects_of_text text nodes e = ap objects_in e

all_of_text : (text : List ℕ) (nodes : List Tree) (all : List Object) → StandsFor text nodes
    → definition.objects_in nodes ≡ Ok all → all ≡ text_objects text
all_of_text text nodes all stands read = read_objects [] 1 nodes all read
    ∙ sym (objects_of_text text nodes stands.nodes)

pub made_of_text : (known : Known) (text : List ℕ) (made : Definition)
    → IsDefinition known text made → IsMade known text made
made_of_text known text made is =
    let all = all_of_text text is.nodes is.all is.stands is.read in
    let d = defined_objects known is.all made.catalog is.defined in
    record {
      catalog_is = d.members_are ∙ ap (λ objects. with_members objects known.members) all;
      counted = is.of_objects ∙ ap length all;
      same_readings = ap (first_read_anew known.members known.rows) (sym all) ∙ d.same_readings;
    }

-- the objects of a text that is defined have the bodies of their kinds
pub kinds_of_text : TextsHaveKinds → (known : Known) (text : List ℕ) (made : Definition)
    → IsDefinition known text made → AllByRecursion HasKind (text_objects text)
kinds_of_text law known text made is =
    subst (AllByRecursion HasKind) (all_of_text text is.nodes is.all is.stands is.read)
    (law text is.nodes is.all is.stands is.read)

-- the changes by a definition put its objects in their places
pub changes_put : (objects members : List Object)
    → fold members_after members (map Defined objects) ≡ with_members objects members
changes_put [] members = refl
changes_put (o ∷ os) members = changes_put os (with_member o members)
