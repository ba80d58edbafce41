-- Each asking of an office of one's own is a step.
use Rattle.std.specs.Prelude.{◌≡◌, ℕ, List, [], ◌∷◌, Option, Some, None, refl}
use Rattle.std.proofs.Common.{sym, ap, subst, ◌∙◌, append-nil, inl, inr}
use Rattle.record_form.specs.declared.Command.{Command}
use Rattle.record_form.specs.declared.Entry.{Entry}
use Rattle.record_form.specs.declared.Outcome.{Outcome}
use Rattle.record_form.specs.declared.Outcome.TheVariants.{NoMemory}
use Rattle.record_form.specs.declared.Query.{Query}
use Rattle.record_form.specs.declared.Request.{Request}
use Rattle.record_form.specs.declared.Request.TheVariants.{Change, Ask}
use Rattle.office_history.specs.History.{Office}
use Rattle.office_history.specs.Legal.{office}
use Rattle.office_counter.specs.Steps as steps
use Rattle.office_keep.specs.Office as keep
use Rattle.own_counter.specs.Own.{Ends, performed, no_room, OwnAsks, OwnOn, places_with}
use Rattle.own_counter.specs.Own.{standing_of}
use Rattle.office_outside.specs.Senses.{DiskSenses}

-- an office with nobody's entries behind it
with_none : (o : Office) → o ≡ steps.with_others o []
with_none o = ap (λ (h : List Entry). office o.origin h) (sym (append-nil o.history))

-- what was settled is an entry of others
pub settled_others : (o : Office) (doubt : Option Entry) (settled : Office)
    → keep.IsSettled o doubt settled
    → (others : List Entry) × (settled ≡ steps.with_others o others)
settled_others o None settled is = ([], is ∙ with_none o)
settled_others o (Some e) settled (inl is) = ([], is ∙ with_none o)
settled_others o (Some e) settled (inr is) = (e ∷ [], is)

noted_own : (o : Office) (made : Option Entry) (own : List ℕ)
    → places_with (steps.place_of o made) own ≡ steps.own_with o made own
noted_own o None own = refl
noted_own o (Some e) own = refl

-- what the request did, at some point behind the office that was seen
abbrev DoesBehind : Office → ℕ → Request → Outcome → steps.Standing → steps.Standing → Type 0
DoesBehind o reading request outcome before now =
    (others : List Entry)
    × steps.Does (steps.with_others o others) reading request outcome before now

at_point : (o point : Office) (reading : ℕ) (request : Request) (outcome : Outcome)
    (before now : steps.Standing)
    → (others : List Entry) × (point ≡ steps.with_others o others)
    → steps.Does point reading request outcome before now
    → DoesBehind o reading request outcome before now
at_point o point reading request outcome before now (others, is) does =
    (others, subst (λ (p : Office). steps.Does p reading request outcome before now) is does)

module _ {D : Type 0} (S : DiskSenses D) (old new : OwnOn D) (reading : ℕ) (outcome : Outcome) where
  own_still : (place : Option ℕ) → new.own ≡ places_with place old.own → place ≡ None →
      new.own ≡ old.own
  own_still place places none = places ∙ ap (λ (p : Option ℕ). places_with p old.own) none

  does_query : (query : Query) (place : Option ℕ)
      → keep.Asks old.kept reading query outcome place new.kept
      → new.own ≡ places_with place old.own
      → DoesBehind old.kept.office reading (Ask query) outcome (standing_of S old)
      (standing_of S new)
  does_query query place asks places =
      let same : new.kept.office ≡ old.kept.office =
      ap (λ (k : keep.OfficeOn D). k.office) asks.stays in
      let own : new.own ≡ old.own = own_still place places asks.no_place in
      at_point old.kept.office old.kept.office reading (Ask query) outcome (standing_of S old)
      (standing_of S new)
      ([], with_none old.kept.office)
      (elim asks.told
      [ inl came ↦ steps.acts None came same own | inr told ↦ steps.lacks told same own ])

  does_change : (command : Command) (place : Option ℕ)
      → keep.Changes old.kept reading command outcome place new.kept
      → new.own ≡ places_with place old.own
      → keep.IsBlamed (S.faults old.kept.disk) (S.faults new.kept.disk) outcome
      → DoesBehind old.kept.office reading (Change command) outcome (standing_of S old)
      (standing_of S new)
  does_change command place (keep.past at_end told same none) places cause =
      at_point old.kept.office old.kept.office reading (Change command) outcome
      (standing_of S old) (standing_of S new)
      ([], with_none old.kept.office)
      (steps.acts None (steps.past at_end told refl) (ap (λ (k : keep.OfficeOn D). k.office) same)
      (own_still place places none))
  does_change command place (keep.refused_memory told timely unmoved none) places
      cause =
      at_point old.kept.office new.kept.office reading (Change command) outcome
      (standing_of S old) (standing_of S new)
      (settled_others old.kept.office old.kept.doubt new.kept.office unmoved.settled)
      (steps.lacks told refl (own_still place places none))
  does_change command place (keep.not_settled told timely before none) places cause =
      at_point old.kept.office new.kept.office reading (Change command) outcome
      (standing_of S old) (standing_of S new)
      ([], before.office ∙ with_none old.kept.office)
      (steps.fails told tt timely (cause.rose told) refl (own_still place places none))
  does_change command place (keep.not_kept told timely unmoved none) places cause =
      at_point old.kept.office new.kept.office reading (Change command) outcome
      (standing_of S old) (standing_of S new)
      (settled_others old.kept.office old.kept.doubt new.kept.office unmoved.settled)
      (steps.fails told tt timely (cause.rose told) refl (own_still place places none))
  does_change command place (keep.in_doubt told timely doubt none) places cause =
      at_point old.kept.office new.kept.office reading (Change command) outcome
      (standing_of S old) (standing_of S new)
      (settled_others old.kept.office old.kept.doubt new.kept.office doubt.settled)
      (steps.fails told tt timely (cause.rose told) refl (own_still place places none))
  does_change command place (keep.done settled made is timely came now none at) places
      cause =
      at_point old.kept.office settled reading (Change command) outcome (standing_of S old)
      (standing_of S new)
      (settled_others old.kept.office old.kept.doubt settled is)
      (steps.acts made came now
      (places ∙ ap (λ (p : Option ℕ). places_with p old.own) at ∙ noted_own settled made old.own))

  does_nothing : (request : Request) (place : Option ℕ) → outcome ≡ NoMemory → place ≡ None
      → new.kept ≡ old.kept
      → new.own ≡ places_with place old.own
      → DoesBehind old.kept.office reading request outcome (standing_of S old)
      (standing_of S new)
  does_nothing request place told none same places =
      at_point old.kept.office old.kept.office reading request outcome (standing_of S old)
      (standing_of S new)
      ([], with_none old.kept.office)
      (steps.lacks told (ap (λ (k : keep.OfficeOn D). k.office) same) (own_still place places none))

  does_own : (request : Request) (place : Option ℕ)
      → Ends old.kept reading request outcome place new.kept
      → new.own ≡ places_with place old.own
      → keep.IsBlamed (S.faults old.kept.disk) (S.faults new.kept.disk) outcome
      → DoesBehind old.kept.office reading request outcome (standing_of S old)
      (standing_of S new)
  does_own (Ask query) place (performed ended) places cause = does_query query place ended places
  does_own (Change command) place (performed ended) places cause =
      does_change command place ended places cause
  does_own request place (no_room told none same) places cause =
      does_nothing request place told none same places

pub own_steps : {D : Type 0} (S : DiskSenses D) (old : OwnOn D) (reading : ℕ)
    (request : Request) (outcome : Outcome) (new : OwnOn D)
    → OwnAsks S old reading request outcome new
    → steps.Step (standing_of S old) reading request outcome (standing_of S new)
own_steps S old reading request outcome new asked =
    let does =
    does_own S old new reading outcome request asked.place asked.ended asked.places
    asked.cause in
    record { others = does.0; later = asked.cause.later; legal = asked.whole.legal; does = does.1 }
