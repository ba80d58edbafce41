-- What one asking comes to, where neither memory nor the disk was lacking.
use Rattle.std.proofs.Common.{◌≡◌, ℕ, true, false, Option, Some, None, refl, sym, ap}
use Rattle.std.proofs.Common.{◌∙◌, subst, inl, inr}
use Rattle.record_form.specs.declared.Entry.{Entry}
use Rattle.record_form.specs.declared.Outcome.{Outcome}
use Rattle.record_form.specs.declared.Outcome.TheVariants.{DiskFault, NoMemory}
use Rattle.record_form.specs.declared.Request.{Request}
use Rattle.record_form.specs.declared.Request.TheVariants.{Change, Ask}
use Rattle.office_history.specs.History.{Office}
use Rattle.office_counter.specs.Steps as steps
use Rattle.office_keep.specs.Office as keep
use Rattle.own_counter.specs.Own.{Ends, performed, no_room}
use Rattle.generate_command.specs.Tallies.{is_lack}

-- The request came to its outcome over the office as it stood, and nothing is in doubt.
pub record Came {D : Type 0} (old : keep.OfficeOn D) (reading : ℕ) (request : Request)
    (outcome : Outcome) (new : keep.OfficeOn D) : Type 0 where
  pub made : Option Entry
  pub comes : steps.Comes old.office reading request outcome made
  pub office : new.office ≡ steps.with_made old.office made
  pub none : new.doubt ≡ None

no_lack : {X : Type 0} (outcome lack : Outcome) → outcome ≡ lack → is_lack lack ≡ true
    → is_lack outcome ≡ false → X
no_lack outcome lack is lacking fine =
    let bad : true ≡ false = sym lacking ∙ ap is_lack (sym is) ∙ fine in cc bad

settled_alone : (o : Office) (doubt : Option Entry) (settled : Office) → doubt ≡ None
    → keep.IsSettled o doubt settled → settled ≡ o
settled_alone o None settled none is = is
settled_alone o (Some e) settled none is = cc none

module _ {D : Type 0} (old new : keep.OfficeOn D) (reading : ℕ) (outcome : Outcome)
    (none : old.doubt ≡ None) (fine : is_lack outcome ≡ false) where
  pub came : (request : Request) (place : Option ℕ) → Ends old reading request outcome place new
      → Came old reading request outcome new
  came (Ask query) place (performed asks) =
      elim asks.told [
        | inl came_to ↦ record {
          made = None;
          comes = came_to;
          office = ap (λ (k : keep.OfficeOn D). k.office) asks.stays;
          none = ap (λ (k : keep.OfficeOn D). k.doubt) asks.stays ∙ none;
        }
        | inr lack ↦ no_lack outcome NoMemory lack refl fine
      ]
  came (Change command) place (performed (keep.past at_end told same no_place)) = record {
    made = None;
    comes = steps.past at_end told refl;
    office = ap (λ (k : keep.OfficeOn D). k.office) same;
    none = ap (λ (k : keep.OfficeOn D). k.doubt) same ∙ none;
  }
  came (Change command) place (performed (keep.refused_memory lack timely unmoved no_place)) =
      no_lack outcome NoMemory lack refl fine
  came (Change command) place (performed (keep.not_settled lack timely before no_place)) =
      no_lack outcome DiskFault lack refl fine
  came (Change command) place (performed (keep.not_kept lack timely unmoved no_place)) =
      no_lack outcome DiskFault lack refl fine
  came (Change command) place (performed (keep.in_doubt lack timely doubt no_place)) =
      no_lack outcome DiskFault lack refl fine
  came (Change command) place (performed (keep.done settled made is timely came_to now undoubted
      at)) =
      let same : settled ≡ old.office = settled_alone old.office old.doubt settled none is in
      record {
        made = made;
        comes =
            subst (λ (o : Office). steps.Comes o reading (Change command) outcome made) same
            came_to;
        office = now ∙ ap (λ (o : Office). steps.with_made o made) same;
        none = undoubted;
      }
  came request place (no_room lack no_place same) = no_lack outcome NoMemory lack refl fine
