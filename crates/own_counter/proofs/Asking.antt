-- One asking of an office of one's own, as its calls tell it.
use Rattle.std.proofs.Common.{ℕ, List, None, arith, refl}
use Rattle.office_outside.specs.Disk.{All, OnlyNow}
use Rattle.office_outside.specs.Senses.{DiskSenses}
use Rattle.office_outside.proofs.Moments.{leaves_still}
use Rattle.record_form.specs.declared.Request.{Request}
use Rattle.record_form.specs.declared.Request.TheVariants.{Change, Ask}
use Rattle.record_form.specs.declared.Outcome.TheVariants.{NoMemory}
use Rattle.office_keep.specs.Files.{OfficeIsWhole}
use Rattle.office_keep.specs.Office.{IsBlamed, LeavesBy, OfficeOn, StandsSettled, unsettled}
use Rattle.office_keep.proofs.Performing.{settles_nothing}
use Rattle.own_counter.specs.Own.{no_room, OwnAsks, own_on}

left_by : {D : Type 0} (o : OfficeOn D) (reading : ℕ) (request : Request) (file : List ℕ)
    → StandsSettled o.office o.doubt file
    → LeavesBy o reading request o file
left_by o reading (Ask query) file stands = stands
left_by o reading (Change command) file stands = unsettled stands

blames_nothing : (count : ℕ) → IsBlamed count count NoMemory
blames_nothing count = record { later = omega arith; rose = λ told. cc told }

-- where there is no memory for a place, nothing is done
pub asks_without_room : {D : Type 0} (S : DiskSenses D) → OnlyNow S
    → (o : OfficeOn D) (own : List ℕ) (reading : ℕ) (request : Request)
    → All (StandsSettled o.office o.doubt) (S.images o.disk) → OfficeIsWhole o.office
    → OwnAsks S (own_on o own) reading request NoMemory (own_on o own)
asks_without_room S only_now o own reading request stands whole = record {
  place = None;
  ended = no_room refl refl refl;
  places = refl;
  any_moment = leaves_still {S = S} only_now
      (λ file image. left_by o reading request file (stands file image));
  stands = stands;
  whole = whole;
  after_settling = settles_nothing S o reading request;
  cause = blames_nothing (S.faults o.disk);
}
