-- A legal history's moves make an office with its version, catalog, zones and rows.
use Rattle.std.specs.Prelude.{◌≡◌, ℕ, ◌≤◌, ◌<◌, List, [], ◌++◌, length, map}
use Rattle.std.specs.List.{AllByRecursion}
use Rattle.slo_limits.specs.declared.TheConstants.{MAX_TEXT_BYTES}
use Rattle.yaml_terms.specs.Spelling.{writing}
use Rattle.object_terms.specs.Document.{written}
use Rattle.record_form.specs.declared.Command.{Command}
use Rattle.record_form.specs.declared.Command.TheVariants.{Samples}
use Rattle.record_form.specs.declared.Entry.{Entry}
use Rattle.office_history.specs.History.{Office, current_in, end_of, present, rows_in, changes_in}
use Rattle.office_history.specs.Catalog.{catalog_in}
use Rattle.office_history.specs.Legal.{IsLegal, office}
use Rattle.office_history.specs.Versions.{is_upgraded}
use Rattle.office_history.specs.Zones.{zones_in, bytes_named}
use Rattle.export_terms.specs.Moves.{definition, export_kinds, in_order, moves, upgrades, zone_move}
use Rattle.export_terms.specs.Zones.{zones_by_name}
use Rattle.export_terms.specs.Parts.{in_thousands}
use Rattle.export_laws.specs.Replay.{after_all, AreAccepted, Replays, IsEqualOffice}
use Rattle.office_history.specs.declared.Judgement.{Judgement}
use Rattle.office_history.specs.declared.Judgement.TheVariants.{Accepted}

-- the moves of the upgrade, zones, objects and rows
abbrev pub first_moves : List Entry → List Command
first_moves h = upgrades (is_upgraded h)
    ++ (map zone_move (zones_by_name (zones_in h))
    ++ (map definition (in_order (catalog_in h) export_kinds)
    ++ map Samples (in_thousands (current_in h))))

-- no object is too large for a text
abbrev pub AreSmall : List Entry → Type 0
AreSmall h =
    AllByRecursion (λ o. length (writing 0 (written o)) ≤ MAX_TEXT_BYTES) (catalog_in h)

-- readings of a clock that doesn't stand before the old present, and in range
pub record AreReadings (origin : ℕ) (h : List Entry) (count : ℕ) (readings : List ℕ) : Type 0 where
  pub as_many : length readings ≡ count
  pub later : AllByRecursion (λ r. present (office origin h) ≤ r) readings
  pub in_range : AllByRecursion (λ r. r < end_of origin) readings

pub record IsMadeAnew (origin : ℕ) (h : List Entry) (new : Office) : Type 0 where
  pub origin_is : new.origin ≡ origin
  pub version : is_upgraded new.history ≡ is_upgraded h
  pub catalog : catalog_in new.history ≡ catalog_in h
  pub zones : zones_in new.history ≡ zones_by_name (zones_in h)
  pub bytes : (name : List ℕ)
      → bytes_named (zones_in new.history) name ≡ bytes_named (zones_in h) name
  pub rows : current_in new.history ≡ current_in h
  pub came : rows_in new.history ≡ current_in h
  pub no_changes : changes_in new.history ≡ []
  pub entries : length new.history ≡ length (first_moves h)
  pub now : present new < end_of origin

-- Each of the moves is accepted at such readings, and the office is made anew.
abbrev pub MovesMakeAnew : Type 0
MovesMakeAnew = (origin : ℕ) (h : List Entry) (readings : List ℕ) → IsLegal origin h → AreSmall h
    → AreReadings origin h (length (first_moves h)) readings
    → AreAccepted (office origin []) (first_moves h) readings
    × IsMadeAnew origin h (after_all (office origin []) (first_moves h) readings)

-- what the moves come to: each is accepted, and the office is equal and legal
pub record AreMade (origin : ℕ) (h : List Entry) (js : List Judgement) (last : Office) : Type 0
  where
    pub accepted : AllByRecursion (λ j. j ≡ Accepted) js
    pub equal : IsEqualOffice (office origin h) last
    pub legal : IsLegal origin last.history
    pub entries : length last.history ≡ length (moves (office origin h))

-- Whatever becomes of the moves of a legal history that come to the empty history one after
-- another, at readings that are not before its present, they are all accepted and make an equal
-- office.
abbrev pub MovesMakeEqual : Type 0
MovesMakeEqual = (origin : ℕ) (h : List Entry) (readings : List ℕ) (js : List Judgement)
    (last : Office) → IsLegal origin h → AreSmall h
    → AreReadings origin h (length (moves (office origin h))) readings
    → Replays (office origin []) (moves (office origin h)) readings js last
    → AreMade origin h js last
