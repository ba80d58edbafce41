-- What moves come to over an office.
use Rattle.std.specs.Prelude.{◌≡◌, ℕ, List, [], ◌∷◌}
use Rattle.record_form.specs.declared.Command.{Command}
use Rattle.record_form.specs.declared.Entry.{Entry}
use Rattle.office_history.specs.declared.Judgement.{Judgement}
use Rattle.office_history.specs.declared.Judgement.TheVariants.{Accepted, Same, Refused}
use Rattle.office_history.specs.History.{Office, moment_of, with_entry, current_in, exclusions_in}
use Rattle.office_history.specs.History.{rows_in}
use Rattle.office_history.specs.Judges.{Judges}
use Rattle.office_history.specs.Legal.{MayFollow}
use Rattle.office_history.specs.Catalog.{catalog_in}
use Rattle.office_history.specs.Versions.{is_upgraded}
use Rattle.office_history.specs.Zones.{zones_in, bytes_named}
use Rattle.export_terms.specs.Moves.{of_members}
use Rattle.export_terms.specs.Zones.{zones_by_name}

abbrev pub entry_at : ℕ → Command → Entry
entry_at moment command = record { moment = moment; command = command }

-- the office that has a command that came at this reading of the clock and was accepted
abbrev pub after : Office → ℕ → Command → Office
after o reading command = with_entry o (entry_at (moment_of o reading) command)

-- the same of commands that came one after another
abbrev pub after_all : Office → List Command → List ℕ → Office
after_all o [] readings = o
after_all o (c ∷ cs) [] = o
after_all o (c ∷ cs) (reading ∷ readings) = after_all (after o reading c) cs readings

-- The commands are accepted one after another at these readings, as many as they are.
abbrev pub AreAccepted : Office → List Command → List ℕ → Type 0
AreAccepted o [] [] = Unit {0}
AreAccepted o [] (r ∷ rs) = ⊥
AreAccepted o (c ∷ cs) [] = ⊥
AreAccepted o (c ∷ cs) (reading ∷ readings) =
    MayFollow o (entry_at (moment_of o reading) c) × AreAccepted (after o reading c) cs readings

-- what becomes of an office by the judgement of a command that came
abbrev pub by_judgement : Office → ℕ → Command → Judgement → Office
by_judgement o reading c Accepted = after o reading c
by_judgement o reading c (Same outcome) = o
by_judgement o reading c (Refused refusal) = o

-- Commands come one after another at these readings, each to its judgement.
abbrev pub Replays : Office → List Command → List ℕ → List Judgement → Office → Type 0
Replays o [] [] [] last = last ≡ o
Replays o (c ∷ cs) (reading ∷ readings) (j ∷ js) last = Judges o (moment_of o reading) c j
    × Replays (by_judgement o reading c j) cs readings js last
Replays o _ _ _ last = ⊥

-- The second office has the first one's version, catalog, zones, rows and the exclusions of its
-- SLOs.
pub record IsEqualOffice (old new : Office) : Type 0 where
  pub origin : new.origin ≡ old.origin
  pub version : is_upgraded new.history ≡ is_upgraded old.history
  pub catalog : catalog_in new.history ≡ catalog_in old.history
  pub zones : zones_in new.history ≡ zones_by_name (zones_in old.history)
  pub bytes : (name : List ℕ)
      → bytes_named (zones_in new.history) name ≡ bytes_named (zones_in old.history) name
  pub rows : current_in new.history ≡ current_in old.history
  pub came : rows_in new.history ≡ current_in old.history
  pub exclusions : exclusions_in new.history
      ≡ of_members (catalog_in old.history) (exclusions_in old.history)
