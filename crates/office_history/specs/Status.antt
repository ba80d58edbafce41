-- How full an office is: of each kind how many there are, and how many there may be by the limits
-- of its version.
use Rattle.std.specs.Prelude.{ℕ, List, length, map, Option, option_map}
use Rattle.slo_limits.specs.declared.TheConstants as most
use Rattle.object_terms.specs.declared.kind.Kind.TheVariants as kinds
use Rattle.catalog_terms.specs.Bindings.{bindings}
use Rattle.catalog_terms.specs.Limits.{count_of_kind}
use Rattle.record_form.specs.declared.Entry.{Entry}
use Rattle.record_form.specs.declared.OfficeStatus.{OfficeStatus}
use Rattle.record_form.specs.declared.Used.{Used}
use Rattle.office_history.specs.Batches.{objective_days}
use Rattle.office_history.specs.Catalog.{catalog_in}
use Rattle.office_history.specs.History.{Office, accepted_rows, current_in, exclusions_in, rows_in}
use Rattle.office_history.specs.History.{tail_of}
use Rattle.office_history.specs.Lists.{last_of}
use Rattle.office_history.specs.Notices.{notices_in, waiting}
use Rattle.office_history.specs.Versions.{is_upgraded, most_cells, most_rows, version_of}
use Rattle.office_history.specs.Zones.{zones_in}

-- so many of so many
abbrev pub used_of : ℕ → ℕ → Used
used_of count limit = record { count = count; limit = limit }

-- the moment of the last entry
abbrev pub last_moment : List Entry → Option ℕ
last_moment history = option_map (λ (e : Entry). e.moment) (last_of history)

-- how full an office is, at a moment
abbrev pub status_at : Office → ℕ → OfficeStatus
status_at o moment = record {
  accepted =
      used_of (accepted_rows (rows_in o.history)) (most_rows (is_upgraded o.history));
  at = moment;
  bindings = used_of (length (bindings (catalog_in o.history))) most.MAX_BINDINGS;
  bytes = used_of (tail_of o.history) most.MAX_JOURNAL_BYTES;
  cells = used_of (length (current_in o.history)) (most_cells (is_upgraded o.history));
  days =
      used_of (objective_days (catalog_in o.history) (current_in o.history)) most.MAX_DAYS;
  entries = length o.history;
  exclusions = used_of (length (exclusions_in o.history)) most.MAX_EXCLUSIONS;
  last = last_moment o.history;
  notices = used_of (waiting (notices_in o)) most.MAX_NOTICES;
  objects = used_of (length (catalog_in o.history)) most.MAX_OBJECTS;
  origin = o.origin;
  slis = used_of (count_of_kind kinds.Sli (catalog_in o.history)) most.MAX_SLIS;
  slos = used_of (count_of_kind kinds.Slo (catalog_in o.history)) most.MAX_SLOS;
  version = version_of (is_upgraded o.history);
  zones = used_of (length (zones_in o.history)) most.MAX_ZONES;
}
