-- How full an office is, by what is kept beside its history.
use Rattle.std.specs.Prelude.{ℕ, ◌==◌, cond, length, Option, Some, None}
use Rattle.slo_limits.specs.declared.TheConstants as most
use Rattle.object_terms.specs.declared.Kind.TheVariants as kinds
use Rattle.catalog_terms.specs.Bindings.{bindings}
use Rattle.catalog_terms.specs.Limits.{count_of_kind}
use Rattle.record_form.specs.declared.OfficeStatus.{OfficeStatus}
use Rattle.office_history.specs.Batches.{objective_days}
use Rattle.office_history.specs.Notices.{waiting}
use Rattle.office_history.specs.Status.{used_of}
use Rattle.office_history.specs.Versions.{most_cells, most_rows, version_of}
use Rattle.office_derived.specs.declared.Derived.{Derived}

-- the present, where there is an entry
abbrev pub last_if : ℕ → ℕ → Option ℕ
last_if entries present = cond (entries == 0) None (Some present)

-- how full the office is at a moment, whose journal's last gate stands at `tail`
abbrev pub fullness : Derived → ℕ → ℕ → OfficeStatus
fullness d moment tail = record {
  accepted = used_of d.accepted (most_rows d.upgraded);
  at = moment;
  bindings = used_of (length (bindings d.catalog)) most.MAX_BINDINGS;
  bytes = used_of tail most.MAX_JOURNAL_BYTES;
  cells = used_of (length d.book.rows) (most_cells d.upgraded);
  days = used_of (objective_days d.catalog d.book.rows) most.MAX_DAYS;
  entries = d.entries;
  exclusions = used_of (length d.book.exclusions) most.MAX_EXCLUSIONS;
  last = last_if d.entries d.present;
  notices = used_of (waiting d.notices.made) most.MAX_NOTICES;
  objects = used_of (length d.catalog) most.MAX_OBJECTS;
  origin = d.origin;
  slis = used_of (count_of_kind kinds.Sli d.catalog) most.MAX_SLIS;
  slos = used_of (count_of_kind kinds.Slo d.catalog) most.MAX_SLOS;
  version = version_of d.upgraded;
  zones = used_of (length d.zones.kept) most.MAX_ZONES;
}
