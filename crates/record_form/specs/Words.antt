-- The words and the HTTP statuses by which refusals are told.
use Rattle.std.specs.Prelude.{ℕ, List, Option, Some, None, codes}
use Rattle.yaml_terms.specs.Words.{word}
use Rattle.record_form.specs.declared.limit_name.LimitName.{LimitName}
use Rattle.record_form.specs.declared.limit_name.LimitName.TheVariants as limits
use Rattle.record_form.specs.declared.outcome.Outcome.{Outcome}
use Rattle.record_form.specs.declared.outcome.Outcome.TheVariants as outcomes
use Rattle.record_form.specs.declared.refusal.Refusal.{Refusal}
use Rattle.record_form.specs.declared.refusal.Refusal.TheVariants as refusals
use Rattle.record_form.specs.declared.yaml_word.YamlWord.{YamlWord}
use Rattle.record_form.specs.declared.yaml_word.YamlWord.TheVariants.{TooLarge, NotUtf8, Form}

-- the word of each limit
abbrev pub limit_word : LimitName → List ℕ
limit_word limits.Objects = codes "objects"
limit_word limits.Catalog = codes "catalog"
limit_word limits.Slis = codes "slis"
limit_word limits.Slos = codes "slos"
limit_word limits.Bindings = codes "bindings"
limit_word limits.Starts = codes "starts"
limit_word limits.Days = codes "days"
limit_word limits.ZoneBytes = codes "zone_bytes"
limit_word limits.Zones = codes "zones"
limit_word limits.Rows = codes "rows"
limit_word limits.Cells = codes "cells"
limit_word limits.Accepted = codes "accepted"
limit_word limits.Exclusions = codes "exclusions"
limit_word limits.Notices = codes "notices"
limit_word limits.Entries = codes "entries"

-- the word of what is wrong with a text of documents
abbrev pub yaml_word : YamlWord → List ℕ
yaml_word TooLarge = codes "too_large"
yaml_word NotUtf8 = codes "not_utf8"
yaml_word (Form which) = word which

-- the status of the answer, and its member `error`
abbrev pub reply_of : Refusal → ℕ × List ℕ
reply_of (refusals.Limit which) = (507, codes "limit")
reply_of (refusals.Yaml line which) = (422, codes "yaml")
reply_of (refusals.Object document field rule) = (422, codes "object")
reply_of (refusals.ReservedPolicy name) = (422, codes "reserved")
reply_of (refusals.ReservedZone name) = (422, codes "reserved")
reply_of (refusals.Duplicate kind name) = (422, codes "duplicate")
reply_of (refusals.Unresolved from_kind from_name kind name) = (422, codes "unresolved")
reply_of (refusals.NoSuchSlo kind name) = (422, codes "unresolved")
reply_of (refusals.NeedsOp objective slo) = (422, codes "needs_op")
reply_of (refusals.UnknownZone name) = (422, codes "unknown_zone")
reply_of (refusals.HasSamples minute name source) = (409, codes "has_samples")
reply_of refusals.NotFound = (404, codes "not_found")
reply_of (refusals.InUse by_kind by_name) = (409, codes "in_use")
reply_of (refusals.ZoneDiffers name) = (409, codes "zone_differs")
reply_of (refusals.BadZone name) = (422, codes "bad_zone")
reply_of (refusals.UnknownSli name row) = (422, codes "unknown_sli")
reply_of (refusals.Version row) = (422, codes "version")
reply_of (refusals.WrongKind row) = (422, codes "wrong_kind")
reply_of (refusals.Counts row) = (422, codes "counts")
reply_of (refusals.Early minute origin row) = (422, codes "early")
reply_of (refusals.OpenMinute minute moment row) = (422, codes "open_minute")
reply_of (refusals.RowConflict amount revision row) = (409, codes "conflict")
reply_of (refusals.Withdrawn id) = (409, codes "withdrawn")
reply_of (refusals.ExclusionConflict from slo to) = (409, codes "conflict")
reply_of refusals.Range = (422, codes "range")
reply_of (refusals.UnknownNotice made number) = (422, codes "unknown_notice")
reply_of (refusals.NoWindow at) = (404, codes "no_window")

-- what an outcome failed with, none where it is an answer of status 200
abbrev pub failure_of : Outcome → Option (ℕ × List ℕ)
failure_of (outcomes.Defined applied entry) = None
failure_of (outcomes.Sampled entry new newer repeated superseded) = None
failure_of (outcomes.Changed entry) = None
failure_of (outcomes.Ticked entry notices) = None
failure_of (outcomes.ObjectList entries objects) = None
failure_of (outcomes.ObjectText text) = None
failure_of (outcomes.Budgets at budgets entries) = None
failure_of (outcomes.Burn at burn den entries num) = None
failure_of (outcomes.Timeline entries intervals state) = None
failure_of (outcomes.Notices entries notices) = None
failure_of (outcomes.Feed bytes) = None
failure_of (outcomes.Row entries row) = None
failure_of (outcomes.Exclusions entries exclusions) = None
failure_of (outcomes.Zones entries zones) = None
failure_of (outcomes.Status status) = None
failure_of (outcomes.Sums at entries sums) = None
failure_of (outcomes.Windows at entries windows) = None
failure_of (outcomes.Refused refusal) = Some (reply_of refusal)
failure_of (outcomes.ClockRange end reading) = Some (500, codes "clock_range")
failure_of outcomes.DiskFault = Some (500, codes "disk_fault")
failure_of (outcomes.JournalFull needed tail) = Some (507, codes "journal_full")
failure_of outcomes.NoMemory = Some (503, codes "no_memory")
