-- The ranges that what was read keeps. The office judges all others.
use Rattle.std.specs.Prelude.{◌≤◌, length}
use Rattle.std.specs.List.{AllByRecursion}
use Rattle.record_form.specs.declared.command.Command.{Command}
use Rattle.record_form.specs.declared.command.Command.TheVariants.{Define, Remove, PutZone, Samples}
use Rattle.record_form.specs.declared.command.Command.TheVariants.{Exclude, Lift, Tick, Take}
use Rattle.record_form.specs.declared.command.Command.TheVariants.{Upgrade}
use Rattle.record_form.specs.declared.query.Request.{Request}
use Rattle.record_form.specs.declared.query.Request.TheVariants.{Change, Ask}
use Rattle.record_form.specs.Ranges.{IsRowInRange}
use Rattle.slo_limits.specs.declared.TheConstants.{MAX_BODY_BYTES, MAX_TEXT_BYTES}
use Rattle.wire_routes.specs.declared.routed.Routed.{Routed}
use Rattle.wire_routes.specs.declared.routed.Routed.TheVariants as routed

abbrev pub IsChangeInRange : Command → Type 0
IsChangeInRange (Define documents) = length documents ≤ MAX_TEXT_BYTES
IsChangeInRange (Remove kind name) = Unit {0}
IsChangeInRange (PutZone name bytes) = length bytes ≤ MAX_BODY_BYTES
IsChangeInRange (Samples rows) = AllByRecursion IsRowInRange rows
IsChangeInRange (Exclude value) = Unit {0}
IsChangeInRange (Lift id) = Unit {0}
IsChangeInRange Tick = Unit {0}
IsChangeInRange (Take number) = Unit {0}
IsChangeInRange Upgrade = Unit {0}

abbrev pub IsRequestInRange : Request → Type 0
IsRequestInRange (Change command) = IsChangeInRange command
IsRequestInRange (Ask query) = Unit {0}

abbrev pub IsRoutedInRange : Routed → Type 0
IsRoutedInRange (routed.Request request) = IsRequestInRange request
IsRoutedInRange (routed.NoRequest reason) = Unit {0}
IsRoutedInRange routed.NoMemory = Unit {0}
