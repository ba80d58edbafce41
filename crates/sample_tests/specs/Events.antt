-- Rows of events.
use Rattle.slice_method.specs.declared.Reading.TheVariants.{Good}
use Rattle.slice_method.specs.Readings.{HasForm}
use Rattle.sample_book.specs.declared.Row.{Row}

-- the row says how many of all events were good
abbrev pub HasEvents : Row → Type 0
HasEvents row = HasForm Good row.amount
