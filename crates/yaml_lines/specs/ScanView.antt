-- What contracts see of a quoted scalar so far.
use Rattle.yaml_terms.specs.Quoted.{Quoted}
use Rattle.yaml_lines.specs.Scan.{Scan}
use Rattle.yaml_lines.specs.declared.quoted.Quoted.{Quoted as Read}
use Rattle.yaml_lines.specs.declared.quoted.Scan.{Scan as Scanning}

abbrev pub quoted_view : Read → Quoted
quoted_view q = record { text = q.text.items; length = q.length; bad = q.bad }

abbrev pub scan_view : Scanning → Scan
scan_view s = record { place = s.place; quoted = quoted_view s.quoted }
