-- What contracts see of the reading of a text.
use Rattle.std.specs.Prelude.{[]}
use Rattle.yaml_subset.specs.Reader.{LinesAreRead}
use Rattle.yaml_subset.specs.ReaderView.{reading}
use Rattle.yaml_subset.specs.declared.reader.Reader.{Reader}

-- no line is read yet
abbrev pub IsStart : Reader → Type 0
IsStart r = LinesAreRead [] (reading r)
