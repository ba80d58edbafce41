-- What contracts see of the reader.
use Rattle.yaml_subset.specs.Reader.{Reading}
use Rattle.yaml_subset.specs.OpenView.{nodes_open}
use Rattle.yaml_subset.specs.declared.reader.Reader.{Reader}

abbrev pub reading : Reader → Reading
reading r = record { nodes = nodes_open r.nodes; parent = r.parent; scalar = r.scalar }
