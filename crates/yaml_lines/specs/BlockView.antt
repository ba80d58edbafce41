-- What contracts see of a block scalar so far.
use Rattle.yaml_terms.specs.Block.{Block}
use Rattle.yaml_lines.specs.declared.block.Block.{Block as Lines}

abbrev pub block_view : Lines → Block
block_view b = record { style = b.style; indent = b.indent; text = b.text.items; blanks = b.blanks }
