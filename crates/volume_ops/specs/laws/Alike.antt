-- Trees that have the same metadata at each birth.
use Rattle.std.specs.Prelude.{Option, None}
use Rattle.tree_model.specs.declared.node.Node.{Node}
use Rattle.tree_model.specs.Trees.{SameMetadataAt}

-- nodes with the same metadata, or none in both
abbrev pub SameMetadataAtOrNone : Option Node → Option Node → Type 0
SameMetadataAtOrNone None None = Unit {0}
SameMetadataAtOrNone n m = SameMetadataAt n m
