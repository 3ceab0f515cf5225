-- Comparison of references.
use Rattle.std.specs.Prelude.{Bool, true, false, Option, Some, None}
use Rattle.object_layout.specs.declared.word.Addr.{Addr}
use Rattle.object_layout.specs.Chunks.{same_address}

-- both nil, or the same address
abbrev pub same_reference : Option Addr → Option Addr → Bool
same_reference None None = true
same_reference None (Some b) = false
same_reference (Some a) None = false
same_reference (Some a) (Some b) = same_address a b
