-- Laws of the texts of graphs.
use Rattle.std.specs.Prelude.{ℕ, List}
use Rattle.quoted_text.specs.Balanced.{IsBalanced}
use Rattle.dot_text.specs.Dot.{Statement, graph}

abbrev pub GraphsBalance : Type 0
GraphsBalance = (name : List ℕ) (ss : List Statement) → IsBalanced (graph name ss)
