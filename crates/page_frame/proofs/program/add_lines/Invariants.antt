use Rattle.std.proofs.Common.{◌≡◌, ◌∷◌, ◌++◌, [], length}
use Rattle.std.specs.List.{flat_map}
use Rattle.text_lines.specs.Lines.{lines_of}
use Rattle.trace_input.specs.Cut.{lines_above}
use Rattle.quoted_text.specs.Guarded.{guarded}
use Rattle.page_frame.proofs.program.add_lines.Given as goal

abbrev pub invariant-loop-line : goal.invariant-loop-line
invariant-loop-line l = l.initial.text.items ++ flat_map (λ w. guarded w ++ 44 ∷ []) (lines_above (lines_of l.input)) ≡ l.text.items ++ flat_map (λ w. guarded w ++ 44 ∷ []) (lines_above (lines_of l.rest))

abbrev pub decreases-loop-line : goal.decreases-loop-line
decreases-loop-line l = length l.rest
