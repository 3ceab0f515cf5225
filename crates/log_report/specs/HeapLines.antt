-- The lines of a report on heaps.
use Rattle.std.specs.Prelude.{ℕ, Option, Some, None, List, [], ◌++◌, codes}
use Rattle.std.specs.List.{flat_map}
use Rattle.std.specs.Fmt.{decimal}
use Rattle.log_report.specs.declared.heaps.HeapDepth.{HeapDepth}
use Rattle.log_report.specs.declared.heaps.LogHeaps.{LogHeaps}

abbrev pub depth_line : HeapDepth → List ℕ
depth_line r = codes "heaps depth " ++ decimal r.depth ++ codes " blocks " ++ decimal r.blocks ++ codes " words " ++ decimal r.words ++ codes " own " ++ decimal r.own ++ codes "\n"

abbrev pub stores_line : ℕ → ℕ → List ℕ
stores_line stores down = codes "heaps stores " ++ decimal stores ++ codes " down " ++ decimal down ++ codes "\n"

abbrev pub heaps_text : LogHeaps → List ℕ
heaps_text h = flat_map depth_line h.depths ++ stores_line h.stores h.down

abbrev pub heaps_text_if : Option LogHeaps → List ℕ
heaps_text_if None = []
heaps_text_if (Some h) = heaps_text h
