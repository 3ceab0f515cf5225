-- What heaps hold, in saturating 64-bit counts; and which heaps are drawn.
use Rattle.std.specs.Prelude.{ℕ, ◌+◌, Bool, true, false, Option, Some, None, List, [], ◌∷◌, length}
use Rattle.heap_graph.specs.Common.{ImageObject, ImageLine, OfChunk, OfObject, Read, Relation, Own, Above, line_meaning, found, with_entry, relation_of, owner_at, raised_by}
use Rattle.heap_graph.specs.declared.held.HeapTotals.{HeapTotals}

-- WHICH HEAPS ARE DRAWN

-- a task, or an ancestor
abbrev pub is_path_relation : Relation → Bool
is_path_relation Own = true
is_path_relation Above = true
is_path_relation _ = false

-- all heaps, or those on the path from the root to a task
abbrev pub is_drawn : Read → Option ℕ → ℕ → Bool
is_drawn r None t = true
is_drawn r (Some p) t = is_path_relation (relation_of r.tasks p t)

-- COUNTS

abbrev pub Heaps : Type 0
Heaps = List (ℕ × HeapTotals)

abbrev pub nothing_held : HeapTotals
nothing_held = record { chunks = 0; objects = 0; words = 0 }

abbrev pub totals_or_none : Option HeapTotals → HeapTotals
totals_or_none None = nothing_held
totals_or_none (Some h) = h

-- what the heap of a task holds
abbrev pub held_of : Heaps → ℕ → HeapTotals
held_of m t = totals_or_none (found m t)

abbrev pub with_chunk : HeapTotals → HeapTotals
with_chunk h = record h { chunks = raised_by h.chunks 1 }

-- an object has two words, and one for each field
abbrev pub totals_with_object : HeapTotals → ImageObject → HeapTotals
totals_with_object h o = record h { objects = raised_by h.objects 1; words = raised_by h.words (2 + length o.references + o.numbers) }

abbrev pub with_object_of : Heaps → ImageObject → Option ℕ → Heaps
with_object_of m o None = m
with_object_of m o (Some t) = with_entry m t (totals_with_object (held_of m t) o)

-- adds what a line says
abbrev pub held_with : Read → Heaps → ImageLine → Heaps
held_with r m (OfChunk c) = with_entry m c.owner (with_chunk (held_of m c.owner))
held_with r m (OfObject o) = with_object_of m o (owner_at r.chunks o.address)
held_with r m _ = m

-- adds what lines say
abbrev pub held_by : Read → Heaps → List (List ℕ) → Heaps
held_by r m [] = m
held_by r m (l ∷ ls) = held_by r (held_with r m (line_meaning l)) ls
