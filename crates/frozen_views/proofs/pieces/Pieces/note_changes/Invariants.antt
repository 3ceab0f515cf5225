use Rattle.frozen_views.proofs.Common.{take, numbers_of, NotesChanges}
use Rattle.frozen_views.proofs.pieces.Pieces.note_changes.Given as goal

abbrev pub invariant-loop-chunk : goal.invariant-loop-chunk
invariant-loop-chunk l = NotesChanges l.fn.self l.self (numbers_of (take l.chunk-index l.chunks))
