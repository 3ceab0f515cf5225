use Rattle.std.proofs.Common.{arith, sym}
use Rattle.object_layout.proofs.HoldLemmas as hold
use Rattle.object_layout.proofs.PlaceLemmas as place
use Rattle.object_layout.proofs.chunk.Chunk.used.Goals as goal

pub returns-clause-words : goal.returns-clause-words
returns-clause-words c = let h = hold.seen_holds c.self.inside.number c.self.inside.words.items c.self.inside.used c.args.self.now c.self.view_is c.self.invariant in let u = hold.held_used c.self.inside.words.items c.self.inside.used c.args.self.now.cells h in sym u

pub returns-clause-within : goal.returns-clause-within
returns-clause-within c = let h = hold.seen_holds c.self.inside.number c.self.inside.words.items c.self.inside.used c.args.self.now c.self.view_is c.self.invariant in let u = hold.held_used c.self.inside.words.items c.self.inside.used c.args.self.now.cells h in let s = hold.seen_size c.self.inside.number c.self.inside.words.items c.self.inside.used c.args.self.now c.self.view_is in let w = h.within in omega arith

pub returns-clause-begins : goal.returns-clause-begins
returns-clause-begins c = let h = hold.seen_holds c.self.inside.number c.self.inside.words.items c.self.inside.used c.args.self.now c.self.view_is c.self.invariant in let u = hold.held_used c.self.inside.words.items c.self.inside.used c.args.self.now.cells h in λ l. place.first_cell c.args.self.now.cells (omega arith)

pub returns-clause-ends : goal.returns-clause-ends
returns-clause-ends c = let h = hold.seen_holds c.self.inside.number c.self.inside.words.items c.self.inside.used c.args.self.now c.self.view_is c.self.invariant in let u = hold.held_used c.self.inside.words.items c.self.inside.used c.args.self.now.cells h in rw (← u) (place.cells_from-end c.args.self.now.cells)
