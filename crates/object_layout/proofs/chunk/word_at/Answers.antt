use Rattle.object_layout.proofs.Common.{get_or_read, ◌+◌, ◌<◌, length, arith, ◌∙◌}
use Rattle.object_layout.proofs.HoldLemmas as hold
use Rattle.object_layout.proofs.chunk.word_at.Goals as goal

pub overflow_add-at : goal.overflow_add-at
overflow_add-at c = let o = hold.object_in c.chunk.inside.number c.chunk.inside.words.items c.chunk.inside.used c.args.chunk.now c.chunk.view_is c.chunk.invariant c.args.at c.requires.cell in omega arith

pub index-requires : goal.index-requires
index-requires c = let o = hold.object_in c.chunk.inside.number c.chunk.inside.words.items c.chunk.inside.used c.args.chunk.now c.chunk.view_is c.chunk.invariant c.args.at c.requires.cell in omega arith

pub returns-clause-word : goal.returns-clause-word
returns-clause-word c =
    let o = hold.object_in c.chunk.inside.number c.chunk.inside.words.items c.chunk.inside.used c.args.chunk.now c.chunk.view_is c.chunk.invariant c.args.at c.requires.cell in
    let at : c.args.at + c.args.k < length c.chunk.inside.words.items = omega arith in
    let word = hold.held_word c.chunk.inside.words.items c.chunk.inside.used c.args.chunk.now.cells o.holds c.args.at c.requires.cell c.args.k 0 c.requires.within in
    get_or_read c.chunk.inside.words.items (c.args.at + c.args.k) c.index.result.now at c.index.ensures 0 ∙ word

pub returns-clause-cell : goal.returns-clause-cell
returns-clause-cell c = let o = hold.object_in c.chunk.inside.number c.chunk.inside.words.items c.chunk.inside.used c.args.chunk.now c.chunk.view_is c.chunk.invariant c.args.at c.requires.cell in o.cell

pub returns-clause-ends : goal.returns-clause-ends
returns-clause-ends c = let o = hold.object_in c.chunk.inside.number c.chunk.inside.words.items c.chunk.inside.used c.args.chunk.now c.chunk.view_is c.chunk.invariant c.args.at c.requires.cell in omega arith

pub returns-clause-small : goal.returns-clause-small
returns-clause-small c = let o = hold.object_in c.chunk.inside.number c.chunk.inside.words.items c.chunk.inside.used c.args.chunk.now c.chunk.view_is c.chunk.invariant c.args.at c.requires.cell in omega arith
