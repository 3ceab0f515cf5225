use Rattle.object_layout.proofs.Common.{Header, ◌≡◌, ◌+◌, length, arith, ap, size_of, cell_at}
use Rattle.object_layout.proofs.PlaceLemmas as place
use Rattle.object_layout.proofs.ReadLemmas as read
use Rattle.object_layout.proofs.chunk.next_at.Goals as goal

pub overflow_add-result : goal.overflow_add-result
overflow_add-result c = let same = read.header_read (cell_at c.args.chunk.now.cells c.args.at) c.word_at.ensures.cell _ c.word_at.ensures.word _ c.header_from_word-header.ensures in let nr : c.header_from_word-header.result.nrefs ≡ length (cell_at c.args.chunk.now.cells c.args.at).refs = ap (λ (h : Header). h.nrefs) same in let ni : c.header_from_word-header.result.nints ≡ length (cell_at c.args.chunk.now.cells c.args.at).ints = ap (λ (h : Header). h.nints) same in omega arith

pub overflow_add-result-2 : goal.overflow_add-result-2
overflow_add-result-2 c = let same = read.header_read (cell_at c.args.chunk.now.cells c.args.at) c.word_at.ensures.cell _ c.word_at.ensures.word _ c.header_from_word-header.ensures in let nr : c.header_from_word-header.result.nrefs ≡ length (cell_at c.args.chunk.now.cells c.args.at).refs = ap (λ (h : Header). h.nrefs) same in let ni : c.header_from_word-header.result.nints ≡ length (cell_at c.args.chunk.now.cells c.args.at).ints = ap (λ (h : Header). h.nints) same in omega arith

pub overflow_add-result-3 : goal.overflow_add-result-3
overflow_add-result-3 c = let same = read.header_read (cell_at c.args.chunk.now.cells c.args.at) c.word_at.ensures.cell _ c.word_at.ensures.word _ c.header_from_word-header.ensures in let nr : c.header_from_word-header.result.nrefs ≡ length (cell_at c.args.chunk.now.cells c.args.at).refs = ap (λ (h : Header). h.nrefs) same in let ni : c.header_from_word-header.result.nints ≡ length (cell_at c.args.chunk.now.cells c.args.at).ints = ap (λ (h : Header). h.nints) same in omega arith

pub returns-clause-next : goal.returns-clause-next
returns-clause-next c = let same = read.header_read (cell_at c.args.chunk.now.cells c.args.at) c.word_at.ensures.cell _ c.word_at.ensures.word _ c.header_from_word-header.ensures in let nr : c.header_from_word-header.result.nrefs ≡ length (cell_at c.args.chunk.now.cells c.args.at).refs = ap (λ (h : Header). h.nrefs) same in let ni : c.header_from_word-header.result.nints ≡ length (cell_at c.args.chunk.now.cells c.args.at).ints = ap (λ (h : Header). h.nints) same in omega arith

pub returns-clause-within : goal.returns-clause-within
returns-clause-within c = let same = read.header_read (cell_at c.args.chunk.now.cells c.args.at) c.word_at.ensures.cell _ c.word_at.ensures.word _ c.header_from_word-header.ensures in let nr : c.header_from_word-header.result.nrefs ≡ length (cell_at c.args.chunk.now.cells c.args.at).refs = ap (λ (h : Header). h.nrefs) same in let ni : c.header_from_word-header.result.nints ≡ length (cell_at c.args.chunk.now.cells c.args.at).ints = ap (λ (h : Header). h.nints) same in omega arith

pub returns-clause-begins : goal.returns-clause-begins
returns-clause-begins c =
    let same = read.header_read (cell_at c.args.chunk.now.cells c.args.at) c.word_at.ensures.cell _ c.word_at.ensures.word _ c.header_from_word-header.ensures in let nr : c.header_from_word-header.result.nrefs ≡ length (cell_at c.args.chunk.now.cells c.args.at).refs = ap (λ (h : Header). h.nrefs) same in let ni : c.header_from_word-header.result.nints ≡ length (cell_at c.args.chunk.now.cells c.args.at).ints = ap (λ (h : Header). h.nints) same in
    let e : c.args.at + (2 + (c.header_from_word-header.result.nrefs + c.header_from_word-header.result.nints)) ≡ c.args.at + size_of (cell_at c.args.chunk.now.cells c.args.at) = omega arith in
    λ l. rw e (place.next_cell c.args.chunk.now.cells c.args.at c.requires (rw e at l))

pub returns-clause-rest : goal.returns-clause-rest
returns-clause-rest c =
    let same = read.header_read (cell_at c.args.chunk.now.cells c.args.at) c.word_at.ensures.cell _ c.word_at.ensures.word _ c.header_from_word-header.ensures in let nr : c.header_from_word-header.result.nrefs ≡ length (cell_at c.args.chunk.now.cells c.args.at).refs = ap (λ (h : Header). h.nrefs) same in let ni : c.header_from_word-header.result.nints ≡ length (cell_at c.args.chunk.now.cells c.args.at).ints = ap (λ (h : Header). h.nints) same in
    let e : c.args.at + (2 + (c.header_from_word-header.result.nrefs + c.header_from_word-header.result.nints)) ≡ c.args.at + size_of (cell_at c.args.chunk.now.cells c.args.at) = omega arith in
    rw e (place.cells_from-next c.args.chunk.now.cells c.args.at c.requires)
