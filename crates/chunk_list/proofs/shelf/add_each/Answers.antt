use Rattle.chunk_list.specs.View.{piece_in}
use Rattle.chunk_list.proofs.ViewLemmas as view
use Rattle.chunk_list.proofs.shelf.add_each.Goals as goal

pub loop-number-preserved : goal.loop-number-preserved
loop-number-preserved c = λ n.
    view.next_number c.args.chunks.now c.args.numbers.now c.loop-number.number-index _ c.loop-number-test.true (piece_in c.add_one.new.layer n) (piece_in c.loop-number.layer n) (piece_in c.args.layer.now n) n (c.in_ok-add_one.ensures n) (c.loop-number.invariant n)
