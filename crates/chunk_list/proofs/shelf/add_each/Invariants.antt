use Rattle.chunk_list.proofs.Common.{◌≡◌, ℕ, None, cond, take, option_or, is_among, level_of, piece_in}
use Rattle.chunk_list.proofs.shelf.add_each.Given as goal

abbrev pub invariant-loop-number : goal.invariant-loop-number
invariant-loop-number l = (n : ℕ) → piece_in l.layer n ≡ option_or (piece_in l.fn.layer n) (cond (is_among (take l.number-index l.numbers) n) (piece_in (level_of l.chunks) n) None)
