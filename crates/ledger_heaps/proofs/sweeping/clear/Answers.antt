use Rattle.ledger_heaps.proofs.Common.{rules, ◌≡◌, ◌∙◌, ◌+◌, List, ◌++◌, ◌∷◌, not, ap, sym, drop, map, not-not, is_empty, Name, in_snapshot, without_empty}
use Rattle.ledger_heaps.proofs.Cleared.{chunks_more, ends_empty, filled_more, snapshot_kept}
use Rattle.ledger_heaps.proofs.sweeping.clear.Goals as goal

pub loop-names-preserved : goal.loop-names-preserved
loop-names-preserved c =
    let h = c.args.heap.now in
    let lists = h.chunks in
    let rest = map (in_snapshot h) (drop (c.loop-names.names-index + 1) lists) in
    let more = chunks_more h c.loop-names.names-index c.names-item.result lists (search rules) (search rules) in
    let left : c.in_ok-left.left ≡ in_snapshot h c.names-item.result = search (rules, snapshot_kept) in
    record {
      chunks =
          ap (λ ls. ls ++ without_empty rest) c.in_ok-is_last_empty.ensures.chunks
          ∙ filled_more c.loop-names.chunks c.in_ok-left.left rest
          ∙ ap (λ ns. c.loop-names.chunks ++ without_empty (ns ∷ rest)) left
          ∙ ap (λ ls. c.loop-names.chunks ++ without_empty ls) (sym more)
          ∙ c.loop-names.invariant.chunks;
      last =
          ap (λ b. ends_empty (not b) rest) c.in_ok-is_last_empty.ensures.filled
          ∙ ap (λ b. ends_empty b rest) (not-not (is_empty c.in_ok-left.left))
          ∙ ap (λ (ns : List Name). ends_empty (is_empty ns) rest) left
          ∙ ap (ends_empty c.loop-names.is_last_empty) (sym more)
          ∙ c.loop-names.invariant.last;
    }
