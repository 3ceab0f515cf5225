use Rattle.ledger_heaps.proofs.Common.{◌≡◌, ◌∙◌, ap, filter, List, flat_map, refs_at, owner_of, holds_name, held, is_proper_ancestor, accounts, ancestors, references_from_heaps}
use Rattle.ledger_heaps.proofs.Above.{above_same}
use Rattle.ledger_heaps.proofs.Meets.{meets_same}
use Rattle.ledger_heaps.proofs.reachable.meet_above.Goals as goal

pub returns : goal.returns
returns c =
    let m = c.args.machine.now in
    let heaps = c.args.heaps.now in
    let t = c.args.t in
    let same : c.as_slice.result.now ≡ ancestors m.tasks t = c.as_slice.ensures ∙ c.in_ok-above.ensures in
    meets_same (flat_map (references_from_heaps m.store heaps t) c.as_slice.result.now) (flat_map (refs_at m.store) (filter (λ n. is_proper_ancestor m.tasks (owner_of m.tasks n.task) t) (held (accounts m heaps)))) _ _ _ _
    (λ n. ap (λ (ts : List _). holds_name (flat_map (references_from_heaps m.store heaps t) ts) n) same ∙ above_same m heaps t c.requires n) c.in_ok-follow_heaps.ensures
