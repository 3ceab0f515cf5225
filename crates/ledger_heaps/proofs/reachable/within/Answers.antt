use Rattle.ledger_heaps.proofs.Common.{◌≡◌, ◌∙◌, Option, Some, List, filter, not, ap, sym, slice_get, rules, contains, hash_set_len, Name, Heap, holds_name, is_name, heap_of, held_in, or_fresh, roots_of, accounts}
use Rattle.ledger_heaps.proofs.Sought.{met_is_reached, none_held, nothing_reached}
use Rattle.ledger_heaps.proofs.reachable.within.Goals as goal

pub returns-then-is_empty : goal.returns-then-is_empty
returns-then-is_empty c =
    let l = accounts c.args.machine.now c.args.heaps.now in
    let at : slice_get c.args.heaps.now c.args.t ≡ Some c.in-Some.heap.now = search rules in
    let held : held_in c.in-Some.heap.now ≡ held_in (heap_of l c.args.t) = ap (λ (o : Option Heap). held_in (or_fresh o)) (sym at) in
    let none : hash_set_len c.in_ok-table_of_heap.field-0 ≡ 0 = search rules in
    c.new-then-is_empty.ensures
    ∙ nothing_reached c.args.machine.now.store (held_in (heap_of l c.args.t)) (roots_of l c.args.t)
    (λ n. ap (λ (ns : List Name). holds_name ns n) (sym held) ∙ (sym (c.in_ok-table_of_heap.ensures n) ∙ none_held (is_name n) c.in_ok-table_of_heap.field-0.keys none))

pub returns : goal.returns
returns c =
    let l = accounts c.args.machine.now c.args.heaps.now in
    let at : slice_get c.args.heaps.now c.args.t ≡ Some c.in-Some.heap.now = search rules in
    let held : held_in c.in-Some.heap.now ≡ held_in (heap_of l c.args.t) = ap (λ (o : Option Heap). held_in (or_fresh o)) (sym at) in
    let u = contains is_name c.explore.new.search.unmet in
    c.in_ok-names.ensures ∙ ap (λ (ns : List Name). filter (λ n. not (u n)) ns) held
    ∙ met_is_reached c.args.machine.now.store (held_in (heap_of l c.args.t)) (roots_of l c.args.t) u c.in_ok-explore.ensures
