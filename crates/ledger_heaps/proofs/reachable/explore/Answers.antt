use Rattle.ledger_heaps.proofs.Common.{◌≡◌, ◌++◌, ◌∷◌, [], List, subst, rules, contains, Name, is_name, heap_of, held_in, roots_of, accounts, Meets}
use Rattle.ledger_heaps.proofs.Sought.{Sought, sought_start, sought_step, sought_end}
use Rattle.ledger_heaps.proofs.reachable.explore.Goals as goal

pub loop-name-init : goal.loop-name-init
loop-name-init c =
    let l = accounts c.args.machine.now c.args.heaps.now in
    let names = held_in (heap_of l c.args.t) in
    let roots = roots_of l c.args.t in
    let u = contains is_name c.args.search.now.unmet in
    let v = contains is_name c.meet_roots.new.search.unmet in
    let w = c.meet_roots.new.search.waiting in
    sought_start c.args.machine.now.store names roots u v w c.requires.unmet
    (subst (λ (ws : List Name). Meets roots u v ws w) c.requires.waiting c.in_ok-meet_roots.ensures)

pub loop-name-preserved : goal.loop-name-preserved
loop-name-preserved c =
    let l = accounts c.args.machine.now c.args.heaps.now in
    let names = held_in (heap_of l c.args.t) in
    let roots = roots_of l c.args.t in
    let u = contains is_name c.loop-name.search.unmet in
    let v = contains is_name c.follow.new.self.unmet in
    let before : c.loop-name.search.waiting ≡ c.pop.new.self ++ c.in-Some.name ∷ [] = search rules in
    sought_step c.args.machine.now.store names roots c.in-Some.name u v c.pop.new.self c.follow.new.self.waiting
    (subst (λ (ws : List Name). Sought c.args.machine.now.store names roots u ws) before c.loop-name.invariant) c.in_ok-follow.ensures.met

pub returns : goal.returns
returns c n =
    let l = accounts c.args.machine.now c.args.heaps.now in
    let names = held_in (heap_of l c.args.t) in
    let roots = roots_of l c.args.t in
    let u = contains is_name c.loop-name.search.unmet in
    let over : c.loop-name.search.waiting ≡ [] = search rules in
    sought_end c.args.machine.now.store names roots u (subst (λ (ws : List Name). Sought c.args.machine.now.store names roots u ws) over c.loop-name.invariant) n
