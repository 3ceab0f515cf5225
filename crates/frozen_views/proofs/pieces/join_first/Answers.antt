use Rattle.frozen_views.proofs.Common.{◌≡◌, ◌≤◌, ◌∙◌, ap, arith, length, sym, arc_value, option_or, Level, piece_in}
use Rattle.frozen_views.proofs.Levels as levels
use Rattle.frozen_views.proofs.pieces.join_first.Goals as goal

pub returns-clause-nearest : goal.returns-clause-nearest
returns-clause-nearest c = λ n.
    let xs = c.args.layers.now.items in
    let two : 2 ≤ length xs = omega arith in
    let first = rw c.remove-second.ensures.items at c.remove-first.ensures.value in
    let both = rw (c.deref.ensures, c.deref-2.ensures) at (c.in_ok-both.ensures n) in
    let is = ap (λ (l : Level). piece_in l n) c.in_ok-new.ensures.ok ∙ both in
    rw (c.in_ok-insert.ensures.items, c.remove-first.ensures.items, c.remove-second.ensures.items)
    (levels.two_first arc_value xs c.remove-second.result c.remove-first.result c.in_ok-new.field-0 n two c.remove-second.ensures.value first is)
