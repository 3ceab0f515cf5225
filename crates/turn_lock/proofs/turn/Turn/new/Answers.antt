use Rattle.turn_lock.proofs.Common.{rules, ◌≡◌, ◌*◌, ap, subst, IfOk, view, opening_view, AreNewSeats}
use Rattle.turn_lock.proofs.SplitJoin.{opens_at}
use Rattle.turn_lock.proofs.turn.Turn.new.Goals as goal

pub new-requires : goal.new-requires
new-requires g c = opens_at g.T.Kept.journal g.T.Kept.worker_of g.T.Kept.fits g.T.Kept.setup c.args.value _ _ _ (search rules) c.of-key.ensures (ap (λ n. 2 * n) c.entries-count.ensures)

pub returns-in-Ok : goal.returns-in-Ok
returns-in-Ok g c = let is : view c.in-Ok.first ≡ opening_view g.T.Kept.journal g.T.Kept.setup c.args.value = search rules in
    subst (λ v. IfOk c.with_seats.result (λ t. AreNewSeats t.0.table.shared.table_id v c.args.workers t.1.items)) is c.with_seats.ensures
