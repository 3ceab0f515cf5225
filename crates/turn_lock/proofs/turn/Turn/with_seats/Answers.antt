use Rattle.turn_lock.proofs.Common.{rules, ◌≡◌, suc, [], ◌∷◌, ◌++◌, length, ap, sym, ◌∙◌, subst, arith, view, newcomer, HasNoTurn, with_seat_more, split_view}
use Rattle.turn_lock.proofs.SplitJoin.{hires}
use Rattle.turn_lock.proofs.SeatLists.{AreNext, one_more, split_next}
use Rattle.turn_lock.proofs.turn.Turn.with_seats.Goals as goal

pub split_seat-requires : goal.split_seat-requires
split_seat-requires g c = let now = c.loop.invariant.1 in let was = c.requires.first.1.1 in (
  search rules,
  search rules,
  hires g.T.Kept.journal g.T.Kept.worker_of g.T.Kept.fits g.T.Kept.setup _ _ (ap (λ m. m.0.live) now ∙ ap (λ m. m.0.live) was) (ap (λ m. m.0.worker) now) (ap (λ m. m.0.taken) now ∙ ap (λ m. m.0.taken) was) (ap (λ m. m.0.joined) now ∙ ap (λ m. m.0.joined) was),
)

pub loop-preserved : goal.loop-preserved
loop-preserved g c = let v = c.args.first.me.0 in let z = c.args.self.table.shared.table_id in let inv = c.loop.invariant in let did = c.split_seat.ensures in let made = c.split_seat.result in let was = c.requires.first.1 in
    let long = inv.2 in let next : c.loop.counter ≡ suc (length c.loop.seats.items) = omega arith in
    let items : c.push.new.self.items ≡ c.loop.seats.items ++ made ∷ [] = search rules in
    let table : made.table_id ≡ z = search rules in
    let idle : HasNoTurn z made = ((table, ap (λ m. m.0.live) did.4), ap (λ m. m.0.taken) did.4, ap (λ m. m.1) did.4) in
    let is : view made ≡ newcomer v (suc (length c.loop.seats.items)) 0 = ap (λ m. m.0) did.4 ∙ (ap (λ m. split_view m.0) inv.1 ∙ split_next g.T.Kept.journal g.T.Kept.worker_of g.T.Kept.fits g.T.Kept.setup was.0 v c.loop.counter (length c.loop.seats.items) (ap (λ m. m.0) was.1) next) in (
      search rules,
      did.2 ∙ ap (λ m. (with_seat_more m.0, m.1)) inv.1,
      search rules,
      subst (AreNext z v) (sym items) (one_more z v c.loop.seats.items made inv.3 idle is),
    )
