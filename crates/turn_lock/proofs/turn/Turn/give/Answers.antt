use Rattle.turn_lock.proofs.Common.{rules, ◌∷◌, Some, ap, sym, ◌∙◌, subst, rest, Knows}
use Rattle.turn_lock.proofs.Keeps.{gives_keep, fitting}
use Rattle.turn_lock.proofs.Laws.{gave_one}
use Rattle.turn_lock.proofs.turn.Turn.give.Goals as goal

pub fetch_add-requires : goal.fetch_add-requires
fetch_add-requires g c = let t = c.requires.turn in let old = c.args.seat.now.me in let value = c.args.value in (
  search rules,
  search rules,
  gives_keep g.T.Kept.journal g.T.Kept.worker_of g.T.Kept.fits g.T.Kept.setup _ _ _ old.0 t.0 value g.L.PartAfter.part c.args.self.now.sized.1 t.1.0.1 t.1.1
      (c.exchange.ensures.3 ∙ ap (λ l. (old.0, (0, Some value) ∷ rest l)) t.1.2) t.2
      (λ p is. fitting (g.T.Kept.fits value old.0.worker) c.args.part p (sym c.requires.left ∙ is) c.requires.part),
)

-- the seat knew of the value that it took
pub returns-clause-own : goal.returns-clause-own
returns-clause-own g c = let t = c.requires.turn in let old = c.args.seat.now.me in let value = c.args.value in let did = c.fetch_add.ensures.2 in
    let put = c.exchange.ensures.3 ∙ ap (λ l. (old.0, (0, Some value) ∷ rest l)) t.1.2 in let gave = did.0 value (ap (λ m. m.1) put) in
    let knew = subst (λ v. Knows g.T.Kept.journal g.T.Kept.worker_of g.T.Kept.fits g.T.Kept.setup t.0 v) (ap (λ m. m.0) put) (did.1 t.0 (ap (λ m. m.0.taken) put ∙ t.1.1)) in
    gave_one g.T.Kept.journal g.T.Kept.worker_of g.T.Kept.fits g.T.Kept.setup t.0 value old.0 c.fetch_add.new.seat.me.0 knew t.2 (ap (λ m. m.0.worker) gave ∙ ap (λ m. m.0.worker) put) (ap (λ m. m.0.seen) gave)
