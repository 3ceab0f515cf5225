use Rattle.turn_lock.proofs.Common.{rules, ◌∷◌, Some, ap, ◌∙◌, subst, rest, Knows}
use Rattle.turn_lock.proofs.Keeps.{returns_keep}
use Rattle.turn_lock.proofs.Laws.{gave_none}
use Rattle.turn_lock.proofs.turn.Turn.release_unchanged.Goals as goal

pub fetch_sub-requires : goal.fetch_sub-requires
fetch_sub-requires g c = let t = c.requires in let old = c.args.seat.now.me in (
  search rules,
  search rules,
  returns_keep g.T.Kept.journal g.T.Kept.worker_of g.T.Kept.fits g.T.Kept.setup _ _ _ old.0 t.0 c.args.value c.args.self.now.sized.1 t.1.0.1 t.1.1
      (c.exchange.ensures.3 ∙ ap (λ l. (old.0, (0, Some c.args.value) ∷ rest l)) t.1.2) t.2,
)

-- the seat knew of the value that it took
pub returns-clause-own : goal.returns-clause-own
returns-clause-own g c = let t = c.requires in let old = c.args.seat.now.me in let value = c.args.value in let did = c.fetch_sub.ensures.2 in
    let put = c.exchange.ensures.3 ∙ ap (λ l. (old.0, (0, Some value) ∷ rest l)) t.1.2 in let gave = did.0 value (ap (λ m. m.1) put) in
    let knew = subst (λ v. Knows g.T.Kept.journal g.T.Kept.worker_of g.T.Kept.fits g.T.Kept.setup t.0 v) (ap (λ m. m.0) put) (did.1 t.0 (ap (λ m. m.0.taken) put ∙ t.1.1)) in
    gave_none g.T.Kept.journal g.T.Kept.worker_of g.T.Kept.fits g.T.Kept.setup t.0 value old.0 c.fetch_sub.new.seat.me.0 knew t.2 (ap (λ m. m.0.worker) gave ∙ ap (λ m. m.0.worker) put) (ap (λ m. m.0.seen) gave)
