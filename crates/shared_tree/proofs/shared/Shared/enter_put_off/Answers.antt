use Rattle.shared_tree.proofs.Common.{put_off_entered, reset, LeafEntered, asks_leaf, journal_by, SharedValue, WorkerPartFits, OthersFit, ReservedVecValue, EntryValue, PutOff, Private, the_view, sym, subst, ◌∙◌, ap, ◌-◌, []}
use Rattle.shared_tree.proofs.shared.Shared.enter_put_off.Goals as goal

module _ (c : goal.After-reset_since) where
  abbrev w : SharedValue
  w = the_view c.self.inside

  abbrev p : Private
  p = c.args.part.now

  abbrev e : EntryValue
  e = record { worker = c.args.worker; kind = PutOff p.task }

  abbrev with : ReservedVecValue EntryValue → SharedValue
  with j = record w { journal = j }

  made : LeafEntered w (with c.push_reserved.new.self) e (record p { heap = reset p.heap })
  made =
      let asks = asks_leaf PutOff c.self.view_is c.self.invariant c.requires.fits c.requires.fresh c.requires.free in
      let journal = journal_by w.journal c.push_reserved.new.self c.new.result e (c.new.ensures ∙ ap (λ t. record { worker = c.args.worker; kind = PutOff t }) c.requires.task) c.push_reserved.ensures in
      subst (λ (j : ReservedVecValue EntryValue). LeafEntered w (with j) e (record p { heap = reset p.heap })) (sym journal) (put_off_entered asks (record { items = []; room = w.journal.room - 1 }))

pub invariant_of-self : goal.invariant_of-self
invariant_of-self c = (made c).world

pub returns-clause-fits : goal.returns-clause-fits
returns-clause-fits c = subst (WorkerPartFits (with c c.push_reserved.new.self) c.args.worker) (sym c.reset_since.ensures.changed) (made c).part

pub returns-clause-others : goal.returns-clause-others
returns-clause-others c = subst (λ (z : SharedValue). OthersFit z (with c c.push_reserved.new.self) c.args.worker) c.self.view_is (made c).others
