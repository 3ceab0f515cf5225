use Rattle.turn_entries.proofs.Common.{◌≡◌, ap, sym, subst, ◌∙◌, Kind, End, Moved, not_refused, Private, Enters, refused, FitsCopied, end_entry, without_collection, end_free, end_cause}
use Rattle.turn_entries.proofs.Going.{may_ended}
use Rattle.turn_entries.proofs.Paying.{pays_nothing}
use Rattle.turn_entries.proofs.Turning.{one}
use Rattle.turn_entries.proofs.run.Run.end_leaf.Goals as goal

pub leaf_end-requires-clause-fits : goal.leaf_end-requires-clause-fits
leaf_end-requires-clause-fits g c =
    subst (λ (m : Moved). FitsCopied (g.P.EntryCalls.value c.args.self.now.paced) c.args.worker c.get_mut.result.now m) (sym c.into_inner.ensures)
    (subst (λ (q : Private). FitsCopied (g.P.EntryCalls.value c.args.self.now.paced) c.args.worker q c.args.copied.moved) (sym c.get_mut.ensures.value) c.requires.fits)

pub unreachable-requires : goal.unreachable-requires
unreachable-requires g c =
    not_refused _ c.in-Err.field-0.cause (end_free (g.P.EntryCalls.value c.args.self.now.paced) c.args.worker c.args.copied.part c.args.copied.moved c.stands.ensures.stands c.requires.enter.free c.requires.fits)
    (ap (λ (q : Private). refused (g.P.EntryCalls.value c.args.self.now.paced) (end_entry c.args.worker q c.args.copied.moved)) (sym c.get_mut.ensures.value)
    ∙ (ap (λ (m : Moved). refused (g.P.EntryCalls.value c.args.self.now.paced) (end_entry c.args.worker c.get_mut.result.now m)) (sym c.into_inner.ensures)
    ∙ (sym c.leaf_end.ensures.refused ∙ ap end_cause c.in-Err.is)))

pub returns : goal.returns
returns g c = λ ready.
    let kind : Kind = End c.args.copied.part.task c.args.copied.moved.taken c.args.copied.moved.given c.args.copied.moved.left in
    c.entered.ensures (g.P.EntryCalls.value c.args.self.now.paced) c.args.worker ready kind
    (one (g.P.EntryCalls.value c.args.self.now.paced) (g.P.EntryCalls.value c.leaf_end.new.self) c.args.worker kind
    (subst (λ (q : Private). Enters (g.P.EntryCalls.value c.args.self.now.paced) (g.P.EntryCalls.value c.leaf_end.new.self) (end_entry c.args.worker q c.args.copied.moved)) c.get_mut.ensures.value
    (subst (λ (m : Moved). Enters (g.P.EntryCalls.value c.args.self.now.paced) (g.P.EntryCalls.value c.leaf_end.new.self) (end_entry c.args.worker c.get_mut.result.now m)) c.into_inner.ensures c.in-Ok.ensures.enters)) c.in-Ok.ensures.others)
    c.requires.enter.on
    (λ on. (
      on,
      may_ended (g.P.EntryCalls.value c.leaf_end.new.self) c.args.worker c.args.copied.part c.leaf_end.new.part (g.P.EntryCalls.value c.args.self.now.paced) c.args.copied.moved c.in-Ok.ensures.fits c.requires.fits
          (subst (λ (q : Private). c.leaf_end.new.part ≡ without_collection q) c.get_mut.ensures.value c.in-Ok.ensures.part),
    ))

pub leaf_end-requires-clause-room : goal.leaf_end-requires-clause-room
leaf_end-requires-clause-room g c = c.requires.enter.room

pub leaf_end-requires-clause-pays : goal.leaf_end-requires-clause-pays
leaf_end-requires-clause-pays g c = pays_nothing (g.P.EntryCalls.value c.args.self.now.paced) c.args.worker (End c.get_mut.result.now.task c.into_inner.result.taken c.into_inner.result.given c.into_inner.result.left) c.requires.enter.owed
