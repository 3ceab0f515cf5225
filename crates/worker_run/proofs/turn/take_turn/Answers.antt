use Rattle.worker_run.proofs.Common.{◌≡◌, ◌∷◌, ◌++◌, [], ap, inl, inr, refl, subst, sym, ◌∙◌, ProgramText, own_entries, view, identity, Entered, Next, Acts, GoesWith, Sight, worker_of, IsWorkerState}
use Rattle.worker_run.proofs.Giving.{alike, brings, has_entry, program_entered, takes_from}
use Rattle.worker_run.proofs.turn.take_turn.Goals as goal

pub act-requires-clause-brings : goal.act-requires-clause-brings
act-requires-clause-brings g c =
    brings g.P.EntryCalls.value c.args.shop.now.program.now c.args.worker_state.now c.take-run.result (view c.args.worker_state.now.seat) c.take-run.ensures.value c.requires.worker_state.number c.requires.worker_state.under c.args.ready c.requires.comes

pub give-requires-clause-entry : goal.give-requires-clause-entry
give-requires-clause-entry g c =
    let A = c.in-Entered.ensures in
    has_entry g.P.EntryCalls.value (identity c.args.shop.now.turn.now) c.args.shop.now.program.now c.args.worker_state.now (record c.args.worker_state.now { seat = c.take-run.new.seat }) c.take-run.result c.act.new.self c.requires.worker_state refl c.take-run.ensures.turn c.take-run.ensures.seat
    c.take-run.ensures.value A.made A.enters A.shared

pub give-requires-clause-takes : goal.give-requires-clause-takes
give-requires-clause-takes g c = takes_from (g.P.EntryCalls.value c.take-run.result.paced) (g.P.EntryCalls.value c.act.new.self.paced) c.args.worker_state.now.worker c.args.ready c.in-Entered.next c.in-Entered.ensures.follows

pub release_unchanged-requires : goal.release_unchanged-requires
release_unchanged-requires g c = (c.take-run.result, c.take-run.ensures.turn, alike g.P.EntryCalls.value c.take-run.result c.act.new.self c.in-Same.ensures.0)

pub returns-in-Entered-clause-worker_state : goal.returns-in-Entered-clause-worker_state
returns-in-Entered-clause-worker_state g c =
    let z = identity c.args.shop.now.turn.now in
    let A = c.in-Entered.ensures in
    let runs : (g.P.EntryCalls.value c.act.new.self.paced).program ≡ c.args.shop.now.program.now = program_entered g.P.EntryCalls.value z c.args.shop.now.program.now c.args.worker_state.now c.take-run.result c.act.new.self c.requires.worker_state c.take-run.ensures.value A.made A.enters in
    subst (λ (p : ProgramText). IsWorkerState z p c.give.new.worker_state) runs c.give.ensures.worker_state

pub returns-in-Entered-clause-next : goal.returns-in-Entered-clause-next
returns-in-Entered-clause-next g c =
    let z = identity c.args.shop.now.turn.now in
    let A = c.in-Entered.ensures in
    let runs : (g.P.EntryCalls.value c.act.new.self.paced).program ≡ c.args.shop.now.program.now = program_entered g.P.EntryCalls.value z c.args.shop.now.program.now c.args.worker_state.now c.take-run.result c.act.new.self c.requires.worker_state c.take-run.ensures.value A.made A.enters in
    subst (λ (p : ProgramText). GoesWith p c.args.worker_state.now.worker (view c.give.new.worker_state.seat).part c.give.result) runs c.give.ensures.next

pub returns-in-Entered-clause-turn : goal.returns-in-Entered-clause-turn
returns-in-Entered-clause-turn g c = record {
  place = c.give.ensures.place;
  taken = c.take-run.result;
  knows = c.take-run.ensures.value;
  given = c.act.new.self;
  gave = c.give.ensures.gave;
  does = inl (
    subst (λ (n : Next). Acts (g.P.EntryCalls.value c.take-run.result.paced) (g.P.EntryCalls.value c.act.new.self.paced) c.args.worker_state.now.worker c.args.ready (Entered n)) (sym c.give.ensures.kept) c.in-Entered.ensures,
    (c.give.ensures.one.0, c.give.ensures.one.1 ∙ ap (λ (v : Sight g.row.P.Denot). own_entries worker_of v ++ c.give.ensures.one.0 ∷ []) c.take-run.ensures.seat),
  );
}

pub returns-in-Same-clause-turn : goal.returns-in-Same-clause-turn
returns-in-Same-clause-turn g c = record {
  place = refl;
  taken = c.take-run.result;
  knows = c.take-run.ensures.value;
  given = c.act.new.self;
  gave = record { given = ap (λ (v : Sight g.row.P.Denot). v.given) c.release_unchanged.ensures.seat.1; seen = ap (λ (v : Sight g.row.P.Denot). v.seen) c.release_unchanged.ensures.seat.1 };
  does = inr (c.in-Same.ensures, c.release_unchanged.ensures.own ∙ ap (λ (v : Sight g.row.P.Denot). own_entries worker_of v) c.take-run.ensures.seat);
}
