use Rattle.journal_replay.proofs.Common.{arith, refl, private_limit}
use Rattle.journal_replay.proofs.Entries.{few_allocations}
use Rattle.journal_replay.proofs.apply_ran.run_part.Goals as goal

pub run_more-requires-clause-counted : goal.run_more-requires-clause-counted
run_more-requires-clause-counted g c = few_allocations (g.S.LegalCalls.value c.args.shared.now) c.args.part.now c.args.steps c.stands.ensures (c.requires.holds.entered refl) c.may_run.ensures c.requires.few

pub run_more-requires-2-clause-counted : goal.run_more-requires-2-clause-counted
run_more-requires-2-clause-counted g c = few_allocations (g.S.LegalCalls.value c.args.shared.now) c.args.part.now private_limit c.stands.ensures (c.requires.holds.entered refl) c.may_run.ensures (omega arith)

pub run_more-requires-in-Spent-clause-counted : goal.run_more-requires-in-Spent-clause-counted
run_more-requires-in-Spent-clause-counted g c =
    let few = few_allocations (g.S.LegalCalls.value c.args.shared.now) c.args.part.now 257 c.stands.ensures (c.requires.holds.entered refl) c.may_run.ensures (omega arith) in
    let more = c.run_more-2.ensures.counted in
    omega (arith, few, more)
