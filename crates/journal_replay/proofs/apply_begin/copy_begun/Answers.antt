use Rattle.journal_replay.proofs.BegunPart.{can_copy, holds_copy, takes}
use Rattle.journal_replay.proofs.apply_begin.copy_begun.Goals as goal

pub copy-requires-clause-closed : goal.copy-requires-clause-closed
copy-requires-clause-closed g c κs =
    (can_copy (g.S.LegalCalls.value c.args.shared.now) c.args.worker c.requires.begun.0 c.args.part.now c.args.roots.now c.args.to_chunks c.requires.begun.1 c.stands.ensures c.requires.fits c.requires.fresh c.requires.goes).closed

pub copy-requires-clause-outside : goal.copy-requires-clause-outside
copy-requires-clause-outside g c κs =
    (can_copy (g.S.LegalCalls.value c.args.shared.now) c.args.worker c.requires.begun.0 c.args.part.now c.args.roots.now c.args.to_chunks c.requires.begun.1 c.stands.ensures c.requires.fits c.requires.fresh c.requires.goes).outside

pub copy-requires-clause-enough : goal.copy-requires-clause-enough
copy-requires-clause-enough g c κs =
    (takes (g.S.LegalCalls.value c.args.shared.now) c.args.worker c.requires.begun.0 c.args.part.now c.args.roots.now c.args.to_chunks c.requires.begun.1 c.stands.ensures c.requires.fits c.requires.fresh c.requires.goes).enough

pub returns : goal.returns
returns g c =
    holds_copy (g.S.LegalCalls.value c.args.shared.now) c.args.worker c.requires.begun.0 c.args.part.now c.args.roots.now c.args.to_chunks c.requires.begun.1 c.stands.ensures c.requires.fits c.requires.fresh c.requires.goes
    c.copy.new.heap c.copy.new.frames c.copy.result c.copy.ensures
