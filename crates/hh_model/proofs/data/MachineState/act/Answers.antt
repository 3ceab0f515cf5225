use Rattle.hh_model.proofs.Common.{sym, subst, PathIsPrecedenceIn}
use Rattle.hh_model.proofs.data.MachineState.act.Goals as goal

pub read_reference-requires-clause-path : goal.read_reference-requires-clause-path
read_reference-requires-clause-path c = subst PathIsPrecedenceIn (sym (c.calculate.ensures.stays c.if-calculate.false)) c.requires.sound.path
