use Rattle.std.proofs.Common.{rules}
use Rattle.command_answers.proofs.input.read_input.Goals as goal

pub returns-in-Check-clause-input : goal.returns-in-Check-clause-input
returns-in-Check-clause-input g c = rw c.in-Check.is c.read_named.ensures.input

pub returns-in-Check-clause-taken : goal.returns-in-Check-clause-taken
returns-in-Check-clause-taken g c = rw c.in-Check.is (search rules)

pub returns-in-Run-clause-input : goal.returns-in-Run-clause-input
returns-in-Run-clause-input g c = rw c.in-Run.is c.read_named-in-Run.ensures.input

pub returns-in-Run-clause-taken : goal.returns-in-Run-clause-taken
returns-in-Run-clause-taken g c = rw c.in-Run.is (search rules)

pub returns-in-Replay-clause-input : goal.returns-in-Replay-clause-input
returns-in-Replay-clause-input g c = rw c.in-Replay.is c.read_named-in-Replay.ensures.input

pub returns-in-Replay-clause-taken : goal.returns-in-Replay-clause-taken
returns-in-Replay-clause-taken g c = rw c.in-Replay.is (search rules)

pub returns-in-Model-clause-input : goal.returns-in-Model-clause-input
returns-in-Model-clause-input g c = rw c.in-Model.is c.read_named-in-Model.ensures.input

pub returns-in-Model-clause-taken : goal.returns-in-Model-clause-taken
returns-in-Model-clause-taken g c = rw c.in-Model.is (search rules)

pub returns-in-Races-clause-input : goal.returns-in-Races-clause-input
returns-in-Races-clause-input g c = rw c.in-Races.is c.read_named-in-Races.ensures.input

pub returns-in-Races-clause-taken : goal.returns-in-Races-clause-taken
returns-in-Races-clause-taken g c = rw c.in-Races.is (search rules)

pub returns-in-Image-clause-input : goal.returns-in-Image-clause-input
returns-in-Image-clause-input g c = rw c.in-Image.is c.read_named-in-Image.ensures.input

pub returns-in-Image-clause-taken : goal.returns-in-Image-clause-taken
returns-in-Image-clause-taken g c = rw c.in-Image.is (search rules)

pub returns-in-Verify-clause-input : goal.returns-in-Verify-clause-input
returns-in-Verify-clause-input g c = rw c.in-Verify.is c.read_named-in-Verify.ensures.input

pub returns-in-Verify-clause-taken : goal.returns-in-Verify-clause-taken
returns-in-Verify-clause-taken g c = rw c.in-Verify.is (search rules)
