use Rattle.read_name_laws.proofs.Named.{read_programs_are_named}
use Rattle.read_name_laws.proofs.read_programs_are_named.Goals as goal

pub returns : goal.returns
returns c = read_programs_are_named
