use Rattle.path_laws.proofs.FreeReads as proved
use Rattle.path_laws.proofs.laws.stops_name_owners.Goals as goal

pub returns : goal.returns
returns c = proved.stops_name_owners
