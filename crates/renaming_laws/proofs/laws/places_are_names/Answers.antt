use Rattle.renaming_laws.proofs.Named.{places_are_names}
use Rattle.renaming_laws.proofs.laws.places_are_names.Goals as goal

pub returns : goal.returns
returns c = places_are_names
