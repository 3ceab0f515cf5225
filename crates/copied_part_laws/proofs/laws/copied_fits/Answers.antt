use Rattle.copied_part_laws.proofs.CopyHanded as proved
use Rattle.copied_part_laws.proofs.laws.copied_fits.Goals as goal

pub returns : goal.returns
returns c = proved.copied_fits
