use Rattle.ancestor_laws.proofs.Serial as proved
use Rattle.ancestor_laws.proofs.serial_order_extends.Goals as goal

pub returns : goal.returns
returns c = proved.serial_order_extends
