use Rattle.ancestor_laws.proofs.Blocks as proved
use Rattle.ancestor_laws.proofs.serial_order_tells.Goals as goal

pub returns : goal.returns
returns c = proved.serial_order_tells
