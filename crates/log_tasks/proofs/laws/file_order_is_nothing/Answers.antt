use Rattle.log_tasks.proofs.FileOrder as proved
use Rattle.log_tasks.proofs.laws.file_order_is_nothing.Goals as goal

pub returns : goal.returns
returns c = proved.file_order_is_nothing
