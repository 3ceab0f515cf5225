use Rattle.log_tasks.proofs.FileOrder as proved
use Rattle.log_tasks.proofs.laws.files_may_change_places.Goals as goal

pub returns : goal.returns
returns c = proved.files_may_change_places
