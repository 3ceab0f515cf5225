use Rattle.ancestor_laws.proofs.CutRuns as proved
use Rattle.ancestor_laws.proofs.cut_runs_speak_truly.Goals as goal

pub returns : goal.returns
returns c = proved.cut_runs_speak_truly
