use Rattle.strand_hasher.proofs.Groups.{near_share}
use Rattle.strand_hasher.proofs.laws.near_strands_share_groups.Goals as goal

pub returns : goal.returns
returns c = near_share
