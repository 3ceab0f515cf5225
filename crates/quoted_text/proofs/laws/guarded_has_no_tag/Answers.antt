use Rattle.quoted_text.proofs.Tags as proved
use Rattle.quoted_text.proofs.laws.guarded_has_no_tag.Goals as goal

pub returns : goal.returns
returns c = proved.guarded_has_no_tag
