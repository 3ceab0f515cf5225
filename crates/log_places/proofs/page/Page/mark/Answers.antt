use Rattle.log_places.proofs.Finding.{still_ordered}
use Rattle.log_places.proofs.page.Page.mark.Goals as goal

pub invariant_of-self : goal.invariant_of-self
invariant_of-self c =
    still_ordered c.mark.result c.self.inside.stretches.items c.mark.new.stretches.items c.args.start c.args.end c.requires c.self.invariant c.mark.ensures.ok c.mark.ensures.err
