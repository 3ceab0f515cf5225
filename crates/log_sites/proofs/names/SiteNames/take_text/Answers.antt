use Rattle.log_sites.proofs.Common.{◌∙◌, ℕ, List, Bor, name_of}
use Rattle.log_sites.proofs.Known.{at_some, at_none, named_next, named_last}
use Rattle.log_sites.proofs.names.SiteNames.take_text.Goals as goal

pub lines-preserved : goal.lines-preserved
lines-preserved c =
    let e = at_some (λ (r : Bor (List ℕ)). r.now) c.next_line.result.1 c.lines.left.now c.next_line.result.0.now c.in-Some.rest c.in-Some.is c.next_line.ensures.lines in
    λ s. named_next s c.lines.left.now c.next_line.result.0.now c.in-Some.rest.now (name_of c.lines.self s) (name_of c.take_line.new.self s) e (c.in_ok-take_line-in-Some.ensures s) ∙ c.lines.invariant s
