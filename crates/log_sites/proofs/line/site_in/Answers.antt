use Rattle.log_sites.proofs.Common.{sym, ◌∙◌}
use Rattle.log_sites.proofs.Known.{other_line}
use Rattle.log_sites.proofs.line.site_in.Goals as goal

pub returns-then-not-begins_with : goal.returns-then-not-begins_with
returns-then-not-begins_with c = other_line c.args.line.now (sym c.begins_with.ensures ∙ c.if-not-begins_with.true)
