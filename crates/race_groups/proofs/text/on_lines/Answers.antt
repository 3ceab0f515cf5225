use Rattle.race_groups.proofs.Common.{◌∙◌, append_assoc, IfOk-weaker, ne_eqb}
use Rattle.race_groups.proofs.text.on_lines.Goals as goal

pub returns-else-first-second : goal.returns-else-first-second
returns-else-first-second c =
    IfOk-weaker c.format-else-first-second.result _ _ (λ s e. e ∙ rw (ne_eqb c.args.first c.args.second c.if-first-second.false) (simp append_assoc)) c.format-else-first-second.ensures.ok
