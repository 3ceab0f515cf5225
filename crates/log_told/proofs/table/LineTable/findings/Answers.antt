use Rattle.log_told.proofs.Common.{◌∙◌, ap, map, take_all, told_use}
use Rattle.log_told.proofs.Tables.{more_told}
use Rattle.log_told.proofs.table.LineTable.findings.Goals as goal

pub loop-finding-preserved : goal.loop-finding-preserved
loop-finding-preserved c = λ texts wanted is all.
    more_told (told_use texts) c.args.findings.now c.loop-finding.finding-index _ c.loop-finding.told c.push.new.self c.finding.result c.loop-finding-test.true
    (c.loop-finding.invariant texts wanted is all) (c.finding.ensures texts wanted is (all c.loop-finding.finding-index _ c.loop-finding-test.true)) c.in_ok-push.ensures.ok

pub returns : goal.returns
returns c = λ texts wanted is all. c.loop-finding.invariant texts wanted is all ∙ ap (map (told_use texts)) (take_all c.loop-finding.finding-index c.args.findings.now c.loop-finding-test.false)
