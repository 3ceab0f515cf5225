use Rattle.std.proofs.lemmas.Result.{on_ok_weaker}
use Rattle.fault_lines.proofs.Pieces.{further_added}
use Rattle.fault_lines.proofs.json.add_further.Goals as goal

pub returns : goal.returns
returns c = on_ok_weaker c.add_fault.result (λ e. further_added c.args.fault.now c.args.text.now.items _ _ _ c.in_ok-push.ensures.items c.in_ok-push-2.ensures.items e) c.add_fault.ensures
