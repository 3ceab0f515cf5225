use Rattle.std.proofs.Common.{◌∙◌, map, arith, string_bytes, Global}
use Rattle.log_command.proofs.Names.{read_more, named_at}
use Rattle.log_command.proofs.read.read_texts.Goals as goal

pub loop-name-preserved : goal.loop-name-preserved
loop-name-preserved g c =
    let before = c.loop-name.invariant.faults in
    let after = c.in_ok-text.ensures.never_falls in
    record {
      texts =
          read_more (map (string_bytes {Z = Global}) c.args.names.now) c.loop-name.name-index _ _ _ _
          (c.as_str.ensures.value ∙ named_at (string_bytes {Z = Global}) c.args.names.now c.loop-name.name-index c.name-item.result c.loop-name-test.true c.name-item.is)
          c.loop-name.invariant.named c.loop-name.texts c.in_ok-text.text _ c.in_ok-push.ensures.ok c.loop-name.invariant.texts c.in_ok-text.ensures.text;
      named = λ n. c.in_ok-text.ensures.names n ∙ c.loop-name.invariant.named n;
      faults = omega (arith, before, after);
    }
