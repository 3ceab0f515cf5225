use Rattle.std.proofs.Common.{◌∙◌, ap, sym, arith, Some}
use Rattle.log_pieces.proofs.Along.{reached_fault, reached_more, pieces_end}
use Rattle.log_pieces.proofs.walk.LineWalk.take_lines.Goals as goal

pub returns-in-Some-2-clause-found : goal.returns-in-Some-2-clause-found
returns-in-Some-2-clause-found c = λ spot f.
    let r = c.loop-end.invariant.reaches spot f in
    ap Some (c.found.ensures ∙ ap (λ n. record { at = record { file = n; line = c.loop-end.line }; fault = c.in-Some-2.fault }) (c.in_ok-fault.ensures.file ∙ c.loop-end.invariant.file))
    ∙ reached_fault c.args.self.now c.loop-end.self c.args.text.now c.args.from c.loop-end.at c.in-Some.end spot c.loop-end.line c.in-Some.ensures r c.in-Some-2.fault (sym c.in-Some-2.is ∙ c.in_ok-fault.ensures.fault r.spot r.follows)

pub loop-end-preserved : goal.loop-end-preserved
loop-end-preserved c =
    let is = c.in-Some.ensures in
    let few = c.loop-end.invariant.few in
    let after = is.after in
    let within = is.within in
    record {
      small = c.in_ok-fault.ensures.small c.in-None.is;
      within = omega (arith, within);
      few = omega (arith, few, after);
      file = c.in_ok-fault.ensures.file ∙ c.loop-end.invariant.file;
      reaches = λ spot f.
          let r = c.loop-end.invariant.reaches spot f in
          reached_more c.args.self.now c.loop-end.self c.args.text.now c.args.from c.loop-end.at c.in-Some.end spot c.loop-end.line is r c.take_line.new.self c.loop-end.invariant.file
          (sym c.in-None.is ∙ c.in_ok-fault.ensures.fault r.spot r.follows) (c.in_ok-fault.ensures.after c.in-None.is r.spot r.follows) (c.in_ok-fault.ensures.cut c.in-None.is);
    }

pub returns-clause-pieces : goal.returns-clause-pieces
returns-clause-pieces c = λ e spot f texts t k.
    pieces_end c.args.self.now c.loop-end.self c.args.text.now c.args.from c.loop-end.at spot c.loop-end.line (c.loop-end.invariant.reaches spot f) texts c.close.new.self.pieces t c.loop-end.invariant.file k c.in_default.ensures c.in_ok-close.ensures.pieces
