use Rattle.journal_replay.proofs.Common.{ap, sym, subst, ◌∙◌, Private, SharedValue, refusal_of_result, same_world, false, HoldsPart}
use Rattle.journal_replay.proofs.Holding.{stops}
use Rattle.journal_replay.proofs.Making.{refuses_for}
use Rattle.journal_replay.proofs.apply_took.apply_took.Goals as goal

pub returns-in-Ok-took : goal.returns-in-Ok-took
returns-in-Ok-took g c =
    let v : SharedValue = g.S.LegalCalls.value c.took.new.self in
    record {
      free = sym c.in-Ok-took.ensures.refused;
      enters = c.in-Ok-took.ensures.enters;
      others = c.in-Ok-took.ensures.others;
      holds = subst (λ (r : Private). HoldsPart v false c.args.worker r) (sym c.unpack.ensures)
          (record { fits = c.in-Ok-took.ensures.fits; idle = c.in-Ok-took.ensures.idle; entered = λ h. c.in-Ok-took.ensures.fresh });
    }

pub returns-in-Err : goal.returns-in-Err
returns-in-Err g c = refuses_for (g.S.LegalCalls.value c.args.shared.now) (g.S.LegalCalls.value c.took.new.self) c.args.worker _ c.in-Err.cause c.args.holding c.in-Err.ensures.same (sym c.took.ensures.refused ∙ ap refusal_of_result c.in-Err.is) c.requires.holds

pub returns-in_default : goal.returns-in_default
returns-in_default g c =
    let w : SharedValue = g.S.LegalCalls.value c.args.shared.now in
    record { same = same_world w; still = λ j r F. F; holds = stops w c.args.worker c.args.holding c.requires.holds }
