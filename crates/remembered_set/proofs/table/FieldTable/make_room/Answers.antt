use Rattle.remembered_set.proofs.Common.{◌∙◌, subst, sym, StandOnce}
use Rattle.remembered_set.proofs.table.FieldTable.make_room.Goals as goal

pub invariant_of-self-2 : goal.invariant_of-self-2
invariant_of-self-2 c = record {
  known = λ s. c.reserve-2.ensures.keys.2 s ∙ rw c.reserve.ensures.items (c.self.invariant.known s);
  once = subst StandOnce (sym c.reserve.ensures.items) c.self.invariant.once;
}
