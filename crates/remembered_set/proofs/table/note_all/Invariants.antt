use Rattle.remembered_set.proofs.Common.{◌≡◌, ◌+◌, ◌-◌, ◌≤◌, drop, fold, filter, nat_eq, not, vec_capacity, vec_len, contains, spare, RefField, with_noted_source, same_source, KnowsJust}
use Rattle.remembered_set.proofs.table.note_all.Given as goal

abbrev pub invariant-loop-source : goal.invariant-loop-source
invariant-loop-source l = record {
  slots : vec_capacity l.fn.sources - vec_len l.fn.sources ≤ vec_capacity l.sources - vec_len l.sources + l.source-index;
  spare : spare l.fn.known ≤ spare l.known + l.source-index;
  kept : KnowsJust l.sources.items (contains same_source l.known);
  rest :
      fold with_noted_source l.fn.sources.items (filter (λ (s : RefField). not (contains nat_eq l.numbers s.object.chunk)) l.from)
      ≡ fold with_noted_source l.sources.items (filter (λ (s : RefField). not (contains nat_eq l.numbers s.object.chunk)) (drop l.source-index l.from));
}
