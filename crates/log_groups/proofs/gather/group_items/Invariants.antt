use Rattle.log_groups.proofs.Common.{◌≡◌, [], fold, take, with_item, AreBelow}
use Rattle.log_groups.proofs.gather.group_items.Given as goal

abbrev pub invariant-loop-item : goal.invariant-loop-item
invariant-loop-item l = record {
  groups : l.groups ≡ fold with_item [] (take l.item-index l.items);
  below : AreBelow l.item-index l.groups;
}
