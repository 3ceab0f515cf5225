use Rattle.log_groups.proofs.Common.{◌∙◌, ◌^◌, ap, sym, arith, take, [], fold, take_all, fold_more, with_item}
use Rattle.log_groups.proofs.Gathering.{all_gathered, below_more}
use Rattle.log_groups.proofs.gather.group_items.Goals as goal

pub add-requires : goal.add-requires
add-requires c = below_more c.loop-item.groups c.loop-item.item-index (2 ^ 63) (omega arith) c.loop-item.invariant.below

pub loop-item-preserved : goal.loop-item-preserved
loop-item-preserved c = record {
  groups = grind (arith, fold_more, c.in_ok-add.ensures.added, c.loop-item.invariant.groups);
  below = c.in_ok-add.ensures.few c.loop-item.item-index c.loop-item.invariant.below;
}

pub returns : goal.returns
returns c =
    c.into_listed.ensures
    ∙ c.loop-item.invariant.groups
    ∙ ap (fold with_item []) (take_all c.loop-item.item-index c.args.items.now c.loop-item-test.false)
    ∙ all_gathered c.args.items.now
