use Rattle.ledger_heaps.proofs.Common.{◌≡◌, ◌∙◌, ◌+◌, ◌<◌, ◌^◌, List, Result, Ok, Err, OnErr, slice_set, ap, sym, subst, rules, Heap}
use Rattle.ledger_heaps.proofs.Joins.{join_since, join_done, join_undone}
use Rattle.ledger_heaps.proofs.joined.join.Goals as goal

on_err : {A E : Type 0} (r : Result A E) (P : Type 0) → P → OnErr r P
on_err (Ok x) P h = tt
on_err (Err e) P h = h

pub merge-merged-requires : goal.merge-merged-requires
merge-merged-requires c =
    let e = join_since c.args.heaps.now c.args.parent c.args.left c.requires.order c.replace-first.new.dest c.replace-second.new.dest
    c.at_mut-3.result.now c.replace-first.result c.replace-second.result (search rules) (search rules) c.at_mut-3.ensures.value in
    subst (λ k. k < 2 ^ 64) (sym e) c.requires.since

pub returns-in_err-merged-clause-err : goal.returns-in_err-merged-clause-err
returns-in_err-merged-clause-err c =
    on_err c.from_residual.result (c.set-2.new.self ≡ c.args.heaps.now)
    (c.set-2.ensures ∙ ap (λ (hs : List Heap). slice_set hs (c.args.left + 1) c.merge-merged.new.right) c.set.ensures
    ∙ join_undone c.args.heaps.now c.args.parent c.args.left c.requires.order c.replace-first.new.dest c.replace-second.new.dest
    c.at_mut-3.result.now c.replace-first.result c.replace-second.result (search rules) (search rules) c.at_mut-3.ensures.value
    c.merge-merged.new.parent c.merge-merged.new.left c.merge-merged.new.right
    c.in_err-merged.ensures.parent_kept c.in_err-merged.ensures.left_kept c.in_err-merged.ensures.right_kept)

pub returns-clause-ok : goal.returns-clause-ok
returns-clause-ok c l same =
    join_done c.args.heaps.now c.args.parent c.args.left c.requires.order c.replace-first.new.dest c.replace-second.new.dest
    c.at_mut-3.result.now c.replace-first.result c.replace-second.result (search rules) (search rules) c.at_mut-3.ensures.value l same
    c.merge-merged.new.parent c.merge-merged.new.left c.merge-merged.new.right
    c.in_ok-merged.ensures.parent c.in_ok-merged.ensures.left c.in_ok-merged.ensures.right
    ∙ ap (λ (hs : List Heap). record l { heaps = hs }) (sym (c.set-2.ensures ∙ ap (λ (hs : List Heap). slice_set hs (c.args.left + 1) c.merge-merged.new.right) c.set.ensures))
