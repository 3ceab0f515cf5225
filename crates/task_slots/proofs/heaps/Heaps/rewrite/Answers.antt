use Rattle.task_slots.proofs.Common.{rules, ◌≡◌, ℕ, true, false, Option, Some, List, fold, slice_get, slice_set, ap, subst, sym, ◌∙◌, RefField, redirected, StandOnce, SetOf, bare_noted, Heaps, TaskSlotsValue, sources_of, Resting, resting_references, resting, with_ref_in, with_resting}
use Rattle.task_slots.proofs.Led.{led_rest}
use Rattle.task_slots.proofs.Places.{set_back}
use Rattle.task_slots.proofs.heaps.Heaps.rewrite.Goals as goal

pub put_set-requires : goal.put_set-requires
put_set-requires c =
    let H : Heaps = record c.args.self.now { task_slots = c.take_set-set.new.self } in
    let e = c.rewrite.ensures.led ∙ led_rest c.args.moved.now H c.take_set-set.result.remembered.sources in
    let there : slice_get c.args.self.now.task_slots.blocks c.args.task ≡ Some true = search rules in
    record { block = ap (λ (h : Heaps). slice_get h.task_slots.blocks c.args.task) e ∙ (ap (λ (w : TaskSlotsValue). slice_get w.blocks c.args.task) c.take_set-set.ensures.task_slots ∙ there) }

pub returns-then-has_block-clause-led : goal.returns-then-has_block-clause-led
returns-then-has_block-clause-led c =
    let old : Heaps = c.args.self.now in
    let t : ℕ = c.args.task in
    let set : SetOf = c.take_set-set.result in
    let H : Heaps = record old { task_slots = c.take_set-set.new.self } in
    let ss : List RefField = set.remembered.sources in
    let e = c.rewrite.ensures.led ∙ led_rest c.args.moved.now H ss in
    let q : TaskSlotsValue → List RefField → Heaps = λ w xs. record {
      task_slots = record w {
        rests = (fold (redirected resting_references with_ref_in c.args.moved.now) (let r : Resting = record { rests = w.rests; pool = old.pool } in r) xs).rests;
        sets = slice_set w.sets t set;
      };
      pool = old.pool;
    } in
    ap (λ (w : TaskSlotsValue). let h : Heaps = record { task_slots = w; pool = c.rewrite.new.words.pool } in h) c.put_set.ensures
    ∙ (ap (λ (h : Heaps). record h { task_slots = record h.task_slots { sets = slice_set h.task_slots.sets t set } }) e
    ∙ (ap (λ (w : TaskSlotsValue). q w ss) c.take_set-set.ensures.task_slots
    ∙ (ap (λ (xs : List SetOf). record (q old.task_slots ss) { task_slots = record (q old.task_slots ss).task_slots { sets = xs } }) (set_back old.task_slots.sets t set (bare_noted false) c.take_set-set.ensures.set)
    ∙ ap (λ xs. with_resting old (fold (redirected resting_references with_ref_in c.args.moved.now) (resting old) xs)) (sym (ap sources_of c.take_set-set.ensures.set)))))

pub returns-then-has_block-clause-once : goal.returns-then-has_block-clause-once
returns-then-has_block-clause-once c = subst (λ (s : Option SetOf). StandOnce (sources_of s)) (sym c.take_set-set.ensures.set) c.rewrite.ensures.once

pub returns-else-has_block-clause-once : goal.returns-else-has_block-clause-once
returns-else-has_block-clause-once c = subst (λ (s : Option SetOf). StandOnce (sources_of s)) (sym (c.has_block.ensures.none c.if-has_block.false)) tt
