use Rattle.run_statistics.proofs.Common.{◌≡◌, ℕ, Option, List, arith, length, length-append, ap, sym, ◌∙◌, sum_by-append, Ledger, words_at, words_sum, held_not_running, saturating_words, ParkedTask, SharedValue, accounts, held_unless_running, counted_few, counted_more, task_slots_few, kept_before, kept_task_slots, kept_more, objects_few, words_few}
use Rattle.run_statistics.proofs.held_words.held.Goals as goal

pub overflow_cast-t-end : goal.overflow_cast-t-end
overflow_cast-t-end c =
    let w : SharedValue = c.args.shared.now in
    let few = task_slots_few w c.stands.ensures in
    let many : length c.heaps.result.now.task_slots.rests ≡ length w.rests = ap (λ (hs : List (Option ParkedTask)). length hs) c.heaps.ensures.task_slots in
    let is = c.len-t-end.ensures in
    omega (arith, few, many, is)

pub loop-t-preserved : goal.loop-t-preserved
loop-t-preserved c =
    let l : Ledger = accounts c.args.shared.now in
    let t : ℕ = c.loop-t.t in
    record {
      objects = c.saturating_add-objects.ensures
          ∙ (counted_more c.loop-t.objects c.held_of-held.result.0 (length (kept_before l t)) (length (held_unless_running l t)) c.loop-t.invariant.objects c.held_of-held.ensures.objects
          ∙ ap saturating_words (sym (ap length (kept_more l t) ∙ length-append (kept_before l t) (held_unless_running l t))));
      words = c.saturating_add-words.ensures
          ∙ (counted_more c.loop-t.words c.held_of-held.result.1 (words_sum l.machine (kept_before l t)) (words_sum l.machine (held_unless_running l t)) c.loop-t.invariant.words c.held_of-held.ensures.words
          ∙ ap saturating_words (sym (ap (words_sum l.machine) (kept_more l t) ∙ sum_by-append (words_at l.machine) (kept_before l t) (held_unless_running l t))));
    }

pub returns-clause-objects : goal.returns-clause-objects
returns-clause-objects c =
    let w : SharedValue = c.args.shared.now in
    let many : length c.heaps.result.now.task_slots.rests ≡ length w.rests = ap (λ (hs : List (Option ParkedTask)). length hs) c.heaps.ensures.task_slots in
    let end : c.loop-t.t ≡ length w.rests = omega (arith, many) in
    let is : length (kept_before (accounts w) c.loop-t.t) ≡ length (held_not_running (accounts w)) = ap (λ n. length (kept_before (accounts w) n)) end ∙ ap length (kept_task_slots w c.stands.ensures) in
    c.loop-t.invariant.objects ∙ (ap saturating_words is ∙ counted_few (length (held_not_running (accounts w))) (objects_few w c.stands.ensures))

pub returns-clause-words : goal.returns-clause-words
returns-clause-words c =
    let w : SharedValue = c.args.shared.now in
    let many : length c.heaps.result.now.task_slots.rests ≡ length w.rests = ap (λ (hs : List (Option ParkedTask)). length hs) c.heaps.ensures.task_slots in
    let end : c.loop-t.t ≡ length w.rests = omega (arith, many) in
    let is : words_sum (accounts w).machine (kept_before (accounts w) c.loop-t.t) ≡ words_sum (accounts w).machine (held_not_running (accounts w)) =
    ap (λ n. words_sum (accounts w).machine (kept_before (accounts w) n)) end ∙ ap (words_sum (accounts w).machine) (kept_task_slots w c.stands.ensures) in
    c.loop-t.invariant.words ∙ (ap saturating_words is ∙ counted_few (words_sum (accounts w).machine (held_not_running (accounts w))) (words_few w c.stands.ensures))
