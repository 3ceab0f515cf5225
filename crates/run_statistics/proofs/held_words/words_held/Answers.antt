use Rattle.run_statistics.proofs.Common.{◌≡◌, ◌≤◌, false, Option, None, List, arith, length, option_map, slice_get, ap, sym, ◌∙◌, option_flatten, got_past, Name, is_running, words_sum, saturating_words, ParkedTask, SharedValue, accounts, rest_at, is_state_running, nothing_kept, runs_is}
use Rattle.run_statistics.proofs.held_words.words_held.Goals as goal

pub returns-else-t-len : goal.returns-else-t-len
returns-else-t-len c =
    let w : SharedValue = c.args.shared.now in
    let I = c.stands.ensures in
    let past : length w.rests ≤ c.args.t =
    let v : length c.heaps.result.now.task_slots.rests ≡ length w.rests = ap (λ (hs : List (Option ParkedTask)). length hs) c.heaps.ensures.task_slots in let e = c.len.ensures in let f = c.if-t-len.false in omega (arith, v, e, f) in
    let past_tree : length w.tree ≤ c.args.t = let m = I.made in omega (arith, m, past) in
    let idle : is_running (slice_get (accounts w).machine.tasks c.args.t) ≡ false =
    sym (runs_is w I c.args.t) ∙ ap (λ o. is_state_running (option_map (λ m. m.state) o)) (got_past w.tree c.args.t past_tree) in
    let none : rest_at w.rests c.args.t ≡ None = ap option_flatten (got_past w.rests c.args.t past) in
    sym (ap (λ (ns : List Name). saturating_words (words_sum (accounts w).machine ns)) (nothing_kept w I c.args.t idle none))
