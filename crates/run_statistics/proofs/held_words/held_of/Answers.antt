use Rattle.run_statistics.proofs.Common.{◌≡◌, true, false, Option, None, Some, List, length, option_copied, slice_get, ap, sym, ◌∙◌, Name, is_running, words_sum, saturating_words, TaskNode, state_of, ParkedTask, SharedValue, accounts, rest_at, is_state_running, none_of, nothing_kept, objects_are, runs_is, words_kept}
use Rattle.run_statistics.proofs.held_words.held_of.Goals as goal

pub returns-then-is_running-clause-objects : goal.returns-then-is_running-clause-objects
returns-then-is_running-clause-objects c =
    let w : SharedValue = c.args.shared.now in
    let state : c.is_running.result ≡ is_state_running (state_of w.tree c.args.t) = c.is_running.ensures ∙ (ap is_state_running c.state.ensures ∙ ap (λ (ns : List TaskNode). is_state_running (state_of ns c.args.t)) c.tree.ensures) in
    let runs : is_running (slice_get (accounts w).machine.tasks c.args.t) ≡ true = sym (runs_is w c.stands.ensures c.args.t) ∙ (sym state ∙ c.if-is_running.true) in
    sym (ap (λ (ns : List Name). saturating_words (length ns)) (none_of w c.stands.ensures c.args.t runs))

pub returns-then-is_running-clause-words : goal.returns-then-is_running-clause-words
returns-then-is_running-clause-words c =
    let w : SharedValue = c.args.shared.now in
    let state : c.is_running.result ≡ is_state_running (state_of w.tree c.args.t) = c.is_running.ensures ∙ (ap is_state_running c.state.ensures ∙ ap (λ (ns : List TaskNode). is_state_running (state_of ns c.args.t)) c.tree.ensures) in
    let runs : is_running (slice_get (accounts w).machine.tasks c.args.t) ≡ true = sym (runs_is w c.stands.ensures c.args.t) ∙ (sym state ∙ c.if-is_running.true) in
    sym (ap (λ (ns : List Name). saturating_words (words_sum (accounts w).machine ns)) (none_of w c.stands.ensures c.args.t runs))

pub returns-in-Some-clause-objects : goal.returns-in-Some-clause-objects
returns-in-Some-clause-objects c =
    let w : SharedValue = c.args.shared.now in
    let state : c.is_running.result ≡ is_state_running (state_of w.tree c.args.t) = c.is_running.ensures ∙ (ap is_state_running c.state.ensures ∙ ap (λ (ns : List TaskNode). is_state_running (state_of ns c.args.t)) c.tree.ensures) in
    let idle : is_running (slice_get (accounts w).machine.tasks c.args.t) ≡ false = sym (runs_is w c.stands.ensures c.args.t) ∙ (sym state ∙ c.if-is_running.false) in
    let there : rest_at w.rests c.args.t ≡ Some c.in-Some.rest.now = ap (λ (hs : List (Option ParkedTask)). rest_at hs c.args.t) (sym c.heaps.ensures.task_slots) ∙ (sym c.rest.ensures ∙ ap option_copied c.in-Some.is) in
    c.objects.ensures ∙ ap saturating_words (objects_are w c.stands.ensures c.args.t idle c.in-Some.rest.now there)

pub returns-in-Some-clause-words : goal.returns-in-Some-clause-words
returns-in-Some-clause-words c =
    let w : SharedValue = c.args.shared.now in
    let state : c.is_running.result ≡ is_state_running (state_of w.tree c.args.t) = c.is_running.ensures ∙ (ap is_state_running c.state.ensures ∙ ap (λ (ns : List TaskNode). is_state_running (state_of ns c.args.t)) c.tree.ensures) in
    let idle : is_running (slice_get (accounts w).machine.tasks c.args.t) ≡ false = sym (runs_is w c.stands.ensures c.args.t) ∙ (sym state ∙ c.if-is_running.false) in
    let there : rest_at w.rests c.args.t ≡ Some c.in-Some.rest.now = ap (λ (hs : List (Option ParkedTask)). rest_at hs c.args.t) (sym c.heaps.ensures.task_slots) ∙ (sym c.rest.ensures ∙ ap option_copied c.in-Some.is) in
    c.words.ensures ∙ ap saturating_words (words_kept w c.stands.ensures c.args.t idle c.in-Some.rest.now there)

pub returns-in-None-clause-objects : goal.returns-in-None-clause-objects
returns-in-None-clause-objects c =
    let w : SharedValue = c.args.shared.now in
    let state : c.is_running.result ≡ is_state_running (state_of w.tree c.args.t) = c.is_running.ensures ∙ (ap is_state_running c.state.ensures ∙ ap (λ (ns : List TaskNode). is_state_running (state_of ns c.args.t)) c.tree.ensures) in
    let idle : is_running (slice_get (accounts w).machine.tasks c.args.t) ≡ false = sym (runs_is w c.stands.ensures c.args.t) ∙ (sym state ∙ c.if-is_running.false) in
    let none : rest_at w.rests c.args.t ≡ None = ap (λ (hs : List (Option ParkedTask)). rest_at hs c.args.t) (sym c.heaps.ensures.task_slots) ∙ (sym c.rest.ensures ∙ ap option_copied c.in-None.is) in
    sym (ap (λ (ns : List Name). saturating_words (length ns)) (nothing_kept w c.stands.ensures c.args.t idle none))

pub returns-in-None-clause-words : goal.returns-in-None-clause-words
returns-in-None-clause-words c =
    let w : SharedValue = c.args.shared.now in
    let state : c.is_running.result ≡ is_state_running (state_of w.tree c.args.t) = c.is_running.ensures ∙ (ap is_state_running c.state.ensures ∙ ap (λ (ns : List TaskNode). is_state_running (state_of ns c.args.t)) c.tree.ensures) in
    let idle : is_running (slice_get (accounts w).machine.tasks c.args.t) ≡ false = sym (runs_is w c.stands.ensures c.args.t) ∙ (sym state ∙ c.if-is_running.false) in
    let none : rest_at w.rests c.args.t ≡ None = ap (λ (hs : List (Option ParkedTask)). rest_at hs c.args.t) (sym c.heaps.ensures.task_slots) ∙ (sym c.rest.ensures ∙ ap option_copied c.in-None.is) in
    sym (ap (λ (ns : List Name). saturating_words (words_sum (accounts w).machine ns)) (nothing_kept w c.stands.ensures c.args.t idle none))
