use Rattle.gc_pacer.proofs.Common.{◌≡◌, ℕ, Bool, true, false, not, Option, Some, None, List, is_none, is_some, refl, ap, sym, ◌∙◌, false≢true, joined, Refused, TaskNode, state_of, SetOf, SharedValue, accounts, waiting_cause, waiting_cause_in, is_state_joined, goes_free, joined_is, joined_stops}
use Rattle.gc_pacer.proofs.forks_of.is_going.Goals as goal

none_is : (o : Option Refused) (b : Bool) → is_some o ≡ not b → b ≡ is_none o
none_is None true e = refl
none_is None false e = absurd (false≢true e)
none_is (Some r) true e = absurd (false≢true (sym e))
none_is (Some r) false e = refl

pub returns-then-is_joined : goal.returns-then-is_joined
returns-then-is_joined c =
    let w : SharedValue = c.args.shared.now in
    let u : ℕ = c.args.fork.left in
    let state : c.is_joined.result ≡ is_state_joined (state_of w.tree u) = c.is_joined.ensures ∙ (ap is_state_joined c.state.ensures ∙ ap (λ (ns : List TaskNode). is_state_joined (state_of ns u)) c.tree-tree.ensures) in
    let past : joined (accounts w).machine.tasks u ≡ true = sym (joined_is w c.stands.ensures c.requires u) ∙ (sym state ∙ c.if-is_joined.true) in
    sym (joined_stops w c.stands.ensures c.requires c.args.fork past)

pub returns : goal.returns
returns c =
    let w : SharedValue = c.args.shared.now in
    let u : ℕ = c.args.fork.left in
    let t : ℕ = c.args.fork.task in
    let state : c.is_joined.result ≡ is_state_joined (state_of w.tree u) = c.is_joined.ensures ∙ (ap is_state_joined c.state.ensures ∙ ap (λ (ns : List TaskNode). is_state_joined (state_of ns u)) c.tree-tree.ensures) in
    let live : joined (accounts w).machine.tasks u ≡ false = sym (joined_is w c.stands.ensures c.requires u) ∙ (sym state ∙ c.if-is_joined.false) in
    let cause : c.waiting_cause.result ≡ waiting_cause w t =
    c.waiting_cause.ensures ∙ (ap (λ (xs : List SetOf). waiting_cause_in c.tree-tree.result.now xs t) c.heaps.ensures.sets ∙ ap (λ (ns : List TaskNode). waiting_cause_in ns w.sets t) c.tree-tree.ensures) in
    none_is c.waiting_cause.result c.is_none.result c.is_none.ensures ∙ (ap is_none cause ∙ sym (goes_free w c.stands.ensures c.requires c.args.fork live))
