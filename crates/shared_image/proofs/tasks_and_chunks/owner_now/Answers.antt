use Rattle.shared_image.proofs.Common.{◌≡◌, ◌∙◌, ℕ, Option, Some, None, List, true, false, refl, sym, ap, false≢true, joined, parents, TaskState, Ready, Out, Waiting, Ended, Joined, TaskNode, parent_of, state_of, IsSharedValue, SharedValue, accounts, parent_is, is_state_joined, owner_live, owner_up, told_joined, told_live, tree_of}
use Rattle.shared_image.proofs.tasks_and_chunks.owner_now.Goals as goal

joined_state : (o : Option TaskState) → is_state_joined o ≡ true → o ≡ Some Joined
joined_state None e = absurd (false≢true e)
joined_state (Some Ready) e = absurd (false≢true e)
joined_state (Some Out) e = absurd (false≢true e)
joined_state (Some Waiting) e = absurd (false≢true e)
joined_state (Some Ended) e = absurd (false≢true e)
joined_state (Some Joined) e = refl

has_joined : (w : SharedValue) → IsSharedValue w → (t : ℕ) → is_state_joined (state_of w.tree t) ≡ true → joined (accounts w).machine.tasks t ≡ true
has_joined w I t e = told_joined w I t (joined_state (state_of w.tree t) e)

goes_on : (w : SharedValue) → IsSharedValue w → (t : ℕ) → is_state_joined (state_of w.tree t) ≡ false → joined (accounts w).machine.tasks t ≡ false
goes_on w I t e = told_live w I t (state_of w.tree t) refl (λ j. false≢true (sym e ∙ ap is_state_joined j))

-- a task that has joined has a parent
never_none : (w : SharedValue) → IsSharedValue w → (t : ℕ) → joined (accounts w).machine.tasks t ≡ true → parent_of w.tree t ≡ None → ⊥
never_none w I t j none =
    let p = (tree_of w I).rooted t j in
    let both = sym none ∙ (parent_is w I t ∙ p.1) in
    absurd cc

pub unreachable-requires : goal.unreachable-requires
unreachable-requires c =
    let w : SharedValue = c.args.shared.now in
    let t : ℕ = c.loop-tree.owner in
    let j : is_state_joined (state_of w.tree t) ≡ true = ap (λ (ns : List TaskNode). is_state_joined (state_of ns t)) (sym c.tree-tree.ensures) ∙ (sym (ap is_state_joined c.state.ensures) ∙ (sym c.is_joined.ensures ∙ c.loop-tree-test.true)) in
    never_none w c.stands.ensures t (has_joined w c.stands.ensures t j) (ap (λ (ns : List TaskNode). parent_of ns t) (sym c.tree-tree.ensures) ∙ (sym c.parent.ensures ∙ c.in_default.is))

pub loop-tree-smaller : goal.loop-tree-smaller
loop-tree-smaller c =
    let w : SharedValue = c.args.shared.now in
    let t : ℕ = c.loop-tree.owner in
    let parent : parents (accounts w).machine.tasks t ≡ Some c.in-Some.parent = sym (parent_is w c.stands.ensures t) ∙ (ap (λ (ns : List TaskNode). parent_of ns t) (sym c.tree-tree.ensures) ∙ (sym c.parent.ensures ∙ c.in-Some.is)) in
    (tree_of w c.stands.ensures).low t c.in-Some.parent parent

pub loop-tree-preserved : goal.loop-tree-preserved
loop-tree-preserved c =
    let w : SharedValue = c.args.shared.now in
    let t : ℕ = c.loop-tree.owner in
    let j : is_state_joined (state_of w.tree t) ≡ true = ap (λ (ns : List TaskNode). is_state_joined (state_of ns t)) (sym c.tree-tree.ensures) ∙ (sym (ap is_state_joined c.state.ensures) ∙ (sym c.is_joined.ensures ∙ c.loop-tree-test.true)) in
    let parent : parents (accounts w).machine.tasks t ≡ Some c.in-Some.parent = sym (parent_is w c.stands.ensures t) ∙ (ap (λ (ns : List TaskNode). parent_of ns t) (sym c.tree-tree.ensures) ∙ (sym c.parent.ensures ∙ c.in-Some.is)) in
    sym (owner_up w c.stands.ensures t c.in-Some.parent (has_joined w c.stands.ensures t j) parent) ∙ c.loop-tree.invariant

pub returns : goal.returns
returns c =
    let w : SharedValue = c.args.shared.now in
    let t : ℕ = c.loop-tree.owner in
    let j : is_state_joined (state_of w.tree t) ≡ false = ap (λ (ns : List TaskNode). is_state_joined (state_of ns t)) (sym c.tree-tree.ensures) ∙ (sym (ap is_state_joined c.state.ensures) ∙ (sym c.is_joined.ensures ∙ c.loop-tree-test.false)) in
    sym (owner_live w c.stands.ensures t (goes_on w c.stands.ensures t j)) ∙ c.loop-tree.invariant
