use Rattle.core_invariant.proofs.Common.{◌≡◌, ℕ, ◌++◌, ◌∷◌, [], List, ap₂, sym, subst, take_all, ◌∙◌, take_more, Fun, IsProgram}
use Rattle.core_invariant.proofs.copy.copy_program.Goals as goal

pub loop-i-preserved : goal.loop-i-preserved
loop-i-preserved c =
    c.in_ok-push.ensures.items
    ∙ (ap₂ (λ (xs : List Fun) (x : Fun). xs ++ x ∷ []) c.loop-i.invariant (c.in_ok-function.ensures ∙ c.index-from-i.is)
    ∙ sym (take_more c.as_slice-from.result.now c.loop-i.i c.index-from-i.result c.loop-i-test.true))

pub new-requires : goal.new-requires
new-requires c =
    let all : c.from_vec.result ≡ c.args.program.now.functions = c.from_vec.ensures ∙ (c.loop-i.invariant ∙ (take_all c.loop-i.i c.as_slice-from.result.now c.loop-i-test.false ∙ (c.as_slice-from.ensures ∙ c.functions.ensures))) in
    subst (λ (fs : List Fun). IsProgram (record { functions = fs; main = c.main.result })) (sym all)
    (subst (λ (n : ℕ). IsProgram (record { functions = c.args.program.now.functions; main = n })) (sym c.main.ensures) c.form.ensures)
