-- What an instruction does that looks something up first.
use Rattle.hh_model.proofs.Common.{◌≡◌, ℕ, Option, Some, None, IfSome, ap, sym, ◌∙◌, Instr, Task, MachineState, Effect, effect, follow, setting}

-- if what was found for an instruction leads to a state, so does the instruction
pub as_found : (m m' : MachineState) (t line : ℕ) (o : Option Task) (i : Instr) (e : Task → Effect)
    → IfSome o (λ x. effect (setting m t x) x.top m.store i ≡ e x)
    → IfSome o (λ x. m' ≡ follow m t x line (e x))
    → IfSome o (λ x. m' ≡ follow m t x line (effect (setting m t x) x.top m.store i))
as_found m m' t line None i e same done = done
as_found m m' t line (Some x) i e same done = done ∙ ap (follow m t x line) (sym same)
