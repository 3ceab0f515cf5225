use Rattle.race_groups.proofs.Common.{◌≡◌, ◌++◌, ◌∙◌, ℕ, List, append_assoc, codes, IfOk-weaker, Race, field_text, tasks_text, example_line}
use Rattle.race_groups.proofs.text.example_line.Goals as goal

shape : (f t : List ℕ) → codes "  example: " ++ (f ++ (codes ", " ++ (t ++ codes "\n"))) ≡ codes "  example: " ++ f ++ codes ", " ++ t ++ codes "\n"
shape f t = simp append_assoc

example_is : (r : Race) (f t : List ℕ) → f ≡ field_text r → t ≡ tasks_text r → codes "  example: " ++ (f ++ (codes ", " ++ (t ++ codes "\n"))) ≡ example_line r
example_is r f t e d = shape f t ∙ (λ i. codes "  example: " ++ e i ++ codes ", " ++ d i ++ codes "\n")

pub returns : goal.returns
returns c = IfOk-weaker c.format.result _ _ (λ s e. e ∙ example_is c.args.race.now _ _ c.in_ok-field.ensures c.in_ok-tasks.ensures) c.format.ensures.ok
