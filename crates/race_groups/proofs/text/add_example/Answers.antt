use Rattle.race_groups.proofs.Common.{◌≡◌, ◌++◌, ◌∙◌, ℕ, List, map, append_assoc, on_ok_weaker, example_line, swap_note}
use Rattle.race_groups.proofs.text.add_example.Goals as goal

two_added : (t u v a b x y : List ℕ) → u ≡ t ++ a → v ≡ u ++ b → a ≡ x → b ≡ y → v ≡ t ++ (x ++ y)
two_added t u v a b x y d e p q = e ∙ (λ i. d i ++ b) ∙ append_assoc t a b ∙ (λ i. t ++ (p i ++ q i))

pub returns : goal.returns
returns c =
    on_ok_weaker c.add_text-2.result
    (λ e. two_added c.args.text.now.items _ _ _ _ (example_line c.args.group.now.example) (swap_note (map (λ l. l.now) c.args.lines.now) c.args.group.now.example.first.1 c.args.group.now.example.second.1)
    c.in_ok-add_text.ensures e (c.as_str.ensures.value ∙ c.in_ok-example.ensures) c.swap_note.ensures)
    c.add_text-2.ensures
