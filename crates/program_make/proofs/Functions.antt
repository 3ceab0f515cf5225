-- One more function: the text, and the generator's value after it.
use Rattle.std.proofs.Common.{◌≡◌, ◌++◌, ℕ, suc, List, ap, sym, ◌∙◌}
use Rattle.program_make.specs.Draws.{value_after, after_three}
use Rattle.program_make.specs.Text.{first_functions, function_text}

pub one_more : (seed size k n x y : ℕ) (old new : List ℕ) → n ≡ suc k → old ≡ first_functions seed size k → x ≡ value_after seed k → new ≡ old ++ function_text size k x → y ≡ after_three x → (new ≡ first_functions seed size n) × (y ≡ value_after seed n)
one_more seed size k n x y old new e o v h m =
    (h ∙ ap (λ b. b ++ function_text size k x) o ∙ ap (λ w. first_functions seed size k ++ function_text size k w) v ∙ ap (λ j. first_functions seed size j) (sym e), m ∙ ap (λ w. after_three w) v ∙ ap (λ j. value_after seed j) (sym e))

pub all_of : (seed size k : ℕ) (bs : List ℕ) → k ≡ size → bs ≡ first_functions seed size k → bs ≡ first_functions seed size size
all_of seed size k bs e h = h ∙ ap (λ j. first_functions seed size j) e
