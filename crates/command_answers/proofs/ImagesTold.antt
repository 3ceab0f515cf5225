-- The answers for images.
use Rattle.command_answers.proofs.Common.{◌≡◌, ℕ, List, [], ◌∷◌, codes, sym, subst, Some, None, decimal, end_line, ImageFault, image_fault, objects_in, Image, Answer, IsText, Refuses, AnswersImage, AnswersVerify}
use Rattle.command_answers.specs.declared.answer.CommandStatus.TheVariants.{Done}

-- an image that is verified
pub image_told : (input : List ℕ) (count : ℕ) (bytes : List ℕ) (a : Answer) → image_fault input ≡ None → count ≡ objects_in input
    → bytes ≡ end_line (codes "verified" ∷ decimal count ∷ []) → IsText Done bytes a → AnswersVerify input a
image_told input count bytes a none is text h =
    subst (λ f. AnswersImage f (objects_in input) a) (sym none)
    (subst (λ n. IsText Done (end_line (codes "verified" ∷ decimal n ∷ [])) a) is (subst (λ x. IsText Done x a) text h))

-- and one that is refused
pub image_refused : (input : List ℕ) (f : ImageFault) (a : Answer) → image_fault input ≡ Some f → Refuses (Image f) a → AnswersVerify input a
image_refused input f a e h = subst (λ o. AnswersImage o (objects_in input) a) (sym e) h
