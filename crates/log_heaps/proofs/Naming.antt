-- What an act shares, step by step, and whether it stores a reference that leads down.
use Rattle.log_heaps.proofs.Common.{◌≡◌, ◌∙◌, ℕ, Bool, ap, subst, Option, ◌||◌, option_is, WalkValue, Act, BlockLines, released, used, SharedBlocks, referred, stored, stored_into, is_shared, shared_after, IsDownBy, IsDownIf}

-- the three blocks that an act names are noted one after the other
pub shared_told : (alien : Option ℕ → Option ℕ) (act : Act) (old one two new : SharedBlocks) (u r l : Option ℕ) → u ≡ alien (used act) → r ≡ alien (referred act) → l ≡ alien (released act)
    → ((b : ℕ) → is_shared one b ≡ (option_is u b || is_shared old b)) → ((b : ℕ) → is_shared two b ≡ (option_is r b || is_shared one b)) → ((b : ℕ) → is_shared new b ≡ (option_is l b || is_shared two b))
    → (b : ℕ) → is_shared new b ≡ shared_after alien act old b
shared_told alien act old one two new u r l eu er el first second third = λ b.
    third b
    ∙ ap (λ (x : Bool). option_is l b || x) (second b ∙ ap (λ (x : Bool). option_is r b || x) (first b))
    ∙ ap (λ (o : Option ℕ). option_is o b || (option_is r b || (option_is u b || is_shared old b))) el
    ∙ ap (λ (o : Option ℕ). option_is (alien (released act)) b || (option_is o b || (option_is u b || is_shared old b))) er
    ∙ ap (λ (o : Option ℕ). option_is (alien (released act)) b || (option_is (alien (referred act)) b || (option_is o b || is_shared old b))) eu

-- what an act does is told by its blocks
pub down_told : (walk : WalkValue) (births : BlockLines) (place : ℕ) (act : Act) (block target : Option ℕ) → block ≡ stored_into act → target ≡ stored act → (down : Bool) → IsDownBy walk births place block target down → IsDownIf walk births place act down
down_told walk births place act block target into refers down h =
    subst (λ (o : Option ℕ). IsDownBy walk births place o (stored act) down) into (subst (λ (o : Option ℕ). IsDownBy walk births place block o down) refers h)
