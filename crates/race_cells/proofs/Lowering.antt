-- One step of lowering a stack.
use Rattle.race_cells.proofs.Common.{◌≡◌, ℕ, ◌-◌, true, cond, Some, List, [], ◌∷◌, ◌++◌, length, take, reverse, ap, sym, ◌∙◌, some_pair_parts, CellEntry, StrandOrder, is_low, last_to_leave, lowered, lowered_stack, topmost_pair}
use Rattle.race_cells.proofs.Lists.{reverse_snoc, reverse_popped}

pair_parts : (stack : List CellEntry) (below top : CellEntry) → topmost_pair stack ≡ Some (below, top) → (rest : List CellEntry) × (stack ≡ top ∷ (below ∷ rest))
pair_parts [] below top e = absurd cc
pair_parts (x ∷ []) below top e = absurd cc
pair_parts (x ∷ (y ∷ rest)) below top e =
    let is = some_pair_parts y below x top e in
    (rest, ap (λ t. t ∷ (y ∷ rest)) is.1 ∙ ap (λ t. top ∷ (t ∷ rest)) is.0)

lowered_once : (o : StrandOrder) (v : ℕ) (below top : CellEntry) (rest : List CellEntry) → is_low o v below top ≡ true
    → lowered_stack o v (last_to_leave o below top ∷ rest) ≡ lowered_stack o v (top ∷ (below ∷ rest))
lowered_once o v below top rest low = sym (ap (λ b. cond b (lowered o v (last_to_leave o below top) rest) (top ∷ (below ∷ rest))) low)

-- of the two topmost one is left
pub lowered_next : (o : StrandOrder) (v : ℕ) (xs ys zs : List CellEntry) (below top : CellEntry) → topmost_pair (reverse xs) ≡ Some (below, top) → is_low o v below top ≡ true
    → ys ≡ take (length xs - 1) xs → zs ≡ take (length ys - 1) ys
    → lowered_stack o v (reverse (zs ++ last_to_leave o below top ∷ [])) ≡ lowered_stack o v (reverse xs)
lowered_next o v xs ys zs below top pair low once twice =
    let parts = pair_parts (reverse xs) below top pair in
    let one : reverse ys ≡ below ∷ parts.0 = ap reverse once ∙ reverse_popped xs top (below ∷ parts.0) parts.1 in
    let two : reverse zs ≡ parts.0 = ap reverse twice ∙ reverse_popped ys below parts.0 one in
    ap (lowered_stack o v) (reverse_snoc zs (last_to_leave o below top) ∙ ap (λ l. last_to_leave o below top ∷ l) two)
    ∙ (lowered_once o v below top parts.0 low ∙ ap (lowered_stack o v) (sym parts.1))
