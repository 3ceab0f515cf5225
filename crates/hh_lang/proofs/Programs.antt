-- Whether functions form a program: the last instruction of a code, and the function of a number.
use Rattle.hh_lang.proofs.Common.{◌≡◌, suc, ◌-◌, Option, Some, None, List, [], ◌∷◌, length, slice_get, IsSomeAnd, ◌↔◌, ap, sym, subst, ◌∙◌, arith, Line, EndsWithReturn, IsReturn}

-- the last item decides
pub ends_by_last : (code : List Line) (l : Line) → slice_get code (length code - 1) ≡ Some l → EndsWithReturn code ↔ IsReturn l.instr
ends_by_last [] l e = absurd cc
ends_by_last (x ∷ []) l e = let same : x ≡ l = cc in (subst (λ (y : Line). IsReturn y.instr) same, subst (λ (y : Line). IsReturn y.instr) (sym same))
ends_by_last (x ∷ y ∷ code) l e = ends_by_last (y ∷ code) l (ap (slice_get (x ∷ y ∷ code)) (let n : suc (length (y ∷ code) - 1) ≡ length (x ∷ y ∷ code) - 1 = omega arith in n) ∙ e)

-- a fact of an item that is there
pub some_and : {A : Type 0} (P : A → Type 0) (o : Option A) (x : A) → o ≡ Some x → IsSomeAnd o P ↔ P x
some_and P o x e = (λ h. subst (λ w. IsSomeAnd w P) e h, λ h. subst (λ w. IsSomeAnd w P) (sym e) h)

pub none_and : {A : Type 0} (P : A → Type 0) (o : Option A) → o ≡ None → IsSomeAnd o P → ⊥
none_and P o e h = subst (λ w. IsSomeAnd w P) e h
