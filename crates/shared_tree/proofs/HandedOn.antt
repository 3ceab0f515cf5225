-- A call that returns another call's failure.
use Rattle.shared_tree.proofs.Common.{◌≡◌, Result, Ok, Err, sym, subst, IsErrAnd, NotEntered, NoMemory, SharedValue}

-- all that holds of the call that failed holds of the other, for an equal value before
pub handed_on : {A E : Type 0} → (P : SharedValue → Result A E → Type 0) (w z : SharedValue) → w ≡ z → (r : Result A E) (e : E) → IsErrAnd r (λ y. y ≡ e) → P w (Err e) → P z r
handed_on P w z same (Ok x) e is h = absurd is
handed_on P w z same (Err y) e is h = subst (λ (v : SharedValue). P v (Err y)) same (subst (λ q. P w (Err q)) (sym is) h)

-- all that holds if an allocation fails holds of a result that reports it
pub for_memory : {A : Type 0} → (P : Result A NotEntered → Type 0) → P (Err NoMemory) → (r : Result A NotEntered) → IsErrAnd r (λ e. e ≡ NoMemory) → P r
for_memory P h (Ok x) is = absurd is
for_memory P h (Err e) is = subst (λ z. P (Err z)) (sym is) h
