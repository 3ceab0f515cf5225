-- The last list, written in place.
use Rattle.ledger_heaps.proofs.Common.{◌≡◌, ℕ, ◌+◌, zero, suc, List, [], ◌∷◌, ◌++◌, Some, length, slice_get, slice_set, ap, sym, ◌∙◌, arith, same_Some, Name, put_last}

put_last_by : (xs : List (List Name)) (k : ℕ) (ns : List Name) (n : Name) → length xs ≡ suc k → slice_get xs k ≡ Some ns → slice_set xs k (ns ++ n ∷ []) ≡ put_last xs n
put_last_by [] k ns n e is = absurd (omega arith)
put_last_by (ms ∷ []) zero ns n e is = ap (λ z. (z ++ n ∷ []) ∷ []) (sym (same_Some ms ns is))
put_last_by (ms ∷ []) (suc k) ns n e is = absurd (omega arith)
put_last_by (ms ∷ ls ∷ rest) zero ns n e is = absurd (omega arith)
put_last_by (ms ∷ ls ∷ rest) (suc k) ns n e is = ap (λ zs. ms ∷ zs) (put_last_by (ls ∷ rest) k ns n (omega arith) is)

-- what is added to the last list is put there
pub put_last_at : (xs : List (List Name)) (k : ℕ) (ns ms : List Name) (n : Name) → length xs ≡ k + 1 → slice_get xs k ≡ Some ns → ms ≡ ns ++ n ∷ [] → slice_set xs k ms ≡ put_last xs n
put_last_at xs k ns ms n e is same = ap (λ z. slice_set xs k z) same ∙ put_last_by xs k ns n (omega arith) is
