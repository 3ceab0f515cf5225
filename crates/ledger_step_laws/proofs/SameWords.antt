-- The heap after a collection depends on no more of the machine than the words of what its task owns.
use Rattle.ledger_step_laws.proofs.Common.{◌≡◌, ℕ, ◌+◌, ◌-◌, List, [], ◌∷◌, ◌++◌, inl, inr, refl, ap, subst, ◌∙◌, fold, In, Name, MachineState, words_at, words_sum, chunk_words, room_behind}

module _ (m m' : MachineState) where
  abbrev Same : List Name → Type 0
  Same ns = (n : Name) → In ns n → words_at m' n ≡ words_at m n

  abbrev AllSame : List (List Name) → Type 0
  AllSame [] = Unit {0}
  AllSame (ns ∷ lists) = Same ns × AllSame lists

  folds : (ns : List Name) (k : ℕ) → Same ns → fold (λ a n. a + words_at m' n) k ns ≡ fold (λ a n. a + words_at m n) k ns
  folds [] k S = refl
  folds (n ∷ ns) k S = ap (λ j. fold (λ a n. a + words_at m' n) (k + j) ns) (S n (inl refl)) ∙ folds ns (k + words_at m n) (λ j i. S j (inr i))

  sum_same : (ns : List Name) → Same ns → words_sum m' ns ≡ words_sum m ns
  sum_same ns S = folds ns 0 S

  one_more : (ns : List Name) (n : Name) → Same ns → words_at m' n ≡ words_at m n → Same (ns ++ n ∷ [])
  one_more [] n S e k (inl q) = subst (λ j. words_at m' j ≡ words_at m j) q e
  one_more [] n S e k (inr q) = absurd q
  one_more (z ∷ ns) n S e k (inl q) = S k (inl q)
  one_more (z ∷ ns) n S e k (inr i) = one_more ns n (λ j q. S j (inr q)) e k i

  lone : (n : Name) → words_at m' n ≡ words_at m n → Same (n ∷ [])
  lone n e k (inl q) = subst (λ j. words_at m' j ≡ words_at m j) q e
  lone n e k (inr q) = absurd q

  room_same : (lists : List (List Name)) → AllSame lists → room_behind m' lists ≡ room_behind m lists
  room_same [] S = refl
  room_same (ns ∷ []) S = ap (λ k. chunk_words - k) (sum_same ns S.0)
  room_same (ns ∷ ms ∷ rest) S = room_same (ms ∷ rest) S.1
