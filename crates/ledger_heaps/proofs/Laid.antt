-- Names laid into lists, keeping the words of the last list.
use Rattle.ledger_heaps.proofs.Common.{◌≡◌, ℕ, ◌+◌, ◌-◌, ◌<◌, ◌≤◌, Bool, true, false, cond, List, [], ◌∷◌, ◌++◌, nat_le, refl, ap, sym, ◌∙◌, arith, false≢true, sum_by_push, Name, MachineState, chunk_words, words_at, words_sum, lay, put_last, room_behind, last_words}

pub lay_first : (m : MachineState) (lists : List (List Name)) (n : Name) → lists ≡ [] → lists ++ (n ∷ []) ∷ [] ≡ lay m lists n
lay_first m lists n e = rw e refl

pub lay_new : (m : MachineState) (lists : List (List Name)) (n : Name) (last words : ℕ) → last ≡ last_words m lists → words ≡ words_at m n → (lists ≡ [] → ⊥) → chunk_words < last + words
    → lists ++ (n ∷ []) ∷ [] ≡ lay m lists n
lay_new m [] n last words e w ne h = refl
lay_new m (ns ∷ []) n last words e w ne h = by_test (nat_le (words_sum m ns + words_at m n) chunk_words) (search (arith, e, w, h))
  where
    by_test : (b : Bool) → b ≡ false → ns ∷ (n ∷ []) ∷ [] ≡ cond b ((ns ++ n ∷ []) ∷ []) (ns ∷ (n ∷ []) ∷ [])
    by_test true is = absurd (false≢true (sym is))
    by_test false is = refl
lay_new m (ns ∷ ms ∷ rest) n last words e w ne h = ap (λ ls. ns ∷ ls) (lay_new m (ms ∷ rest) n last words e w (λ q. absurd cc) h)

pub lay_last : (m : MachineState) (lists : List (List Name)) (n : Name) (last words : ℕ) → last ≡ last_words m lists → words ≡ words_at m n → (lists ≡ [] → ⊥) → last + words ≤ chunk_words
    → put_last lists n ≡ lay m lists n
lay_last m [] n last words e w ne h = refl
lay_last m (ns ∷ []) n last words e w ne h = by_test (nat_le (words_sum m ns + words_at m n) chunk_words) (search (arith, e, w, h))
  where
    by_test : (b : Bool) → b ≡ true → (ns ++ n ∷ []) ∷ [] ≡ cond b ((ns ++ n ∷ []) ∷ []) (ns ∷ (n ∷ []) ∷ [])
    by_test true is = refl
    by_test false is = absurd (false≢true is)
lay_last m (ns ∷ ms ∷ rest) n last words e w ne h = ap (λ ls. ns ∷ ls) (lay_last m (ms ∷ rest) n last words e w (λ q. absurd cc) h)

pub last_new : (m : MachineState) (lists : List (List Name)) (n : Name) → last_words m (lists ++ (n ∷ []) ∷ []) ≡ words_at m n
last_new m [] n = sum_by_push (words_at m) [] n ∙ omega arith
last_new m (ns ∷ []) n = sum_by_push (words_at m) [] n ∙ omega arith
last_new m (ns ∷ ms ∷ rest) n = last_new m (ms ∷ rest) n

pub room_first : (m : MachineState) (lists : List (List Name)) → lists ≡ [] → 0 ≡ room_behind m lists
room_first m lists e = rw e refl

pub room_last : (m : MachineState) (lists : List (List Name)) (last : ℕ) → last ≡ last_words m lists → (lists ≡ [] → ⊥) → 1024 - last ≡ room_behind m lists
room_last m [] last e ne = absurd (ne refl)
room_last m (ns ∷ []) last e ne = ap (λ w. 1024 - w) e
room_last m (ns ∷ ms ∷ rest) last e ne = room_last m (ms ∷ rest) last e (λ q. absurd cc)
