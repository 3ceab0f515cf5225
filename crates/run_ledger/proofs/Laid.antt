-- How many lists a leaf collection lays its survivors into, and that each is nonempty.
use Rattle.run_ledger.proofs.Common.{◌≡◌, ℕ, suc, ◌+◌, ◌-◌, ◌*◌, ◌<◌, ◌≤◌, max, Bool, true, false, cond, List, [], ◌∷◌, ◌++◌, length, nat_le, ◌⊎◌, inl, inr, refl, ap, sym, subst, ◌∙◌, arith, leb-false, sum_by-append, sum_by-cons, In, Filled, filled_more, filled_next, Name, MachineState, Heap, chunk_words, units, words_at, words_sum, small_in, lay, laid_onto, small_survivors, collected, take_of, without_empty, is_last_empty, room_behind, last_words}
use Rattle.run_ledger.proofs.Weights.{survivors_weight}

module _ (m : MachineState) where
  abbrev Laid : List (List Name) → Name → List (List Name) → Type 0
  Laid lists n lists' =
      ((0 < length lists) × (length lists' ≡ length lists) × (last_words m lists' ≡ last_words m lists + words_at m n))
      ⊎ ((length lists' ≡ length lists + 1) × (last_words m lists' ≡ words_at m n) × (0 < length lists → 1024 < last_words m lists + words_at m n))

  lay_by : (ns : List Name) (n : Name) (b : Bool) → nat_le (words_sum m ns + words_at m n) chunk_words ≡ b → Laid (ns ∷ []) n (cond b ((ns ++ n ∷ []) ∷ []) (ns ∷ (n ∷ []) ∷ []))
  lay_by ns n true e = inl (omega arith, refl, sum_by-append (words_at m) ns (n ∷ []) ∙ omega arith)
  lay_by ns n false e = inr (omega arith, omega arith, λ l. leb-false (words_sum m ns + words_at m n) chunk_words e)

  further : (ns ms : List Name) (rest : List (List Name)) (n : Name) (lists' : List (List Name)) → 0 < length lists' → Laid (ms ∷ rest) n lists' → Laid (ns ∷ ms ∷ rest) n (ns ∷ lists')
  further ns ms rest n [] l h = absurd (omega arith)
  further ns ms rest n (k ∷ ks) l (inl h) = inl (omega arith, ap suc h.1, h.2)
  further ns ms rest n (k ∷ ks) l (inr h) = inr (let e : length (k ∷ ks) ≡ length (ms ∷ rest) + 1 = h.0 in omega arith, h.1, λ z. h.2 (omega arith))

  some_laid : (ms : List Name) (rest : List (List Name)) (n : Name) (lists' : List (List Name)) → Laid (ms ∷ rest) n lists' → 0 < length lists'
  some_laid ms rest n lists' (inl h) = let e : length lists' ≡ suc (length rest) = h.1 in omega arith
  some_laid ms rest n lists' (inr h) = let e : length lists' ≡ suc (length rest) + 1 = h.0 in omega arith

  lay_laid : (lists : List (List Name)) (n : Name) → Laid lists n (lay m lists n)
  lay_laid [] n = inr (omega arith, omega arith, λ l. absurd (omega arith))
  lay_laid (ns ∷ []) n = lay_by ns n (nat_le (words_sum m ns + words_at m n) chunk_words) refl
  lay_laid (ns ∷ ms ∷ rest) n = further ns ms rest n (lay m (ms ∷ rest) n) (some_laid ms rest n (lay m (ms ∷ rest) n) (lay_laid (ms ∷ rest) n)) (lay_laid (ms ∷ rest) n)

  abbrev FilledLists : List (List Name) → ℕ → Type 0
  FilledLists lists t = Filled (length lists) (last_words m lists) t

  filled_lay : (lists lists' : List (List Name)) (n : Name) (t : ℕ) → FilledLists lists t → Laid lists n lists' → FilledLists lists' (t + words_at m n)
  filled_lay lists lists' n t F (inl h) =
      subst (λ k. Filled k (last_words m lists') (t + words_at m n)) (sym h.1)
      (subst (λ u. Filled (length lists) u (t + words_at m n)) (sym h.2) (filled_more (length lists) (last_words m lists) (words_at m n) t F))
  filled_lay lists lists' n t F (inr h) =
      subst (λ k. Filled k (last_words m lists') (t + words_at m n)) (sym h.0)
      (subst (λ u. Filled (length lists + 1) u (t + words_at m n)) (sym h.1) (filled_next (length lists) (last_words m lists) (words_at m n) t F h.2))

  filled_onto : (ns : List Name) (lists : List (List Name)) (t : ℕ) → FilledLists lists t → FilledLists (laid_onto m lists ns) (t + words_sum m ns)
  filled_onto [] lists t F = subst (FilledLists lists) (let e : t ≡ t + 0 = omega arith in e) F
  filled_onto (n ∷ ns) lists t F =
      let more = filled_onto ns (lay m lists n) (t + words_at m n) (filled_lay lists (lay m lists n) n t F (lay_laid lists n)) in
      let a = sum_by-cons (words_at m) n ns in
      subst (FilledLists (laid_onto m (lay m lists n) ns)) (let e : t + words_at m n + words_sum m ns ≡ t + words_sum m (n ∷ ns) = omega arith in e) more

  bounded : (k u t w : ℕ) → Filled k u t → t ≤ w → k ≤ 2 * max 1 (units w) - 1
  bounded k u t w (j, inl f) le = let a : k ≡ 2 * j = f.0 in let q : 1025 * j ≤ t = f.1 in omega arith
  bounded k u t w (j, inr f) le = let a : k ≡ 2 * j + 1 = f.0 in let q : 1025 * j + u ≤ t = f.1 in omega arith

  pub collected_bound : (h : Heap) → length (collected m h).chunks ≤ take_of m h
  collected_bound h =
      let F = filled_onto (small_survivors h) [] 0 (0, inl (refl, omega arith)) in
      let less : words_sum m (small_survivors h) ≤ words_sum m (small_in h) = survivors_weight (words_at m) h in
      bounded (length (collected m h).chunks) (last_words m (collected m h).chunks) (0 + words_sum m (small_survivors h)) (words_sum m (small_in h)) F (omega arith)

  -- each list is nonempty
  abbrev pub HaveNames : List (List Name) → Type 0
  HaveNames lists = (ns : List Name) → In lists ns → 0 < length ns

  some_in : (ns : List Name) (n : Name) → 0 < length (ns ++ n ∷ [])
  some_in [] n = omega arith
  some_in (x ∷ ns) n = omega arith

  lay_names_by : (ns : List Name) (n : Name) (b : Bool) → 0 < length ns → HaveNames (cond b ((ns ++ n ∷ []) ∷ []) (ns ∷ (n ∷ []) ∷ []))
  lay_names_by ns n true l xs (inl e) = subst (λ ys. 0 < length ys) e (some_in ns n)
  lay_names_by ns n true l xs (inr i) = absurd i
  lay_names_by ns n false l xs (inl e) = subst (λ ys. 0 < length ys) e l
  lay_names_by ns n false l xs (inr (inl e)) = subst (λ ys. 0 < length ys) e (omega arith)
  lay_names_by ns n false l xs (inr (inr i)) = absurd i

  lay_names : (lists : List (List Name)) (n : Name) → HaveNames lists → HaveNames (lay m lists n)
  lay_names [] n H xs (inl e) = subst (λ ys. 0 < length ys) e (omega arith)
  lay_names [] n H xs (inr i) = absurd i
  lay_names (ns ∷ []) n H xs i = lay_names_by ns n (nat_le (words_sum m ns + words_at m n) chunk_words) (H ns (inl refl)) xs i
  lay_names (ns ∷ ms ∷ rest) n H xs (inl e) = H xs (inl e)
  lay_names (ns ∷ ms ∷ rest) n H xs (inr i) = lay_names (ms ∷ rest) n (λ ys j. H ys (inr j)) xs i

  pub onto_names : (ns : List Name) (lists : List (List Name)) → HaveNames lists → HaveNames (laid_onto m lists ns)
  onto_names [] lists H = H
  onto_names (n ∷ ns) lists H = onto_names ns (lay m lists n) (lay_names lists n H)

  pub room_some : (lists : List (List Name)) → 0 < room_behind m lists → 0 < length lists
  room_some [] h = h
  room_some (ns ∷ lists) h = omega arith

pub nonempty_names : (m : MachineState) (lists : List (List Name)) → HaveNames m (without_empty lists)
nonempty_names m [] xs i = absurd i
nonempty_names m ([] ∷ lists) xs i = nonempty_names m lists xs i
nonempty_names m ((n ∷ ns) ∷ lists) xs (inl e) = subst (λ ys. 0 < length ys) e (omega arith)
nonempty_names m ((n ∷ ns) ∷ lists) xs (inr i) = nonempty_names m lists xs i

pub nonempty_length : (lists : List (List Name)) → length (without_empty lists) ≤ length lists
nonempty_length [] = omega arith
nonempty_length ([] ∷ lists) = let h = nonempty_length lists in omega arith
nonempty_length ((n ∷ ns) ∷ lists) = let h = nonempty_length lists in omega arith

-- if the last list is nonempty, some list is
pub last_some : (lists : List (List Name)) → is_last_empty lists ≡ false → 0 < length lists → 0 < length (without_empty lists)
last_some [] e l = l
last_some ([] ∷ []) e l = absurd cc
last_some ((n ∷ ns) ∷ []) e l = omega arith
last_some ([] ∷ ms ∷ rest) e l = last_some (ms ∷ rest) e (omega arith)
last_some ((n ∷ ns) ∷ ms ∷ rest) e l = omega arith
