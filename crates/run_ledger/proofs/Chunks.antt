-- The words of lists that stand for chunks.
use Rattle.run_ledger.proofs.Common.{◌≡◌, ℕ, ◌+◌, ◌*◌, ◌<◌, ◌≤◌, Bool, true, false, cond, List, [], ◌∷◌, ◌++◌, map, length, nat_le, sum_by, inl, inr, refl, ap, ap₂, sym, subst, ◌∙◌, arith, flat_map, false≢true, leb-true, sum_by-append, sum_by-cons, is_empty, In, in_append_left, in_append_right, in_append_cases, Name, MachineState, Heap, chunk_words, units, words_at, words_sum, units_sum, small_in, words_in, put_last, lay, laid_onto, room_behind, without_empty, is_last_empty, in_snapshot, last_words}
use Rattle.run_ledger.proofs.Weights.{kept_weight}

pub sum_same : {A : Type 0} (f g : A → ℕ) (xs : List A) → ((x : A) → In xs x → f x ≡ g x) → sum_by f xs ≡ sum_by g xs
sum_same f g [] same = refl
sum_same f g (x ∷ xs) same = sum_by-cons f x xs ∙ (ap₂ (λ a b. a + b) (same x (inl refl)) (sum_same f g xs (λ y i. same y (inr i))) ∙ sym (sum_by-cons g x xs))

-- no list has more words than a chunk
abbrev pub Full : MachineState → List (List Name) → Type 0
Full m lists = (ns : List Name) → In lists ns → words_sum m ns ≤ chunk_words

in_lists : (lists : List (List Name)) (ns : List Name) (n : Name) → In lists ns → In ns n → In (flat_map (λ ns. ns) lists) n
in_lists [] ns n i j = elim i [ ]
in_lists (ms ∷ lists) ns n (inl e) j = in_append_left ms (flat_map (λ ns. ns) lists) n (subst (λ ks. In ks n) (sym e) j)
in_lists (ms ∷ lists) ns n (inr i) j = in_append_right ms (flat_map (λ ns. ns) lists) n (in_lists lists ns n i j)

-- the words of names whose objects keep theirs
pub full_same : (m m' : MachineState) (lists : List (List Name)) → ((n : Name) → In (flat_map (λ ns. ns) lists) n → words_at m' n ≡ words_at m n) → Full m lists → Full m' lists
full_same m m' lists same F ns i = subst (λ w. w ≤ chunk_words) (sym (sum_same (words_at m') (words_at m) ns (λ n j. same n (in_lists lists ns n i j)))) (F ns i)

pub last_same : (m m' : MachineState) (lists : List (List Name)) → ((n : Name) → In (flat_map (λ ns. ns) lists) n → words_at m' n ≡ words_at m n) → last_words m' lists ≡ last_words m lists
last_same m m' [] same = refl
last_same m m' (ns ∷ []) same = sum_same (words_at m') (words_at m) ns (λ n j. same n (in_append_left ns [] n j))
last_same m m' (ns ∷ ms ∷ rest) same = last_same m m' (ms ∷ rest) (λ n j. same n (in_append_right ns (flat_map (λ ns. ns) (ms ∷ rest)) n j))

pub last_full : (m : MachineState) (lists : List (List Name)) → Full m lists → last_words m lists ≤ chunk_words
last_full m [] F = omega arith
last_full m (ns ∷ []) F = F ns (inl refl)
last_full m (ns ∷ ms ∷ rest) F = last_full m (ms ∷ rest) (λ ks i. F ks (inr i))

module _ (m : MachineState) where
  push_words : (ns : List Name) (n : Name) → words_sum m (ns ++ n ∷ []) ≡ words_sum m ns + words_at m n
  push_words ns n = sum_by-append (words_at m) ns (n ∷ []) ∙ omega arith

  -- a name put last
  pub put_last_words : (lists : List (List Name)) (n : Name) → last_words m (put_last lists n) ≡ last_words m lists + words_at m n
  put_last_words [] n = omega arith
  put_last_words (ns ∷ []) n = push_words ns n
  put_last_words (ns ∷ ms ∷ []) n = push_words ms n
  put_last_words (ns ∷ ms ∷ ks ∷ rest) n = put_last_words (ms ∷ ks ∷ rest) n

  pub put_full : (lists : List (List Name)) (n : Name) → Full m lists → last_words m lists + words_at m n ≤ chunk_words → Full m (put_last lists n)
  put_full [] n F h xs (inl e) = subst (λ ys. words_sum m ys ≤ chunk_words) e (omega arith)
  put_full [] n F h xs (inr i) = absurd i
  put_full (ns ∷ []) n F h xs (inl e) = subst (λ ys. words_sum m ys ≤ chunk_words) e (let a = push_words ns n in omega arith)
  put_full (ns ∷ []) n F h xs (inr i) = absurd i
  put_full (ns ∷ ms ∷ rest) n F h xs (inl e) = F xs (inl e)
  put_full (ns ∷ ms ∷ rest) n F h xs (inr i) = put_full (ms ∷ rest) n (λ ks j. F ks (inr j)) h xs i

  pub append_full : (xs ys : List (List Name)) → Full m xs → Full m ys → Full m (xs ++ ys)
  append_full xs ys F G ns i = elim (in_append_cases xs ys ns i) [ inl j ↦ F ns j | inr j ↦ G ns j ]

  -- the last list of a concatenation
  pub last_append : (xs ys : List (List Name)) → 0 < length ys → last_words m (xs ++ ys) ≡ last_words m ys
  last_append [] ys l = refl
  last_append (ns ∷ []) [] l = absurd (omega arith)
  last_append (ns ∷ []) (k ∷ ys) l = refl
  last_append (ns ∷ ms ∷ xs) ys l = last_append (ms ∷ xs) ys l

  -- names laid into lists
  lay_full_by : (ns : List Name) (n : Name) (b : Bool) → nat_le (words_sum m ns + words_at m n) chunk_words ≡ b → words_sum m ns ≤ chunk_words → words_at m n ≤ chunk_words → Full m (cond b ((ns ++ n ∷ []) ∷ []) (ns ∷ (n ∷ []) ∷ []))
  lay_full_by ns n true e h k xs (inl q) = subst (λ ys. words_sum m ys ≤ chunk_words) q (let a = push_words ns n in let c = leb-true (words_sum m ns + words_at m n) chunk_words e in omega arith)
  lay_full_by ns n true e h k xs (inr i) = absurd i
  lay_full_by ns n false e h k xs (inl q) = subst (λ ys. words_sum m ys ≤ chunk_words) q h
  lay_full_by ns n false e h k xs (inr (inl q)) = subst (λ ys. words_sum m ys ≤ chunk_words) q (omega arith)
  lay_full_by ns n false e h k xs (inr (inr i)) = absurd i

  lay_full : (lists : List (List Name)) (n : Name) → Full m lists → words_at m n ≤ chunk_words → Full m (lay m lists n)
  lay_full [] n F k xs (inl q) = subst (λ ys. words_sum m ys ≤ chunk_words) q (omega arith)
  lay_full [] n F k xs (inr i) = absurd i
  lay_full (ns ∷ []) n F k xs i = lay_full_by ns n (nat_le (words_sum m ns + words_at m n) chunk_words) refl (F ns (inl refl)) k xs i
  lay_full (ns ∷ ms ∷ rest) n F k xs (inl q) = F xs (inl q)
  lay_full (ns ∷ ms ∷ rest) n F k xs (inr i) = lay_full (ms ∷ rest) n (λ ks j. F ks (inr j)) k xs i

  pub onto_full : (ns : List Name) (lists : List (List Name)) → Full m lists → ((n : Name) → In ns n → words_at m n ≤ chunk_words) → Full m (laid_onto m lists ns)
  onto_full [] lists F small = F
  onto_full (n ∷ ns) lists F small = onto_full ns (lay m lists n) (lay_full lists n F (small n (inl refl))) (λ k i. small k (inr i))

  pub room_full : (lists : List (List Name)) → last_words m lists ≤ chunk_words → last_words m lists + room_behind m lists ≤ chunk_words
  room_full [] h = omega arith
  room_full (ns ∷ []) h = omega arith
  room_full (ns ∷ ms ∷ rest) h = room_full (ms ∷ rest) h

  -- a name has no more words than its list
  part : (ns : List Name) (n : Name) → In ns n → words_at m n ≤ words_sum m ns
  part [] n i = elim i [ ]
  part (x ∷ ns) n (inl e) = let a = sum_by-cons (words_at m) x ns in let b = ap (words_at m) e in omega arith
  part (x ∷ ns) n (inr i) = let a = sum_by-cons (words_at m) x ns in let b = part ns n i in omega arith

  pub small_full : (lists : List (List Name)) → Full m lists → (n : Name) → In (flat_map (λ ns. ns) lists) n → words_at m n ≤ chunk_words
  small_full [] F n i = absurd i
  small_full (ns ∷ lists) F n i = elim (in_append_cases ns (flat_map (λ ns. ns) lists) n i) [
    | inl j ↦ let a = part ns n j in let b = F ns (inl refl) in omega arith
    | inr j ↦ small_full lists (λ ks q. F ks (inr q)) n j
  ]

  -- lists after a sweep
  module _ (h : Heap) where
    snapshot_full : (lists : List (List Name)) → Full m lists → Full m (map (in_snapshot h) lists)
    snapshot_full [] F xs i = absurd i
    snapshot_full (ns ∷ lists) F xs (inl e) = subst (λ ys. words_sum m ys ≤ chunk_words) e (let a = kept_weight (words_at m) _ ns in let a' : words_sum m (in_snapshot h ns) ≤ words_sum m ns = a in let b = F ns (inl refl) in omega arith)
    snapshot_full (ns ∷ lists) F xs (inr i) = snapshot_full lists (λ ks j. F ks (inr j)) xs i

    nonempty_in : (lists : List (List Name)) (xs : List Name) → In (without_empty lists) xs → In lists xs
    nonempty_in [] xs i = i
    nonempty_in ([] ∷ lists) xs i = inr (nonempty_in lists xs i)
    nonempty_in ((n ∷ ns) ∷ lists) xs (inl e) = inl e
    nonempty_in ((n ∷ ns) ∷ lists) xs (inr i) = inr (nonempty_in lists xs i)

    pub swept_full : (lists : List (List Name)) → Full m lists → Full m (without_empty (map (in_snapshot h) lists))
    swept_full lists F xs i = snapshot_full lists F xs (nonempty_in (map (in_snapshot h) lists) xs i)

    last_front : (ks : List Name) (lists : List (List Name)) → 0 < length lists → last_words m (ks ∷ lists) ≡ last_words m lists
    last_front ks [] l = absurd (omega arith)
    last_front ks (ns ∷ lists) l = refl

    swept_last_by : (ks : List Name) (rest : List (List Name)) (w : ℕ) → 0 < length (without_empty rest) → last_words m (without_empty rest) ≤ w → last_words m (without_empty (ks ∷ rest)) ≤ w
    swept_last_by [] rest w l h = h
    swept_last_by (k ∷ ks) rest w l h = subst (λ v. v ≤ w) (sym (last_front (k ∷ ks) (without_empty rest) l)) h

    one_last : (ks : List Name) (w : ℕ) → is_empty ks ≡ false → words_sum m ks ≤ w → last_words m (without_empty (ks ∷ [])) ≤ w
    one_last [] w e h = absurd (false≢true (sym e))
    one_last (k ∷ ks) w e h = h

    pub swept_last : (some : (lists : List (List Name)) → is_last_empty lists ≡ false → 0 < length lists → 0 < length (without_empty lists))
        (lists : List (List Name)) → is_last_empty (map (in_snapshot h) lists) ≡ false → last_words m (without_empty (map (in_snapshot h) lists)) ≤ last_words m lists
    swept_last some [] e = omega arith
    swept_last some (ns ∷ []) e = one_last (in_snapshot h ns) (words_sum m ns) e (kept_weight (words_at m) _ ns)
    swept_last some (ns ∷ ms ∷ rest) e =
        swept_last_by (in_snapshot h ns) (map (in_snapshot h) (ms ∷ rest)) (last_words m (ms ∷ rest)) (some (map (in_snapshot h) (ms ∷ rest)) e (omega arith)) (swept_last some (ms ∷ rest) e)

  -- WORDS AND UNITS

  lists_words : (lists : List (List Name)) → Full m lists → sum_by (words_at m) (flat_map (λ ns. ns) lists) ≤ chunk_words * length lists
  lists_words [] F = omega arith
  lists_words (ns ∷ lists) F =
      let a = sum_by-append (words_at m) ns (flat_map (λ ns. ns) lists) in
      let b = F ns (inl refl) in
      let c = lists_words lists (λ ks i. F ks (inr i)) in
      omega arith

  large_words : (ns : List Name) → words_sum m ns ≤ chunk_words * units_sum m ns
  large_words [] = omega arith
  large_words (n ∷ ns) =
      let a = sum_by-cons (words_at m) n ns in
      let b = sum_by-cons (λ n. units (words_at m n)) n ns in
      let c = large_words ns in
      omega arith

  pub heap_words : (h : Heap) → Full m h.chunks → words_in m h ≤ chunk_words * (length h.chunks + units_sum m h.large)
  heap_words h F =
      let a = sum_by-append (words_at m) (small_in h) h.large in
      let b = lists_words h.chunks F in
      let c = large_words h.large in
      omega arith
