-- The positions of the chunks after a sweep: in the same order as before.
use Rattle.heap_marking.proofs.Common.{◌≡◌, ℕ, zero, suc, ◌+◌, ◌<◌, ◌==◌, arith, Bool, true, false, cond, not, Some, None, List, [], ◌∷◌, filter, length, map, refl, ap, sym, subst, ◌∙◌, eq-eqb, ne_eqb, cond-false, cond-true, eqb-true, false≢true, is_empty, in_from_kept, map_in, Name, is_last_empty, Addr, chunk_at, chunk_position, ChunkValue, chunk_there, IsFresh, stays, swept_chunk, chunk_names, small_chunks, In, IsLastSmall, chunk_of, chunks_of, fresh_off, place_there, same_chunk, fresh_by}
use Rattle.core_invariant.specs.below.leaf_heap.{HaveDistinctNumbers}
use Rattle.heap_marking.proofs.SweptChunks.{has, left}

-- the list has a chunk of this number, with such ones after it
pub record StandsBefore (ls : List ChunkValue) (n : ℕ) (k : ChunkValue) (Q : ChunkValue → Type 0) : Type 0 where
  pub at : ℕ
  pub place : chunk_position ls n ≡ at
  pub within : at < length ls
  pub is : chunk_at ls at ≡ k
  pub behind : (j : ℕ) → at < j → j < length ls → Q (chunk_at ls j)

module _ (kept : List Addr) where
  -- what stays is a chunk that was there, swept
  pub left_was : (ks : List ChunkValue) (k : ChunkValue) → In (left kept ks) k → (x : ChunkValue) × In ks x × (has kept x ≡ true) × (swept_chunk kept x ≡ k)
  left_was ks k i =
      let m = map_in (swept_chunk kept) (filter (stays kept None) ks) k i in
      let f = in_from_kept (stays kept None) ks m.0 m.1 in
      (m.0, f.0, f.1, m.2)

  module _ (Q : ChunkValue → Type 0) (still : (k : ChunkValue) → Q k → Q (swept_chunk kept k)) where
    all_left : (ks : List ChunkValue) → ((j : ℕ) → j < length ks → Q (chunk_at ks j)) → (j : ℕ) → j < length (left kept ks) → Q (chunk_at (left kept ks) j)
    all_left ks f j lt =
        let m = left_was ks (chunk_at (left kept ks) j) (chunk_there (left kept ks) j lt) in
        let p = place_there ks m.0 m.1 in
        subst Q m.3 (still m.0 (subst Q p.2 (f p.0 p.1)))

    -- a chunk that stays comes before what came after it
    pub stays_before : (ks : List ChunkValue) → HaveDistinctNumbers ks → (i : ℕ) → i < length ks → has kept (chunk_at ks i) ≡ true → ((j : ℕ) → i < j → j < length ks → Q (chunk_at ks j))
        → StandsBefore (left kept ks) (chunk_at ks i).number (swept_chunk kept (chunk_at ks i)) Q
    stays_before [] A i lt h f = absurd (omega (arith, lt))
    stays_before (k ∷ ks) A zero lt h f =
        subst (λ (b : Bool). StandsBefore (map (swept_chunk kept) (cond b (k ∷ filter (stays kept None) ks) (filter (stays kept None) ks))) k.number (swept_chunk kept k) Q) (sym h) first
      where
        behind : (j : ℕ) → 0 < j → j < length (swept_chunk kept k ∷ left kept ks) → Q (chunk_at (swept_chunk kept k ∷ left kept ks) j)
        behind zero b l = absurd (omega (arith, b))
        behind (suc j) b l = all_left ks (λ i l. f (suc i) (omega arith) (omega (arith, l))) j (omega (arith, l))

        first : StandsBefore (swept_chunk kept k ∷ left kept ks) k.number (swept_chunk kept k) Q
        first = record {
          at = 0;
          place = cond-true (k.number == k.number) 0 (1 + chunk_position (left kept ks) k.number) (eq-eqb k.number k.number refl);
          within = omega arith;
          is = refl;
          behind = behind;
        }
    stays_before (k ∷ ks) A (suc i) lt h f = stays_before_by_cases (has kept k) refl (stays_before ks A.1 i (omega (arith, lt)) h (λ j b l. f (suc j) (omega (arith, b)) (omega (arith, l))))
      where
        other : k.number ≡ (chunk_at ks i).number → ⊥
        other e = fresh_off ks (chunk_at ks i) k.number A.0 (chunk_there ks i (omega (arith, lt))) (sym e)

        stays_before_by_cases : (b : Bool) → has kept k ≡ b → StandsBefore (left kept ks) (chunk_at ks i).number (swept_chunk kept (chunk_at ks i)) Q
            → StandsBefore (map (swept_chunk kept) (cond b (k ∷ filter (stays kept None) ks) (filter (stays kept None) ks))) (chunk_at ks i).number (swept_chunk kept (chunk_at ks i)) Q
        stays_before_by_cases false e S = S
        stays_before_by_cases true e S = record {
          at = suc S.at;
          place = cond-false (k.number == (chunk_at ks i).number) 0 (1 + chunk_position (left kept ks) (chunk_at ks i).number) (ne_eqb k.number (chunk_at ks i).number other) ∙ (let p = S.place in omega (arith, p));
          within = let w = S.within in omega (arith, w);
          is = S.is;
          behind = behind S;
        }
          where
            behind : (S : StandsBefore (left kept ks) (chunk_at ks i).number (swept_chunk kept (chunk_at ks i)) Q) (j : ℕ) → suc S.at < j → j < length (swept_chunk kept k ∷ left kept ks) → Q (chunk_at (swept_chunk kept k ∷ left kept ks) j)
            behind S zero b l = absurd (omega (arith, b))
            behind S (suc j) b l = S.behind j (omega (arith, b)) (omega (arith, l))

  -- and none has the number of a released one
  pub goes_off : (ks : List ChunkValue) → HaveDistinctNumbers ks → (k : ChunkValue) → In ks k → has kept k ≡ false → IsFresh (left kept ks) k.number
  goes_off ks A k i h = fresh_by (left kept ks) k.number (λ c j e.
      let m = left_was ks c j in
      let same : m.0 ≡ k = same_chunk ks m.0 k A m.1 i (ap (λ (z : ChunkValue). z.number) m.3 ∙ e) in
      false≢true (sym h ∙ (ap (has kept) (sym same) ∙ m.2)))

-- THE LAST LIST of names is that of the last small chunk
abbrev pub small_names_of : List ChunkValue → List (List Name)
small_names_of ks = map chunk_names (small_chunks (chunks_of ks))

-- with a chunk in front of them
abbrev names_with : Bool → ChunkValue → List ChunkValue → List (List Name)
names_with b k ks = map chunk_names (cond (not (not b)) (chunk_of k ∷ small_chunks (chunks_of ks)) (small_chunks (chunks_of ks)))

none_small : (ks : List ChunkValue) → ((j : ℕ) → j < length ks → (chunk_at ks j).size ≡ 1024 → ⊥) → small_names_of ks ≡ []
none_small [] f = refl
none_small (k ∷ ks) f = none_small_by_cases (k.size == 1024) refl (none_small ks (λ j l. f (suc j) (omega (arith, l))))
  where
    none_small_by_cases : (b : Bool) → (k.size == 1024) ≡ b → small_names_of ks ≡ [] → names_with b k ks ≡ []
    none_small_by_cases true q go = absurd (f 0 (omega arith) (eqb-true k.size 1024 q))
    none_small_by_cases false q go = go

some_small : (ks : List ChunkValue) (i : ℕ) → i < length ks → (chunk_at ks i).size ≡ 1024 → (ns : List Name) × (rest : List (List Name)) × (small_names_of ks ≡ ns ∷ rest)
some_small [] i l e = absurd (omega (arith, l))
some_small (k ∷ ks) zero l e = (chunk_names (chunk_of k), small_names_of ks, ap (λ b. names_with b k ks) (eq-eqb k.size 1024 e))
some_small (k ∷ ks) (suc i) l e = some_small_by_cases (k.size == 1024) (some_small ks i (omega (arith, l)) e)
  where
    some_small_by_cases : (b : Bool) → (ns : List Name) × (rest : List (List Name)) × (small_names_of ks ≡ ns ∷ rest) → (ns : List Name) × (rest : List (List Name)) × (names_with b k ks ≡ ns ∷ rest)
    some_small_by_cases true go = (chunk_names (chunk_of k), small_names_of ks, refl)
    some_small_by_cases false go = go

pub last_empty : (f : List Name → List Name) (ks : List ChunkValue) (i : ℕ) → i < length ks → (chunk_at ks i).size ≡ 1024 → IsLastSmall ks (Some i) → is_last_empty (map f (small_names_of ks)) ≡ is_empty (f (chunk_names (chunk_of (chunk_at ks i))))
last_empty f [] i l e last = absurd (omega (arith, l))
last_empty f (k ∷ ks) zero l e last =
    ap (λ z. is_last_empty (map f z)) (ap (λ b. names_with b k ks) (eq-eqb k.size 1024 e) ∙ ap (λ ns. chunk_names (chunk_of k) ∷ ns) (none_small ks (λ j b. last (suc j) (omega arith) (omega (arith, b)))))
last_empty f (k ∷ ks) (suc i) l e last =
    last_empty_by_cases (k.size == 1024) (some_small ks i (omega (arith, l)) e) (last_empty f ks i (omega (arith, l)) e (λ j b w. last (suc j) (omega (arith, b)) (omega (arith, w))))
  where
    last_empty_by_cases : (b : Bool) → (ns : List Name) × (rest : List (List Name)) × (small_names_of ks ≡ ns ∷ rest) → is_last_empty (map f (small_names_of ks)) ≡ is_empty (f (chunk_names (chunk_of (chunk_at ks i))))
        → is_last_empty (map f (names_with b k ks)) ≡ is_empty (f (chunk_names (chunk_of (chunk_at ks i))))
    last_empty_by_cases false some go = go
    last_empty_by_cases true some go = ap (λ z. is_last_empty (f (chunk_names (chunk_of k)) ∷ map f z)) some.2 ∙ (sym (ap (λ z. is_last_empty (map f z)) some.2) ∙ go)
