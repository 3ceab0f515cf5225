-- The layout of a heap, from what is known of its chunks.
use Rattle.core_invariant.proofs.Common.{◌≡◌, ◌⊎◌, ℕ, zero, suc, ◌+◌, ◌*◌, ◌/◌, ◌<◌, ◌≤◌, ◌==◌, ◌&&◌, not, arith, Bool, true, false, Option, Some, None, List, [], ◌∷◌, length, map, inl, inr, refl, ap, ap₂, sym, subst, ◌∙◌, ne_eqb, AllByRecursion, cases_eq, cond-true, cond-false, eqb-true, false≢true, false_from_ne_true, same_Some, is_empty, map_in, Birth, Born, Cell, Hole, Mark, Moved, size_of, chunk_at, ChunkValue, words_in, Located, located, located_by, objects_from, HaveDistinctNumbers as HaveNumbersApart, LeafHeapValue, IsReserved, Chunk, In, objects_of_chunks, DontOverlap, AreLaidOut, HoldsLarge, reserved_chunks, reserved_units, words, in_chunk, HasReservedUnits, chunk_of, chunks_of}
use Rattle.std.specs.List.{IsDistinct}
use Rattle.core_invariant.proofs.CellsRead.{fresh_off, numbered}
use Rattle.core_invariant.proofs.HeapCounts.{is_spare, spare_tells}
use Rattle.core_invariant.proofs.PlacedForm.{Formed}

-- ---- THE OBJECTS OF ONE CHUNK

pub record Between (low high : ℕ) (o : Located) : Type 0 where
  pub begins : low ≤ o.at.offset
  pub ends : o.at.offset + words o ≤ high

between : (cs : List Cell) (number base : ℕ) (o : Located) → In (objects_from number base cs) o → Between base (base + words_in cs) o
between [] number base o i = absurd i
between (c ∷ cs) number base o i = between_by_cases c.mark i (between cs number (base + size_of c) o)
  where
    behind : Between (base + size_of c) (base + size_of c + words_in cs) o → Between base (base + (size_of c + words_in cs)) o
    behind b = record { begins = let x = b.begins in omega (arith, x); ends = let x = b.ends in omega (arith, x) }

    between_by_cases : (m : Mark) → In (located_by number base c m (objects_from number (base + size_of c) cs)) o → (In (objects_from number (base + size_of c) cs) o → Between (base + size_of c) (base + size_of c + words_in cs) o) → Between base (base + (size_of c + words_in cs)) o
    between_by_cases (Born b) (inl e) go = subst (Between base (base + (size_of c + words_in cs))) e (record { begins = omega arith; ends = omega arith })
    between_by_cases (Born b) (inr j) go = behind (go j)
    between_by_cases (Moved to) j go = behind (go j)
    between_by_cases Hole j go = behind (go j)

pub apart_here : (cs : List Cell) (number base : ℕ) (o q : Located) → In (objects_from number base cs) o → In (objects_from number base cs) q → (o ≡ q) ⊎ DontOverlap o q
apart_here [] number base o q i j = absurd i
apart_here (c ∷ cs) number base o q i j = apart_here_by_cases c.mark i j (apart_here cs number (base + size_of c) o q)
  where
    ahead : (b : Birth) (x y : Located) → located number base b c ≡ x → In (objects_from number (base + size_of c) cs) y → x.at.offset + words x ≤ y.at.offset
    ahead b x y e k = subst (λ (z : Located). z.at.offset + words z ≤ y.at.offset) e (let g = (between cs number (base + size_of c) y k).begins in omega (arith, g))

    apart_here_by_cases : (m : Mark) → In (located_by number base c m (objects_from number (base + size_of c) cs)) o → In (located_by number base c m (objects_from number (base + size_of c) cs)) q
        → (In (objects_from number (base + size_of c) cs) o → In (objects_from number (base + size_of c) cs) q → (o ≡ q) ⊎ DontOverlap o q) → (o ≡ q) ⊎ DontOverlap o q
    apart_here_by_cases (Born b) (inl e) (inl f) go = inl (sym e ∙ f)
    apart_here_by_cases (Born b) (inl e) (inr y) go = inr (inr (inl (ahead b o q e y)))
    apart_here_by_cases (Born b) (inr x) (inl f) go = inr (inr (inr (ahead b q o f x)))
    apart_here_by_cases (Born b) (inr x) (inr y) go = go x y
    apart_here_by_cases (Moved to) x y go = go x y
    apart_here_by_cases Hole x y go = go x y

-- ---- CHUNKS

pub same_chunk : (ks : List ChunkValue) (j k : ChunkValue) → HaveNumbersApart ks → In ks j → In ks k → j.number ≡ k.number → j ≡ k
same_chunk [] j k A i i' e = absurd i
same_chunk (y ∷ ys) j k A (inl a) (inl b) e = sym a ∙ b
same_chunk (y ∷ ys) j k A (inl a) (inr b) e = absurd (fresh_off ys k y.number A.0 b (sym e ∙ ap (λ (z : ChunkValue). z.number) (sym a)))
same_chunk (y ∷ ys) j k A (inr a) (inl b) e = absurd (fresh_off ys j y.number A.0 a (e ∙ ap (λ (z : ChunkValue). z.number) (sym b)))
same_chunk (y ∷ ys) j k A (inr a) (inr b) e = same_chunk ys j k A.1 a b e

pub distinct_from : (ks : List ChunkValue) → HaveNumbersApart ks → IsDistinct (λ a b. a == b) (map (λ (k : Chunk). k.number) (chunks_of ks))
unfolding IsDistinct
distinct_from [] A = tt
distinct_from (k ∷ ks) A = (all ks (λ j i. fresh_off ks j k.number A.0 i), distinct_from ks A.1)
  where
    all : (js : List ChunkValue) → ((j : ChunkValue) → In js j → j.number ≡ k.number → ⊥) → AllByRecursion (λ n. (k.number == n) ≡ false) (map (λ (c : Chunk). c.number) (chunks_of js))
    all [] off = tt
    all (j ∷ js) off = (ne_eqb k.number j.number (λ e. off j (inl refl) (sym e)), all js (λ x i. off x (inr i)))

-- a chunk that is seen is one of the heap
pub content_of : (ks : List ChunkValue) (k : Chunk) → In (chunks_of ks) k → (j : ChunkValue) × In ks j × (chunk_of j ≡ k)
content_of ks k i = map_in chunk_of ks k i

-- and its position
pub place_there : (ks : List ChunkValue) (k : ChunkValue) → In ks k → (i : ℕ) × (i < length ks) × (chunk_at ks i ≡ k)
place_there [] k i = absurd i
place_there (y ∷ ys) k (inl e) = (0, omega arith, e)
place_there (y ∷ ys) k (inr j) = let r = place_there ys k j in let lt = r.1 in (suc r.0, omega (arith, lt), r.2)

pub inside_from : (ks : List ChunkValue) (k : Chunk) (o : Located) → In (chunks_of ks) k → In k.objects o → o.at.chunk ≡ k.number
inside_from ks k o i j =
    let c = content_of ks k i in
    numbered c.0.number 0 c.0.cells o (subst (λ (z : Chunk). In z.objects o) (sym c.2) j) ∙ ap (λ (z : Chunk). z.number) c.2

-- ---- THE RESERVED CHUNK

none_spare : (ks : List ChunkValue) → ((j : ℕ) → j < length ks → is_spare (chunk_of (chunk_at ks j)) ≡ true → ⊥) → reserved_chunks (chunks_of ks) ≡ []
none_spare [] f = refl
none_spare (k ∷ ks) f =
    cond-false (is_spare (chunk_of k)) (chunk_of k ∷ reserved_chunks (chunks_of ks)) (reserved_chunks (chunks_of ks)) (false_from_ne_true (is_spare (chunk_of k)) (f 0 (omega arith)))
    ∙ none_spare ks (λ j lt. f (suc j) (omega (arith, lt)))

one_spare : (ks : List ChunkValue) (i : ℕ) → i < length ks → is_spare (chunk_of (chunk_at ks i)) ≡ true → ((j : ℕ) → j < length ks → is_spare (chunk_of (chunk_at ks j)) ≡ true → i ≡ j) → reserved_chunks (chunks_of ks) ≡ chunk_of (chunk_at ks i) ∷ []
one_spare [] i lt s f = absurd (omega (arith, lt))
one_spare (k ∷ ks) zero lt s f =
    cond-true (is_spare (chunk_of k)) (chunk_of k ∷ reserved_chunks (chunks_of ks)) (reserved_chunks (chunks_of ks)) s
    ∙ ap (λ cs. chunk_of k ∷ cs) (none_spare ks (λ j l t. let e : 0 ≡ suc j = f (suc j) (omega (arith, l)) t in omega (arith, e)))
one_spare (k ∷ ks) (suc i) lt s f =
    cond-false (is_spare (chunk_of k)) (chunk_of k ∷ reserved_chunks (chunks_of ks)) (reserved_chunks (chunks_of ks)) (false_from_ne_true (is_spare (chunk_of k)) (λ t. let e : suc i ≡ 0 = f 0 (omega arith) t in omega (arith, e)))
    ∙ one_spare ks i (omega (arith, lt)) s (λ j l t. let e : suc i ≡ suc j = f (suc j) (omega (arith, l)) t in omega (arith, e))

pub some_units : (n : ℕ) → 1 ≤ n → n ∷ [] ≡ reserved_units n
some_units zero lt = absurd (omega (arith, lt))
some_units (suc n) lt = refl

module _ (h : LeafHeapValue) (F : Formed h) where
  spare_is : (j : ℕ) → j < length h.chunks → is_spare (chunk_of (chunk_at h.chunks j)) ≡ true → h.reserved ≡ Some j
  spare_is j lt s = let y = spare_tells (chunk_at h.chunks j) s in F.spare j lt y.0 y.1

  reserved_by : (o : Option ℕ) → h.reserved ≡ o → IsReserved h.chunks o → (n : ℕ) → HasReservedUnits h.chunks o n → map (λ (k : Chunk). k.units) (reserved_chunks (chunks_of h.chunks)) ≡ reserved_units n
  reserved_by None e R n r =
      ap (map (λ (k : Chunk). k.units)) (none_spare h.chunks (λ j lt s. none_some j (sym e ∙ spare_is j lt s))) ∙ ap reserved_units (sym r)
    where
      none_some : (j : ℕ) → ◌≡◌ {A = Option ℕ} None (Some j) → ⊥
      none_some j q = absurd cc
  reserved_by (Some i) e R n r =
      let k : ChunkValue = chunk_at h.chunks i in
      let big : 1024 < k.size = R.1.0 in
      let size : k.size ≡ 1024 * n = r in
      let spare : is_spare (chunk_of k) ≡ true = ap₂ (λ a (os : List Located). not a && is_empty os) (ne_eqb k.size 1024 (λ q. omega (arith, q, big))) (ap (objects_from k.number 0) R.1.1) in
      ap (map (λ (k : Chunk). k.units)) (one_spare h.chunks i R.0 spare (λ j lt s. same_Some i j (sym e ∙ spare_is j lt s)))
      ∙ (ap (λ u. u ∷ []) (let u : k.size / 1024 ≡ n = omega (arith, size) in u) ∙ some_units n (omega (arith, big, size)))

  -- A HEAP IS LAID OUT
  large_by : (k : ChunkValue) → (chunk_of k).large ≡ true → k.size ≡ 1024 → ⊥
  large_by k e q = false≢true (sym (ap (λ n. not (n == 1024)) q) ∙ e)

  small_by : (k : ChunkValue) → (b : Bool) → (k.size == 1024) ≡ b → not b ≡ false → k.size / 1024 ≡ 1
  small_by k true q h = ap (λ n. n / 1024) (eqb-true k.size 1024 q)
  small_by k false q h = absurd (false≢true (sym h))

  abbrev ks : List ChunkValue
  ks = h.chunks

  apart_from : (o q : Located) → In (objects_of_chunks (chunks_of ks)) o → In (objects_of_chunks (chunks_of ks)) q → (o ≡ q) ⊎ DontOverlap o q
  apart_from o q i j =
      let a = in_chunk (chunks_of ks) o i in
      let b = in_chunk (chunks_of ks) q j in
      let c = content_of ks a.0 a.1 in
      let d = content_of ks b.0 b.1 in
      elim (cases_eq c.0.number d.0.number) [
        | inl e ↦
            apart_here c.0.cells c.0.number 0 o q (subst (λ (z : Chunk). In z.objects o) (sym c.2) a.2)
            (subst (λ (z : ChunkValue). In (chunk_of z).objects q) (sym (same_chunk ks c.0 d.0 F.shaped.apart c.1 d.1 e)) (subst (λ (z : Chunk). In z.objects q) (sym d.2) b.2))
        | inr ne ↦ inr (inl (λ e. ne (ap (λ (z : Chunk). z.number) c.2 ∙ (sym (inside_from ks a.0 o a.1 a.2) ∙ (e ∙ (inside_from ks b.0 q b.1 b.2 ∙ ap (λ (z : Chunk). z.number) (sym d.2)))))))
      ]

  within_from : (k : Chunk) (o : Located) → In (chunks_of ks) k → In k.objects o → o.at.offset + words o ≤ 1024 * k.units
  within_from k o i j =
      let c = content_of ks k i in
      let p = place_there ks c.0 c.1 in
      let E = F.each p.0 p.1 in
      let fits : words_in c.0.cells ≤ c.0.size = subst (λ (z : ChunkValue). words_in z.cells ≤ z.size) p.2 E.within in
      let whole : c.0.size ≡ 1024 * (c.0.size / 1024) = subst (λ (z : ChunkValue). z.size ≡ 1024 * (z.size / 1024)) p.2 E.whole in
      let ends : o.at.offset + words o ≤ 0 + words_in c.0.cells = (between c.0.cells c.0.number 0 o (subst (λ (z : Chunk). In z.objects o) (sym c.2) j)).ends in
      subst (λ (z : Chunk). o.at.offset + words o ≤ 1024 * z.units) c.2 (omega (arith, fits, whole, ends))

  pub laid_from : (n : ℕ) → HasReservedUnits h.chunks h.reserved n → AreLaidOut (chunks_of h.chunks) n
  laid_from n r = record {
    numbers = distinct_from ks F.shaped.apart;
    within = within_from;
    apart = apart_from;
    small = λ k i e. (let c = content_of ks k i in ap (λ (z : Chunk). z.units) (sym c.2) ∙ small_by c.0 (c.0.size == 1024) refl (ap (λ (z : Chunk). z.large) c.2 ∙ e));
    large = λ k i e.
        let c = content_of ks k i in
        let p = place_there ks c.0 c.1 in
        subst HoldsLarge c.2 (subst (λ (z : ChunkValue). HoldsLarge (chunk_of z)) p.2 ((F.each p.0 p.1).large (λ q. large_by c.0 (ap (λ (z : Chunk). z.large) c.2 ∙ e) (ap (λ (z : ChunkValue). z.size) (sym p.2) ∙ q))));
    reserved = reserved_by h.reserved refl F.shaped.reserved n r;
  }
