-- The objects of a chunk, read one after another; and which chunk has a number.
use Rattle.std.proofs.Common.{append_assoc}
use Rattle.heap_reading.proofs.Common.{◌≡◌, ℕ, zero, suc, ◌+◌, ◌<◌, ◌≤◌, ◌==◌, arith, Bool, true, false, cond, Option, Some, None, List, [], ◌∷◌, ◌++◌, All, length, map, take, slice_get, IfSome, Bor, option_copied, inl, inr, refl, ap, sym, subst, ◌∙◌, ◌⊎◌, option_map, map-append, All-append, All-cons, All-nil, All-tail, same_Some, Born, Cell, Hole, IsBorn, IsObject, Moved, moved_to, size_of, chunk_at, place_in, chunk_position, ChunkValue, cells_from, Birth, Located, located, located_by, objects_from, none_there, place_found, state_of, In, ParkedTask, chunk_of, chunks_of, SharedValue, belongings_in, rest_at, belongings_chunks, SeenObject as Shown, is_state_running, IsInWords, in_words, objects_numbered, objects_of, objects_owned}
use Rattle.core_invariant.specs.below.object_layout.{Mark}
use Rattle.core_invariant.specs.below.chunk_pool.{owner_of}

-- ONE MORE ITEM
pub take_next : {A : Type 0} (xs : List A) (k : ℕ) (x : A) → slice_get xs k ≡ Some x → take (k + 1) xs ≡ take k xs ++ x ∷ []
take_next [] k x e = absurd cc
take_next (y ∷ ys) zero x e = ap (λ z. z ∷ []) (same_Some y x e)
take_next (y ∷ ys) (suc k) x e =
    ap (λ n. take n (y ∷ ys)) (let s : suc k + 1 ≡ suc (k + 1) = omega arith in s) ∙ ap (λ zs. y ∷ zs) (take_next ys k x e)

pub map_next : {A B : Type 0} (f : A → B) (xs : List A) (k : ℕ) (x : A) → slice_get xs k ≡ Some x → map f (take (k + 1) xs) ≡ map f (take k xs) ++ f x ∷ []
map_next f xs k x e = ap (map f) (take_next xs k x e) ∙ map-append f (take k xs) (x ∷ [])

pub all_next : {A : Type 0} (P : A → Type 0) (xs : List A) (k : ℕ) (x : A) → slice_get xs k ≡ Some x → P x → All P (take k xs) → All P (take (k + 1) xs)
all_next P xs k x e one all = subst (All P) (sym (take_next xs k x e)) (All-append P (take k xs) (x ∷ []) all (All-cons P x [] one (All-nil P)))

-- MARKS

pub born_from : (m : Mark) → moved_to m ≡ None → IsObject m → IsBorn m
born_from (Born b) e h = h
born_from (Moved to) e h = absurd cc
born_from Hole e h = h

skipped : (number at : ℕ) (c : Cell) (m : Mark) (os : List Located) → moved_to m ≡ None → (IsObject m → ⊥) → located_by number at c m os ≡ os
skipped number at c (Born b) os e off = absurd (off tt)
skipped number at c (Moved to) os e off = refl
skipped number at c Hole os e off = refl

-- A STEP OF THE WALK
module _ (number at next : ℕ) (cells : List Cell) (c : Cell) (rest : cells_from cells at ≡ c ∷ cells_from cells next) (next_is : next ≡ at + size_of c) where
  abbrev objects_before : List Located
  objects_before = objects_from number at (cells_from cells at)

  abbrev objects_after : List Located
  objects_after = objects_from number next (cells_from cells next)

  here_is : objects_before ≡ located_by number at c c.mark objects_after
  here_is = ap (objects_from number at) rest ∙ ap (λ n. located_by number at c c.mark (objects_from number n (cells_from cells next))) (sym next_is)

  pub unmoved_next : All (λ k. moved_to k.mark ≡ None) (cells_from cells at) → All (λ k. moved_to k.mark ≡ None) (cells_from cells next)
  unmoved_next all = All-tail (λ k. moved_to k.mark ≡ None) c (cells_from cells next) (subst (All (λ k. moved_to k.mark ≡ None)) rest all)

  module _ (b : Birth) (born : c.mark ≡ Born b) where
    abbrev one : Located
    one = located number at b c

    born_here : objects_before ≡ one ∷ objects_after
    born_here = here_is ∙ ap (λ m. located_by number at c m objects_after) born

    pub objects_more : (os os' all : List Shown) → os' ≡ os ++ in_words one ∷ [] → os ++ map in_words objects_before ≡ all → os' ++ map in_words objects_after ≡ all
    objects_more os os' all more e =
        ap (λ z. z ++ map in_words objects_after) more
        ∙ (append_assoc os (in_words one ∷ []) (map in_words objects_after)
        ∙ (ap (λ z. os ++ map in_words z) (sym born_here) ∙ e))

    pub words_more : (all : List Located) → IsInWords one → ((o : Located) → In all o → IsInWords o ⊎ In objects_before o) → (o : Located) → In all o → IsInWords o ⊎ In objects_after o
    words_more all words was o i = elim (was o i) [
      | inl w ↦ inl w
      | inr j ↦ elim (subst (λ z. In z o) born_here j) [ inl e ↦ inl (subst IsInWords e words) | inr k ↦ inr k ]
    ]

  module _ (still : moved_to c.mark ≡ None) (off : IsObject c.mark → ⊥) where
    none_here : objects_before ≡ objects_after
    none_here = here_is ∙ skipped number at c c.mark objects_after still off

    pub objects_same : (os all : List Shown) → os ++ map in_words objects_before ≡ all → os ++ map in_words objects_after ≡ all
    objects_same os all e = ap (λ z. os ++ map in_words z) (sym none_here) ∙ e

    pub words_same : (all : List Located) → ((o : Located) → In all o → IsInWords o ⊎ In objects_before o) → (o : Located) → In all o → IsInWords o ⊎ In objects_after o
    words_same all was o i = elim (was o i) [ inl w ↦ inl w | inr j ↦ inr (subst (λ z. In z o) none_here j) ]

-- THE CHUNK OF A NUMBER
numbered_at : (ks : List ChunkValue) (n : ℕ) → chunk_position ks n < length ks → objects_numbered n (chunks_of ks) ≡ (chunk_of (chunk_at ks (chunk_position ks n))).objects
numbered_at [] n lt = absurd (omega arith)
numbered_at (k ∷ ks) n lt = numbered_at_by_cases (k.number == n) lt (numbered_at ks n)
  where
    numbered_at_by_cases : (b : Bool) → cond b 0 (1 + chunk_position ks n) < suc (length ks) → (chunk_position ks n < length ks → objects_numbered n (chunks_of ks) ≡ (chunk_of (chunk_at ks (chunk_position ks n))).objects)
        → cond b (chunk_of k).objects (objects_numbered n (chunks_of ks)) ≡ (chunk_of (chunk_at (k ∷ ks) (cond b 0 (1 + chunk_position ks n)))).objects
    numbered_at_by_cases true lt rest = refl
    numbered_at_by_cases false lt rest = rest (omega arith) ∙ ap (λ z. (chunk_of (chunk_at (k ∷ ks) z)).objects) (let e : suc (chunk_position ks n) ≡ 1 + chunk_position ks n = omega arith in e)

numbered_off : (ks : List ChunkValue) (n : ℕ) → length ks ≤ chunk_position ks n → objects_numbered n (chunks_of ks) ≡ []
numbered_off [] n le = refl
numbered_off (k ∷ ks) n le = numbered_off_by_cases (k.number == n) le (numbered_off ks n)
  where
    numbered_off_by_cases : (b : Bool) → suc (length ks) ≤ cond b 0 (1 + chunk_position ks n) → (length ks ≤ chunk_position ks n → objects_numbered n (chunks_of ks) ≡ []) → cond b (chunk_of k).objects (objects_numbered n (chunks_of ks)) ≡ []
    numbered_off_by_cases true le rest = absurd (omega arith)
    numbered_off_by_cases false le rest = rest (omega arith)

pub numbered_found : (ks : List ChunkValue) (n i : ℕ) → place_in ks n ≡ Some i → objects_numbered n (chunks_of ks) ≡ (chunk_of (chunk_at ks i)).objects
numbered_found ks n i e =
    let p = place_found ks n i e in
    numbered_at ks n (subst (λ z. z < length ks) p.0 p.1) ∙ ap (λ z. (chunk_of (chunk_at ks z)).objects) (sym p.0)

pub numbered_none : (ks : List ChunkValue) (n : ℕ) → place_in ks n ≡ None → objects_numbered n (chunks_of ks) ≡ []
numbered_none ks n e = numbered_off ks n (none_there ks n e)

-- by the heap
pub none_numbered : (ks : List ChunkValue) (n : ℕ) (o : Option (Bor ChunkValue)) → option_copied o ≡ option_map (λ i. chunk_at ks i) (place_in ks n) → o ≡ None → objects_numbered n (chunks_of ks) ≡ []
none_numbered ks n o e none = numbered_none ks n (none_numbered_by_cases (place_in ks n) (sym e ∙ ap option_copied none))
  where
    none_numbered_by_cases : (p : Option ℕ) → option_map (λ i. chunk_at ks i) p ≡ None → p ≡ None
    none_numbered_by_cases None z = refl
    none_numbered_by_cases (Some i) z = absurd cc

pub some_numbered : (ks : List ChunkValue) (n : ℕ) (o : Option (Bor ChunkValue)) → option_copied o ≡ option_map (λ i. chunk_at ks i) (place_in ks n) → IfSome o (λ k. (chunk_of k.now).objects ≡ objects_numbered n (chunks_of ks))
some_numbered ks n None e = tt
some_numbered ks n (Some k) e = some_numbered_by_cases (place_in ks n) refl e
  where
    some_numbered_by_cases : (p : Option ℕ) → place_in ks n ≡ p → Some k.now ≡ option_map (λ i. chunk_at ks i) p → (chunk_of k.now).objects ≡ objects_numbered n (chunks_of ks)
    some_numbered_by_cases None is z = absurd cc
    some_numbered_by_cases (Some i) is z = ap (λ (x : ChunkValue). (chunk_of x).objects) (same_Some k.now (chunk_at ks i) z) ∙ sym (numbered_found ks n i is)

-- of a task that doesn't run
pub resting_objects : (w : SharedValue) (n t : ℕ) (r : ParkedTask) → owner_of w.pool n ≡ Some t → is_state_running (state_of w.tree t) ≡ false → rest_at w.rests t ≡ Some r
    → objects_of w n ≡ objects_numbered n (chunks_of r.heap.chunks)
resting_objects w n t r owned idle there =
    ap (objects_owned w n) owned
    ∙ (ap (λ b. cond b [] (objects_numbered n (belongings_in (rest_at w.rests t)).chunks)) idle
    ∙ (ap (λ o. objects_numbered n (belongings_in o).chunks) there ∙ ap (objects_numbered n) (belongings_chunks r)))
