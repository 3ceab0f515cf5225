-- A heap with one more, empty chunk: the objects that are read, and its account.
use Rattle.leaf_collections.proofs.Common.{◌≡◌, ◌⊎◌, ℕ, zero, suc, ◌-◌, ◌*◌, ◌<◌, ◌≤◌, ◌==◌, arith, Bool, true, false, cond, Option, Some, None, List, [], ◌∷◌, ◌++◌, length, map, All, inl, inr, ne_eqb, refl, ap, sym, subst, ◌∙◌, cases_lt, cond-false, leb-false, length_push, Name, Heap, chunk_words, is_small_size, units, chunk_units, with_chunk, chunk_at, ChunkValue, words_in, Located, objects_from, LeafHeapValue, IsCurrent, IsReserved, added, room_at, with_places, at_push, at_last, Chunk, In, object_name, objects_of_chunks, large_chunks, HasReservedUnits, HeapMatchesAccount, IsLastLarge, IsLastSmall, large_names, names_in, small_lists, HeapIsShaped, chunk_of, chunks_of}

-- ---- LISTS OF CHUNKS

-- each chunk is an old one or the new one
pub in_more : (ks : List ChunkValue) (k : ChunkValue) (c : Chunk) → In (chunks_of (ks ++ k ∷ [])) c → In (chunks_of ks) c ⊎ (chunk_of k ≡ c)
in_more [] k c (inl e) = inr e
in_more [] k c (inr i) = absurd i
in_more (x ∷ xs) k c (inl e) = inl (inl e)
in_more (x ∷ xs) k c (inr i) = elim (in_more xs k c i) [ inl j ↦ inl (inr j) | inr e ↦ inr e ]

module _ (k : ChunkValue) (empty : k.cells ≡ []) where
  pub none_in : (chunk_of k).objects ≡ []
  none_in = ap (objects_from k.number 0) empty

  -- no further object
  pub objects_more : (ks : List ChunkValue) → objects_of_chunks (chunks_of (ks ++ k ∷ [])) ≡ objects_of_chunks (chunks_of ks)
  objects_more [] = ap (λ (os : List Located). os ++ []) none_in
  objects_more (x ∷ xs) = ap (λ (os : List Located). (chunk_of x).objects ++ os) (objects_more xs)

  -- nor a large one's name
  large_by : (b : Bool) (x : Chunk) (ks js : List Chunk) → objects_of_chunks ks ≡ objects_of_chunks js → objects_of_chunks (cond b (x ∷ ks) ks) ≡ objects_of_chunks (cond b (x ∷ js) js)
  large_by true x ks js e = ap (λ (os : List Located). x.objects ++ os) e
  large_by false x ks js e = e

  large_objects : (ks : List ChunkValue) → objects_of_chunks (large_chunks (chunks_of (ks ++ k ∷ []))) ≡ objects_of_chunks (large_chunks (chunks_of ks))
  large_objects [] = large_objects_by_cases (chunk_of k).large
    where
      large_objects_by_cases : (b : Bool) → objects_of_chunks (cond b (chunk_of k ∷ []) []) ≡ []
      large_objects_by_cases true = ap (λ (os : List Located). os ++ []) none_in
      large_objects_by_cases false = refl
  large_objects (x ∷ xs) = large_by (chunk_of x).large (chunk_of x) (large_chunks (chunks_of (xs ++ k ∷ []))) (large_chunks (chunks_of xs)) (large_objects xs)

  pub large_more : (ks : List ChunkValue) → map object_name (objects_of_chunks (large_chunks (chunks_of (ks ++ k ∷ [])))) ≡ map object_name (objects_of_chunks (large_chunks (chunks_of ks)))
  large_more ks = ap (map object_name) (large_objects ks)

  -- one more list of names, or none
  small_by : (b : Bool) (ns : List Name) (xs ys : List (List Name)) → xs ≡ ys ++ [] ∷ [] → cond b (ns ∷ xs) xs ≡ cond b (ns ∷ ys) ys ++ [] ∷ []
  small_by true ns xs ys e = ap (λ zs. ns ∷ zs) e
  small_by false ns xs ys e = e

  small_more : (ks : List ChunkValue) → (k.size == 1024) ≡ true → small_lists (ks ++ k ∷ []) ≡ small_lists ks ++ [] ∷ []
  small_more [] e = ap (λ b. cond b (names_in k.cells ∷ []) []) e ∙ ap (λ cs. names_in cs ∷ []) empty
  small_more (x ∷ xs) e = small_by (x.size == 1024) (names_in x.cells) (small_lists (xs ++ k ∷ [])) (small_lists xs) (small_more xs e)

  same_by : (b : Bool) (ns : List Name) (xs ys : List (List Name)) → xs ≡ ys → cond b (ns ∷ xs) xs ≡ cond b (ns ∷ ys) ys
  same_by b ns xs ys e = ap (λ zs. cond b (ns ∷ zs) zs) e

  small_same : (ks : List ChunkValue) → (k.size == 1024) ≡ false → small_lists (ks ++ k ∷ []) ≡ small_lists ks
  small_same [] e = ap (λ b. cond b (names_in k.cells ∷ []) []) e
  small_same (x ∷ xs) e = same_by (x.size == 1024) (names_in x.cells) (small_lists (xs ++ k ∷ [])) (small_lists xs) (small_same xs e)

  large_names_by : (b : Bool) (ns xs ys : List Name) → xs ≡ ys → cond b xs (ns ++ xs) ≡ cond b ys (ns ++ ys)
  large_names_by b ns xs ys e = ap (λ zs. cond b zs (ns ++ zs)) e

  pub large_same : (ks : List ChunkValue) → large_names (ks ++ k ∷ []) ≡ large_names ks
  large_same [] = large_same_by_cases (k.size == 1024)
    where
      large_same_by_cases : (b : Bool) → cond b [] (names_in k.cells ++ []) ≡ []
      large_same_by_cases true = refl
      large_same_by_cases false = ap (λ cs. names_in cs ++ []) empty
  large_same (x ∷ xs) = large_names_by (x.size == 1024) (names_in x.cells) (large_names (xs ++ k ∷ [])) (large_names xs) (large_same xs)

-- ---- THE ACCOUNT

last_large_same : (ks : List ChunkValue) (k : ChunkValue) (o : Option ℕ) → k.size ≡ 1024 → IsLastLarge ks o → IsLastLarge (ks ++ k ∷ []) o
last_large_same ks k None small l = tt
last_large_same ks k (Some i) small l = λ j lt le. elim (cases_lt j (length ks)) [
  | inl before ↦ ap (λ (z : ChunkValue). z.size) (at_push ks k j before) ∙ l j lt before
  | inr after ↦
      let e : j ≡ length ks = omega (arith, le, after, length_push ks k) in
      ap (λ n. (chunk_at (ks ++ k ∷ []) n).size) e ∙ (ap (λ (z : ChunkValue). z.size) (at_last ks k) ∙ small)
]

pub all_more : (P : ChunkValue → Type 0) (ks : List ChunkValue) (k : ChunkValue) → All P ks → P k → All P (ks ++ k ∷ [])
all_more P [] k a b zero d lt = b
all_more P [] k a b (suc i) d lt = absurd (omega (arith, lt))
all_more P (x ∷ xs) k a b zero d lt = a 0 d (omega arith)
all_more P (x ∷ xs) k a b (suc i) d lt = all_more P xs k (λ j e l. a (suc j) e (omega (arith, l))) b i d (omega (arith, lt))

room_same : (ks : List ChunkValue) (k : ChunkValue) (o : Option ℕ) → IsCurrent ks o → room_at (ks ++ k ∷ []) o ≡ room_at ks o
room_same ks k None c = refl
room_same ks k (Some i) c = ap (λ (z : ChunkValue). z.size - words_in z.cells) (at_push ks k i c.0)

reserved_same : (ks : List ChunkValue) (k : ChunkValue) (o : Option ℕ) (u : ℕ) → IsReserved ks o → HasReservedUnits ks o u → HasReservedUnits (ks ++ k ∷ []) o u
reserved_same ks k None u c r = r
reserved_same ks k (Some i) u c r = ap (λ (z : ChunkValue). z.size) (at_push ks k i c.0) ∙ r

last_same : (ks : List ChunkValue) (k : ChunkValue) (o : Option ℕ) → (k.size ≡ 1024 → ⊥) → IsLastSmall ks o → IsLastSmall (ks ++ k ∷ []) o
last_same ks k None big l = tt
last_same ks k (Some i) big l = λ j lt le size. elim (cases_lt j (length ks)) [
  | inl before ↦ l j lt before (sym (ap (λ (z : ChunkValue). z.size) (at_push ks k j before)) ∙ size)
  | inr after ↦
      let e : j ≡ length ks = omega (arith, le, after, length_push ks k) in
      big (sym (ap (λ (z : ChunkValue). z.size) (at_last ks k)) ∙ (ap (λ n. (chunk_at (ks ++ k ∷ []) n).size) (sym e) ∙ size))
]

-- a small chunk, and a large one
abbrev small_one : ℕ → ChunkValue
small_one number = record { number = number; size = 1024; cells = [] }

abbrev pub chunk_with : ℕ → ℕ → ChunkValue
chunk_with number u = record { number = number; size = 1024 * u; cells = [] }

module _ (h : LeafHeapValue) (l : Heap) (S : HeapIsShaped h) (C : HeapMatchesAccount h l) (number slots spare : ℕ) where
  small_counted : HeapMatchesAccount (with_places (added h (small_one number)) slots spare) (record l { chunks = l.chunks ++ [] ∷ []; room = 1024 })
  small_counted = record {
    chunks = small_more (small_one number) refl h.chunks refl ∙ ap (λ xs. xs ++ [] ∷ []) C.chunks;
    large = large_same (small_one number) refl h.chunks ∙ C.large;
    last = λ j lt le size. omega (arith, lt, le, length_push h.chunks (small_one number));
    last_large = last_large_same h.chunks (small_one number) h.reserved refl C.last_large;
    room = ap (λ (z : ChunkValue). z.size - words_in z.cells) (at_last h.chunks (small_one number));
    since = C.since;
    reserved = reserved_same h.chunks (small_one number) h.reserved l.reserved S.reserved C.reserved;
  }

  module _ (u : ℕ) (large : 2 ≤ u) where
    abbrev k : ChunkValue
    k = chunk_with number u

    abbrev larger : LeafHeapValue
    larger = record h { chunks = h.chunks ++ k ∷ []; reserved = Some (length h.chunks) }

    big : (k.size == 1024) ≡ false
    big = ne_eqb (1024 * u) 1024 (λ e. omega (arith, e, large))

    larger_is : added h k ≡ larger
    larger_is = cond-false (k.size == 1024) (record h { chunks = h.chunks ++ k ∷ []; current = Some (length h.chunks) }) larger big

    large_counted : HeapMatchesAccount (with_places (added h k) slots spare) (record l { reserved = u })
    large_counted = subst (λ (z : LeafHeapValue). HeapMatchesAccount (with_places z slots spare) (record l { reserved = u })) (sym larger_is) (record {
      chunks = small_same k refl h.chunks big ∙ C.chunks;
      large = large_same k refl h.chunks ∙ C.large;
      last = last_same h.chunks k h.current (λ e. omega (arith, e, large)) C.last;
      last_large = λ j lt le. absurd (omega (arith, lt, le, length_push h.chunks k));
      room = room_same h.chunks k h.current S.current ∙ C.room;
      since = C.since;
      reserved = ap (λ (z : ChunkValue). z.size) (at_last h.chunks k);
    })

  -- for the object for which the next step needs it
  pub grown_counted : (words u : ℕ) → u ≡ chunk_units (Some words) → HeapMatchesAccount (with_places (added h (chunk_with number u)) slots spare) (with_chunk (Some words) l)
  grown_counted words u e = grown_counted_by_cases (is_small_size words) refl e
    where
      grown_counted_by_cases : (b : Bool) → is_small_size words ≡ b → u ≡ cond b 1 (units words) → HeapMatchesAccount (with_places (added h (chunk_with number u)) slots spare) (cond b (record l { chunks = l.chunks ++ [] ∷ []; room = chunk_words }) (record l { reserved = chunk_units (Some words) }))
      grown_counted_by_cases true s q = subst (λ n. HeapMatchesAccount (with_places (added h (chunk_with number n)) slots spare) (record l { chunks = l.chunks ++ [] ∷ []; room = chunk_words })) (sym q) small_counted
      grown_counted_by_cases false s q =
          let big_words : chunk_words < words = leb-false words chunk_words s in
          let two : 2 ≤ u = omega (arith, big_words, q) in
          let is : chunk_units (Some words) ≡ u = cond-false (is_small_size words) 1 (units words) s ∙ sym q in
          subst (λ n. HeapMatchesAccount (with_places (added h (chunk_with number u)) slots spare) (record l { reserved = n })) (sym is) (large_counted u two)

-- what a chunk keeps of an account
pub chunk_begun : (words : ℕ) (h : Heap) → (with_chunk (Some words) h).begun ≡ h.begun
chunk_begun words h = chunk_begun_by_cases (is_small_size words)
  where
    chunk_begun_by_cases : (b : Bool) → (cond b (record h { chunks = h.chunks ++ [] ∷ []; room = chunk_words }) (record h { reserved = chunk_units (Some words) })).begun ≡ h.begun
    chunk_begun_by_cases true = refl
    chunk_begun_by_cases false = refl

pub chunk_since : (words : ℕ) (h : Heap) → (with_chunk (Some words) h).since ≡ h.since
chunk_since words h = chunk_since_by_cases (is_small_size words)
  where
    chunk_since_by_cases : (b : Bool) → (cond b (record h { chunks = h.chunks ++ [] ∷ []; room = chunk_words }) (record h { reserved = chunk_units (Some words) })).since ≡ h.since
    chunk_since_by_cases true = refl
    chunk_since_by_cases false = refl

pub chunk_large : (words : ℕ) (h : Heap) → (with_chunk (Some words) h).large ≡ h.large
chunk_large words h = chunk_large_by_cases (is_small_size words)
  where
    chunk_large_by_cases : (b : Bool) → (cond b (record h { chunks = h.chunks ++ [] ∷ []; room = chunk_words }) (record h { reserved = chunk_units (Some words) })).large ≡ h.large
    chunk_large_by_cases true = refl
    chunk_large_by_cases false = refl

pub chunk_held : (words : ℕ) (h : Heap) → (with_chunk (Some words) h).worker ≡ h.worker
chunk_held words h = chunk_held_by_cases (is_small_size words)
  where
    chunk_held_by_cases : (b : Bool) → (cond b (record h { chunks = h.chunks ++ [] ∷ []; room = chunk_words }) (record h { reserved = chunk_units (Some words) })).worker ≡ h.worker
    chunk_held_by_cases true = refl
    chunk_held_by_cases false = refl

pub units_some : (words : ℕ) → 1 ≤ chunk_units (Some words)
units_some words = units_some_by_cases (is_small_size words) refl
  where
    units_some_by_cases : (b : Bool) → is_small_size words ≡ b → 1 ≤ cond b 1 (units words)
    units_some_by_cases true s = omega arith
    units_some_by_cases false s = let q : chunk_words < words = leb-false words chunk_words s in omega (arith, q)
