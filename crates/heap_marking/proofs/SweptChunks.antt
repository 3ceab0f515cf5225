-- What a sweep leaves of chunks, none of which is reserved: their objects, the objects' names, and the units that are
-- released.
use Rattle.heap_marking.proofs.Common.{◌≡◌, ℕ, suc, ◌+◌, ◌*◌, ◌/◌, ◌==◌, ◌++◌, arith, Bool, true, false, cond, not, None, List, [], ◌∷◌, All, filter, length, map, inl, inr, refl, ap, ap₂, sym, subst, ◌∙◌, eqb-true, false≢true, sum_by-append, sum_by-cons, map-append, filter-append, is_empty, in_append_left, in_append_right, Name, MachineState, units_sum, without_empty, words_at, Addr, moved_to, ChunkValue, Located, sifted_are_filtered, units, unit_count, has_address, goes, has_object, stays, swept_chunk, HoldsLarge, words, large_chunks, chunk_names, small_chunks, In, object_name, objects_of_chunks, chunk_of, chunks_of, SameWords}
use Rattle.heap_marking.proofs.SweptCells.{is_there, object_left}

-- a chunk of a heap without a reserved one
pub record IsFilled (k : ChunkValue) : Type 0 where
  pub unmoved : All (λ c. moved_to c.mark ≡ None) k.cells
  pub whole : k.size ≡ 1024 * (k.size / 1024)
  pub large : (k.size == 1024) ≡ false → HoldsLarge (chunk_of k)
  pub some : (k.size == 1024) ≡ false → (chunk_of k).objects ≡ [] → ⊥

abbrev pub AreFilled : List ChunkValue → Type 0
AreFilled ks = (k : ChunkValue) → In ks k → IsFilled k

none_is : (os : List Located) → false ≡ not (is_empty os) → os ≡ []
none_is [] e = refl
none_is (o ∷ os) e = absurd (false≢true e)

module _ (kept : List Addr) where
  -- the chunks that stay, and those that are released
  abbrev pub left : List ChunkValue → List ChunkValue
  left ks = map (swept_chunk kept) (filter (stays kept None) ks)

  abbrev pub gone : List ChunkValue → List ChunkValue
  gone ks = filter (goes kept None) ks

  abbrev pub kept_in : ChunkValue → List Located
  kept_in k = filter (is_there kept) (chunk_of k).objects

  -- whether the chunk stays
  abbrev pub has : ChunkValue → Bool
  has k = has_object (swept_chunk kept k).cells

  pub has_is : (k : ChunkValue) → IsFilled k → has k ≡ not (is_empty (kept_in k))
  has_is k F = object_left kept k.number k.cells 0 F.unmoved

  pub swept_is : (k : ChunkValue) → (chunk_of (swept_chunk kept k)).objects ≡ kept_in k
  swept_is k = sifted_are_filtered (has_address kept) k

  -- OBJECTS
  pub objects_left : (ks : List ChunkValue) → AreFilled ks → objects_of_chunks (chunks_of (left ks)) ≡ filter (is_there kept) (objects_of_chunks (chunks_of ks))
  objects_left [] F = refl
  objects_left (k ∷ ks) F = objects_left_by_cases (has k) refl (objects_left ks (λ j i. F j (inr i))) ∙ sym (filter-append (is_there kept) (chunk_of k).objects (objects_of_chunks (chunks_of ks)))
    where
      objects_left_by_cases : (b : Bool) → has k ≡ b → objects_of_chunks (chunks_of (left ks)) ≡ filter (is_there kept) (objects_of_chunks (chunks_of ks))
          → objects_of_chunks (chunks_of (map (swept_chunk kept) (cond b (k ∷ filter (stays kept None) ks) (filter (stays kept None) ks)))) ≡ kept_in k ++ filter (is_there kept) (objects_of_chunks (chunks_of ks))
      objects_left_by_cases true e go = ap₂ (λ a b. a ++ b) (swept_is k) go
      objects_left_by_cases false e go = go ∙ ap (λ a. a ++ filter (is_there kept) (objects_of_chunks (chunks_of ks))) (sym (none_is (kept_in k) (sym e ∙ has_is k (F k (inl refl)))))

  -- NAMES: if an address is kept by its object's name alone
  module _ (keep : Name → Bool) where
    abbrev pub Agrees : List Located → Type 0
    Agrees os = (o : Located) → In os o → has_address kept o.at ≡ keep (object_name o)

    names_kept : (os : List Located) → Agrees os → map object_name (filter (is_there kept) os) ≡ filter keep (map object_name os)
    names_kept [] A = refl
    names_kept (o ∷ os) A = names_kept_by_cases (keep (object_name o)) (A o (inl refl)) (names_kept os (λ q i. A q (inr i)))
      where
        names_kept_by_cases : (b : Bool) → has_address kept o.at ≡ b → map object_name (filter (is_there kept) os) ≡ filter keep (map object_name os) → map object_name (filter (is_there kept) (o ∷ os)) ≡ cond b (object_name o ∷ filter keep (map object_name os)) (filter keep (map object_name os))
        names_kept_by_cases true e go = ap (λ b. map object_name (cond b (o ∷ filter (is_there kept) os) (filter (is_there kept) os))) e ∙ ap (λ ns. object_name o ∷ ns) go
        names_kept_by_cases false e go = ap (λ b. map object_name (cond b (o ∷ filter (is_there kept) os) (filter (is_there kept) os))) e ∙ go

    empty_is : (os : List Located) → is_empty os ≡ is_empty (map object_name os)
    empty_is [] = refl
    empty_is (o ∷ os) = refl

    abbrev pub names : ChunkValue → List Name
    names k = filter keep (chunk_names (chunk_of k))

    names_are : (k : ChunkValue) → Agrees (chunk_of k).objects → chunk_names (chunk_of (swept_chunk kept k)) ≡ names k
    names_are k A = ap (map object_name) (swept_is k) ∙ names_kept (chunk_of k).objects A

    pub has_names : (k : ChunkValue) → IsFilled k → Agrees (chunk_of k).objects → has k ≡ not (is_empty (names k))
    has_names k F A = has_is k F ∙ (ap not (empty_is (kept_in k)) ∙ ap (λ (ns : List Name). not (is_empty ns)) (names_kept (chunk_of k).objects A))

    no_names : (k : ChunkValue) → IsFilled k → Agrees (chunk_of k).objects → has k ≡ false → names k ≡ []
    no_names k F A e = no_names_by_cases (names k) (sym e ∙ has_names k F A)
      where
        no_names_by_cases : (ns : List Name) → false ≡ not (is_empty ns) → ns ≡ []
        no_names_by_cases [] q = refl
        no_names_by_cases (n ∷ ns) q = absurd (false≢true q)

    first_agrees : (k : ChunkValue) (ks : List ChunkValue) → Agrees (objects_of_chunks (chunks_of (k ∷ ks))) → Agrees (chunk_of k).objects
    first_agrees k ks A o i = A o (in_append_left (chunk_of k).objects (objects_of_chunks (chunks_of ks)) o i)

    behind : (k : ChunkValue) (ks : List ChunkValue) → Agrees (objects_of_chunks (chunks_of (k ∷ ks))) → Agrees (objects_of_chunks (chunks_of ks))
    behind k ks A o i = A o (in_append_right (chunk_of k).objects (objects_of_chunks (chunks_of ks)) o i)

    -- of small objects, chunk by chunk
    abbrev lists : List ChunkValue → List (List Name)
    lists ks = without_empty (map (filter keep) (map chunk_names (small_chunks (chunks_of ks))))

    pub small_left : (ks : List ChunkValue) → AreFilled ks → Agrees (objects_of_chunks (chunks_of ks)) → map chunk_names (small_chunks (chunks_of (left ks))) ≡ without_empty (map (filter keep) (map chunk_names (small_chunks (chunks_of ks))))
    small_left [] F A = refl
    small_left (k ∷ ks) F A = small_left_by_cases (has k) refl (k.size == 1024) refl (small_left ks (λ j i. F j (inr i)) (behind k ks A))
      where
        small_left_by_cases : (b : Bool) → has k ≡ b → (s : Bool) → (k.size == 1024) ≡ s → map chunk_names (small_chunks (chunks_of (left ks))) ≡ lists ks
            → map chunk_names (small_chunks (chunks_of (map (swept_chunk kept) (cond b (k ∷ filter (stays kept None) ks) (filter (stays kept None) ks)))))
            ≡ without_empty (map (filter keep) (map chunk_names (cond (not (not s)) (chunk_of k ∷ small_chunks (chunks_of ks)) (small_chunks (chunks_of ks)))))
        small_left_by_cases true e true q go =
            ap (λ z. map chunk_names (cond (not (not z)) (chunk_of (swept_chunk kept k) ∷ small_chunks (chunks_of (left ks))) (small_chunks (chunks_of (left ks))))) q
            ∙ (ap₂ (λ n ns. n ∷ ns) (names_are k (first_agrees k ks A)) go
            ∙ ap (λ z. cond z (names k ∷ lists ks) (lists ks)) (sym e ∙ has_names k (F k (inl refl)) (first_agrees k ks A)))
        small_left_by_cases true e false q go =
            ap (λ z. map chunk_names (cond (not (not z)) (chunk_of (swept_chunk kept k) ∷ small_chunks (chunks_of (left ks))) (small_chunks (chunks_of (left ks))))) q ∙ go
        small_left_by_cases false e true q go = go ∙ ap (λ z. cond z (names k ∷ lists ks) (lists ks)) (sym e ∙ has_names k (F k (inl refl)) (first_agrees k ks A))
        small_left_by_cases false e false q go = go

    -- and of large ones
    abbrev large : List ChunkValue → List Name
    large ks = map object_name (objects_of_chunks (large_chunks (chunks_of ks)))

    pub large_left : (ks : List ChunkValue) → AreFilled ks → Agrees (objects_of_chunks (chunks_of ks)) → map object_name (objects_of_chunks (large_chunks (chunks_of (left ks)))) ≡ filter keep (map object_name (objects_of_chunks (large_chunks (chunks_of ks))))
    large_left [] F A = refl
    large_left (k ∷ ks) F A = large_left_by_cases (has k) refl (k.size == 1024) refl (large_left ks (λ j i. F j (inr i)) (behind k ks A))
      where
        both : filter keep (map object_name ((chunk_of k).objects ++ objects_of_chunks (large_chunks (chunks_of ks)))) ≡ names k ++ filter keep (large ks)
        both = ap (filter keep) (map-append object_name (chunk_of k).objects (objects_of_chunks (large_chunks (chunks_of ks)))) ∙ filter-append keep (chunk_names (chunk_of k)) (large ks)

        large_left_by_cases : (b : Bool) → has k ≡ b → (s : Bool) → (k.size == 1024) ≡ s → large (left ks) ≡ filter keep (large ks)
            → map object_name (objects_of_chunks (large_chunks (chunks_of (map (swept_chunk kept) (cond b (k ∷ filter (stays kept None) ks) (filter (stays kept None) ks))))))
            ≡ filter keep (map object_name (objects_of_chunks (cond (not s) (chunk_of k ∷ large_chunks (chunks_of ks)) (large_chunks (chunks_of ks)))))
        large_left_by_cases true e true q go =
            ap (λ z. map object_name (objects_of_chunks (cond (not z) (chunk_of (swept_chunk kept k) ∷ large_chunks (chunks_of (left ks))) (large_chunks (chunks_of (left ks)))))) q ∙ go
        large_left_by_cases true e false q go =
            ap (λ z. map object_name (objects_of_chunks (cond (not z) (chunk_of (swept_chunk kept k) ∷ large_chunks (chunks_of (left ks))) (large_chunks (chunks_of (left ks)))))) q
            ∙ (map-append object_name (chunk_of (swept_chunk kept k)).objects (objects_of_chunks (large_chunks (chunks_of (left ks))))
            ∙ (ap₂ (λ a b. a ++ b) (names_are k (first_agrees k ks A)) go ∙ sym both))
        large_left_by_cases false e true q go = go
        large_left_by_cases false e false q go = go ∙ (ap (λ a. a ++ filter keep (large ks)) (sym (no_names k (F k (inl refl)) (first_agrees k ks A) e)) ∙ sym both)

  -- UNITS
  abbrev pub many : List ChunkValue → ℕ
  many ks = length (small_chunks (chunks_of ks))

  abbrev pub large_units : MachineState → List ChunkValue → ℕ
  large_units m ks = units_sum m (map object_name (objects_of_chunks (large_chunks (chunks_of ks))))

  -- this many small chunks are released, and this many units of large ones
  pub record Goes (m : MachineState) (ks : List ChunkValue) : Type 0 where
    pub small : ℕ
    pub large : ℕ
    pub smalls : many ks ≡ many (left ks) + small
    pub larges : large_units m ks ≡ large_units m (left ks) + large
    pub all : unit_count (gone ks) ≡ small + large

  module _ (m : MachineState) where
    abbrev pub KnowWords : List Located → Type 0
    KnowWords os = (o : Located) → In os o → SameWords m o

    abbrev units_of : List Located → ℕ
    units_of os = units_sum m (map object_name os)

    units_both : (os qs : List Located) → units_of (os ++ qs) ≡ units_of os + units_of qs
    units_both os qs = ap (units_sum m) (map-append object_name os qs) ∙ sum_by-append (λ n. units (words_at m n)) (map object_name os) (map object_name qs)

    -- a large chunk has its object's units
    one_large : (k : ChunkValue) → IsFilled k → (k.size == 1024) ≡ false → KnowWords (chunk_of k).objects → (o : Located) × ((chunk_of k).objects ≡ o ∷ []) × (units_of (o ∷ []) ≡ units k.size)
    one_large k F q W = one_large_by_cases (F.large q)
      where
        one_large_by_cases : HoldsLarge (chunk_of k) → (o : Located) × ((chunk_of k).objects ≡ o ∷ []) × (units_of (o ∷ []) ≡ units k.size)
        one_large_by_cases (inl none) = absurd (F.some q none)
        one_large_by_cases (inr (o, only, at, fits)) =
            let w : words_at m (object_name o) ≡ words o = W o (subst (λ os. In os o) (sym only) (inl refl)) in
            let whole : k.size ≡ 1024 * (k.size / 1024) = F.whole in
            let u : units k.size ≡ k.size / 1024 = omega (arith, whole) in (
              o,
              only,
              sum_by-cons (λ n. units (words_at m n)) (object_name o) [] ∙ (let z : units (words_at m (object_name o)) + 0 ≡ units (words_at m (object_name o)) = omega arith in z ∙ (ap units w ∙ (sym fits ∙ sym u))),
            )

    -- one more chunk, by whether it stays and whether it is small
    module _ (k : ChunkValue) (ks : List ChunkValue) (F : IsFilled k) (own : KnowWords (chunk_of k).objects) where
      abbrev ls : Bool → List ChunkValue
      ls b = map (swept_chunk kept) (cond b (k ∷ filter (stays kept None) ks) (filter (stays kept None) ks))

      record Counts (b s : Bool) : Type 0 where
        small : ℕ
        large : ℕ
        smalls : length (cond (not (not s)) (chunk_of k ∷ small_chunks (chunks_of ks)) (small_chunks (chunks_of ks))) ≡ many (ls b) + small
        larges : units_of (objects_of_chunks (cond (not s) (chunk_of k ∷ large_chunks (chunks_of ks)) (large_chunks (chunks_of ks)))) ≡ large_units m (ls b) + large
        all : unit_count (cond (not b) (k ∷ gone ks) (gone ks)) ≡ small + large

      counts : (b : Bool) → has k ≡ b → (s : Bool) → (k.size == 1024) ≡ s → Goes m ks → Counts b s
      counts true e true q G = record {
        small = G.small;
        large = G.large;
        smalls =
            ap suc G.smalls
            ∙ sym (ap (λ z. length (cond (not (not z)) (chunk_of (swept_chunk kept k) ∷ small_chunks (chunks_of (left ks))) (small_chunks (chunks_of (left ks)))) + G.small) q ∙ plus (many (left ks)) G.small);
        larges = G.larges ∙ sym (ap (λ z. units_of (objects_of_chunks (cond (not z) (chunk_of (swept_chunk kept k) ∷ large_chunks (chunks_of (left ks))) (large_chunks (chunks_of (left ks))))) + G.large) q);
        all = G.all;
      }
        where
          plus : (a b : ℕ) → suc a + b ≡ suc (a + b)
          plus a b = omega arith
      counts true e false q G =
          let o = one_large k F q own in
          let stays : (chunk_of (swept_chunk kept k)).objects ≡ (chunk_of k).objects = swept_is k ∙ (ap (filter (is_there kept)) o.1 ∙ (whole_by o.0 (sym e ∙ (has_is k F ∙ ap (λ (os : List Located). not (is_empty (filter (is_there kept) os))) o.1)) ∙ sym o.1)) in record {
            small = G.small;
            large = G.large;
            smalls = G.smalls ∙ sym (ap (λ z. length (cond (not (not z)) (chunk_of (swept_chunk kept k) ∷ small_chunks (chunks_of (left ks))) (small_chunks (chunks_of (left ks)))) + G.small) q);
            larges =
                units_both (chunk_of k).objects (objects_of_chunks (large_chunks (chunks_of ks)))
                ∙ (grown (units_of (chunk_of k).objects) (units_of (objects_of_chunks (large_chunks (chunks_of ks)))) (units_of (objects_of_chunks (large_chunks (chunks_of (left ks))))) G.large G.larges
                ∙ (ap (λ n. n + G.large) (ap (λ os. units_of os + units_of (objects_of_chunks (large_chunks (chunks_of (left ks))))) (sym stays) ∙ sym (units_both (chunk_of (swept_chunk kept k)).objects (objects_of_chunks (large_chunks (chunks_of (left ks))))))
                ∙ sym (ap (λ z. units_of (objects_of_chunks (cond (not z) (chunk_of (swept_chunk kept k) ∷ large_chunks (chunks_of (left ks))) (large_chunks (chunks_of (left ks))))) + G.large) q)));
            all = G.all;
          }
        where
          whole_by : (o : Located) → true ≡ not (is_empty (filter (is_there kept) (o ∷ []))) → filter (is_there kept) (o ∷ []) ≡ o ∷ []
          whole_by o h = one (is_there kept o) h
            where
              one : (b : Bool) → true ≡ not (is_empty (cond b (o ∷ []) [])) → cond b (o ∷ []) [] ≡ o ∷ []
              one true h = refl
              one false h = absurd (false≢true (sym h))

          grown : (a b c d : ℕ) → b ≡ c + d → a + b ≡ a + c + d
          grown a b c d e = omega (arith, e)
      counts false e true q G =
          let one : units k.size ≡ 1 = ap units (eqb-true k.size 1024 q) in record {
            small = suc G.small;
            large = G.large;
            smalls = ap suc G.smalls ∙ plus (many (left ks)) G.small;
            larges = G.larges;
            all = let a = G.all in omega (arith, a, one);
          }
        where
          plus : (a b : ℕ) → suc (a + b) ≡ a + suc b
          plus a b = omega arith
      counts false e false q G =
          let o = one_large k F q own in
          let u : units_of (chunk_of k).objects ≡ units k.size = ap units_of o.1 ∙ o.2 in
          let both = units_both (chunk_of k).objects (objects_of_chunks (large_chunks (chunks_of ks))) in
          record {
            small = G.small;
            large = units k.size + G.large;
            smalls = G.smalls;
            larges = both ∙ grown (units_of (chunk_of k).objects) (units k.size) (units_of (objects_of_chunks (large_chunks (chunks_of ks)))) (large_units m (left ks)) G.large u G.larges;
            all = let a = G.all in omega (arith, a);
          }
        where
          grown : (a u b c d : ℕ) → a ≡ u → b ≡ c + d → a + b ≡ c + (u + d)
          grown a u b c d e f = omega (arith, e, f)

    pub units_gone : (ks : List ChunkValue) → AreFilled ks → KnowWords (objects_of_chunks (chunks_of ks)) → Goes m ks
    units_gone [] F W = record { small = 0; large = 0; smalls = refl; larges = refl; all = refl }
    units_gone (k ∷ ks) F W =
        units_gone_by_cases (has k) refl (k.size == 1024) refl
        (units_gone ks (λ j i. F j (inr i)) (λ o i. W o (in_append_right (chunk_of k).objects (objects_of_chunks (chunks_of ks)) o i)))
      where
        own : KnowWords (chunk_of k).objects
        own o i = W o (in_append_left (chunk_of k).objects (objects_of_chunks (chunks_of ks)) o i)

        units_gone_by_cases : (b : Bool) → has k ≡ b → (s : Bool) → (k.size == 1024) ≡ s → Goes m ks → Goes m (k ∷ ks)
        units_gone_by_cases b e s q G =
            let C = counts k ks (F k (inl refl)) own b e s q G in record {
              small = C.small;
              large = C.large;
              smalls = ap (λ z. length (cond (not (not z)) (chunk_of k ∷ small_chunks (chunks_of ks)) (small_chunks (chunks_of ks)))) q ∙ (C.smalls ∙ ap (λ z. many (ls k ks (F k (inl refl)) own z) + C.small) (sym e));
              larges = ap (λ z. units_of (objects_of_chunks (cond (not z) (chunk_of k ∷ large_chunks (chunks_of ks)) (large_chunks (chunks_of ks))))) q ∙ (C.larges ∙ ap (λ z. large_units m (ls k ks (F k (inl refl)) own z) + C.large) (sym e));
              all = ap (λ z. unit_count (cond (not z) (k ∷ gone ks) (gone ks))) e ∙ C.all;
            }
