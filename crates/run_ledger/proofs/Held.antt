-- The names that a heap's account holds after each change.
use Rattle.run_ledger.proofs.Common.{◌≡◌, ℕ, ◌+◌, Bool, true, false, cond, List, [], ◌∷◌, ◌++◌, map, nat_le, ◌-◌, ◌⊎◌, inl, inr, refl, ap, sym, subst, ◌∙◌, append_assoc, append-nil, flat_map, flat_map-append, In, in_append_left, in_append_right, in_append_cases, in_kept, in_from_kept, Name, MachineState, Heap, holds_name, held_in, with_allocation, put_last, is_small_size, merged, chunk_words, words_at, words_sum, collected, lay, laid_onto, by_birth, insert_name, name_le, small_survivors, swept_heap, without_empty, in_snapshot}
use Rattle.run_ledger.proofs.Members.{in_from_holds, holds_from_in}

abbrev flat : List (List Name) → List Name
flat lists = flat_map (λ ns. ns) lists

-- in chunks, or large
held_cases : (h : Heap) (x : Name) → In (held_in h) x → In (flat h.chunks) x ⊎ In h.large x
held_cases h x i = in_append_cases (flat h.chunks) h.large x i

in_chunks : (h : Heap) (x : Name) → In (flat h.chunks) x → In (held_in h) x
in_chunks h x i = in_append_left (flat h.chunks) h.large x i

in_large : (h : Heap) (x : Name) → In h.large x → In (held_in h) x
in_large h x i = in_append_right (flat h.chunks) h.large x i

-- an allocation
put_cases : (lists : List (List Name)) (n x : Name) → In (flat (put_last lists n)) x → In (flat lists) x ⊎ (n ≡ x)
put_cases [] n x (inl e) = inr e
put_cases [] n x (inr i) = inl i
put_cases (ns ∷ []) n x i =
    elim (in_append_cases (ns ++ n ∷ []) [] x i) [
      | inl j ↦ elim (in_append_cases ns (n ∷ []) x j) [ inl k ↦ inl (in_append_left ns [] x k) | inr k ↦ elim k [ inl e ↦ inr e | inr none ↦ absurd none ] ]
      | inr none ↦ absurd none
    ]
put_cases (ns ∷ ms ∷ rest) n x i =
    elim (in_append_cases ns (flat (put_last (ms ∷ rest) n)) x i) [
      | inl j ↦ inl (in_append_left ns (flat (ms ∷ rest)) x j)
      | inr j ↦ elim (put_cases (ms ∷ rest) n x j) [ inl k ↦ inl (in_append_right ns (flat (ms ∷ rest)) x k) | inr e ↦ inr e ]
    ]

put_old : (lists : List (List Name)) (n x : Name) → In (flat lists) x → In (flat (put_last lists n)) x
put_old [] n x i = absurd i
put_old (ns ∷ []) n x i =
    elim (in_append_cases ns [] x i) [ inl j ↦ in_append_left (ns ++ n ∷ []) [] x (in_append_left ns (n ∷ []) x j) | inr none ↦ absurd none ]
put_old (ns ∷ ms ∷ rest) n x i =
    elim (in_append_cases ns (flat (ms ∷ rest)) x i) [
      | inl j ↦ in_append_left ns (flat (put_last (ms ∷ rest) n)) x j
      | inr j ↦ in_append_right ns (flat (put_last (ms ∷ rest) n)) x (put_old (ms ∷ rest) n x j)
    ]

put_new : (lists : List (List Name)) (n : Name) → In (flat (put_last lists n)) n
put_new [] n = inl refl
put_new (ns ∷ []) n = in_append_left (ns ++ n ∷ []) [] n (in_append_right ns (n ∷ []) n (inl refl))
put_new (ns ∷ ms ∷ rest) n = in_append_right ns (flat (put_last (ms ∷ rest) n)) n (put_new (ms ∷ rest) n)

abbrev small_placed : Heap → Name → ℕ → Heap
small_placed h n w = record h { chunks = put_last h.chunks n; room = h.room - w; since = h.since + w }

abbrev large_placed : Heap → Name → ℕ → Heap
large_placed h n w = record h { large = h.large ++ n ∷ []; reserved = 0; since = h.since + w }

placed_cases_by : (h : Heap) (n : Name) (w : ℕ) (x : Name) (b : Bool) → In (held_in (cond b (small_placed h n w) (large_placed h n w))) x → In (held_in h) x ⊎ (n ≡ x)
placed_cases_by h n w x true i = elim (held_cases (small_placed h n w) x i) [
  | inl j ↦ elim (put_cases h.chunks n x j) [ inl k ↦ inl (in_chunks h x k) | inr e ↦ inr e ]
  | inr j ↦ inl (in_large h x j)
]
placed_cases_by h n w x false i = elim (held_cases (large_placed h n w) x i) [
  | inl j ↦ inl (in_chunks h x j)
  | inr j ↦ elim (in_append_cases h.large (n ∷ []) x j) [ inl k ↦ inl (in_large h x k) | inr k ↦ elim k [ inl e ↦ inr e | inr none ↦ absurd none ] ]
]

pub placed_cases : (h : Heap) (n : Name) (w : ℕ) (x : Name) → In (held_in (with_allocation h n w)) x → In (held_in h) x ⊎ (n ≡ x)
placed_cases h n w x i = placed_cases_by h n w x (is_small_size w) i

placed_old_by : (h : Heap) (n : Name) (w : ℕ) (x : Name) (b : Bool) → In (held_in h) x → In (held_in (cond b (small_placed h n w) (large_placed h n w))) x
placed_old_by h n w x true i = elim (held_cases h x i) [ inl j ↦ in_chunks (small_placed h n w) x (put_old h.chunks n x j) | inr j ↦ in_large (small_placed h n w) x j ]
placed_old_by h n w x false i = elim (held_cases h x i) [ inl j ↦ in_chunks (large_placed h n w) x j | inr j ↦ in_large (large_placed h n w) x (in_append_left h.large (n ∷ []) x j) ]

pub placed_old : (h : Heap) (n : Name) (w : ℕ) (x : Name) → In (held_in h) x → In (held_in (with_allocation h n w)) x
placed_old h n w x i = placed_old_by h n w x (is_small_size w) i

placed_new_by : (h : Heap) (n : Name) (w : ℕ) (b : Bool) → In (held_in (cond b (small_placed h n w) (large_placed h n w))) n
placed_new_by h n w true = in_chunks (small_placed h n w) n (put_new h.chunks n)
placed_new_by h n w false = in_large (large_placed h n w) n (in_append_right h.large (n ∷ []) n (inl refl))

pub placed_new : (h : Heap) (n : Name) (w : ℕ) → In (held_in (with_allocation h n w)) n
placed_new h n w = placed_new_by h n w (is_small_size w)

placed_begun_by : (h : Heap) (n : Name) (w : ℕ) (b : Bool) → (cond b (small_placed h n w) (large_placed h n w)).begun ≡ h.begun
placed_begun_by h n w true = refl
placed_begun_by h n w false = refl

pub placed_begun : (h : Heap) (n : Name) (w : ℕ) → (with_allocation h n w).begun ≡ h.begun
placed_begun h n w = placed_begun_by h n w (is_small_size w)

placed_since_by : (h : Heap) (n : Name) (w : ℕ) (b : Bool) → (cond b (small_placed h n w) (large_placed h n w)).since ≡ h.since + w
placed_since_by h n w true = refl
placed_since_by h n w false = refl

-- a heap counts the words that are allocated in it
pub placed_since : (h : Heap) (n : Name) (w : ℕ) → (with_allocation h n w).since ≡ h.since + w
placed_since h n w = placed_since_by h n w (is_small_size w)

-- an empty chunk
pub chunk_down : (h : Heap) (room : ℕ) (x : Name) → In (held_in (record h { chunks = h.chunks ++ [] ∷ []; room = room })) x → In (held_in h) x
chunk_down h room x i = elim (held_cases (record h { chunks = h.chunks ++ [] ∷ []; room = room }) x i) [
  | inl j ↦ in_chunks h x (subst (λ ns. In ns x) (flat_map-append (λ (ns : List Name). ns) h.chunks ([] ∷ []) ∙ append-nil (flat h.chunks)) j)
  | inr j ↦ in_large h x j
]

pub chunk_up : (h : Heap) (room : ℕ) (x : Name) → In (held_in h) x → In (held_in (record h { chunks = h.chunks ++ [] ∷ []; room = room })) x
chunk_up h room x i = elim (held_cases h x i) [
  | inl j ↦ in_chunks (record h { chunks = h.chunks ++ [] ∷ []; room = room }) x (subst (λ ns. In ns x) (sym (flat_map-append (λ (ns : List Name). ns) h.chunks ([] ∷ []) ∙ append-nil (flat h.chunks))) j)
  | inr j ↦ in_large (record h { chunks = h.chunks ++ [] ∷ []; room = room }) x j
]

-- the new lists of a collection hold exactly what is laid into them
lay_flat_by : (ns : List Name) (n : Name) (b : Bool) → flat (cond b ((ns ++ n ∷ []) ∷ []) (ns ∷ (n ∷ []) ∷ [])) ≡ ns ++ n ∷ []
lay_flat_by ns n true = append-nil (ns ++ n ∷ [])
lay_flat_by ns n false = refl

lay_flat : (m : MachineState) (lists : List (List Name)) (n : Name) → flat (lay m lists n) ≡ flat lists ++ n ∷ []
lay_flat m [] n = refl
lay_flat m (ns ∷ []) n = lay_flat_by ns n (nat_le (words_sum m ns + words_at m n) chunk_words) ∙ ap (λ w. w ++ n ∷ []) (sym (append-nil ns))
lay_flat m (ns ∷ ms ∷ rest) n = ap (λ w. ns ++ w) (lay_flat m (ms ∷ rest) n) ∙ sym (append_assoc ns (flat (ms ∷ rest)) (n ∷ []))

laid_onto_flat : (m : MachineState) (ns : List Name) (lists : List (List Name)) → flat (laid_onto m lists ns) ≡ flat lists ++ ns
laid_onto_flat m [] lists = sym (append-nil (flat lists))
laid_onto_flat m (n ∷ ns) lists = laid_onto_flat m ns (lay m lists n) ∙ (ap (λ w. w ++ ns) (lay_flat m lists n) ∙ append_assoc (flat lists) (n ∷ []) ns)

pub laid_flat : (m : MachineState) (ns : List Name) → flat (laid_onto m [] ns) ≡ ns
laid_flat m ns = laid_onto_flat m ns []

insert_by : (n m : Name) (ms : List Name) (x : Name) → (In (insert_name n ms) x → (n ≡ x) ⊎ In ms x) → (b : Bool) → In (cond b (n ∷ m ∷ ms) (m ∷ insert_name n ms)) x → (n ≡ x) ⊎ In (m ∷ ms) x
insert_by n m ms x rest true (inl e) = inl e
insert_by n m ms x rest true (inr i) = inr i
insert_by n m ms x rest false (inl e) = inr (inl e)
insert_by n m ms x rest false (inr i) = elim (rest i) [ inl e ↦ inl e | inr j ↦ inr (inr j) ]

pub insert_cases : (n : Name) (ms : List Name) (x : Name) → In (insert_name n ms) x → (n ≡ x) ⊎ In ms x
insert_cases n [] x (inl e) = inl e
insert_cases n [] x (inr i) = inr i
insert_cases n (m ∷ ms) x i = insert_by n m ms x (insert_cases n ms x) (name_le n m) i

into_by : (n m : Name) (ms : List Name) (x : Name) → ((n ≡ x) ⊎ In ms x → In (insert_name n ms) x) → (b : Bool) → (n ≡ x) ⊎ In (m ∷ ms) x → In (cond b (n ∷ m ∷ ms) (m ∷ insert_name n ms)) x
into_by n m ms x rest true (inl e) = inl e
into_by n m ms x rest true (inr i) = inr i
into_by n m ms x rest false (inl e) = inr (rest (inl e))
into_by n m ms x rest false (inr i) = elim i [ inl e ↦ inl e | inr j ↦ inr (rest (inr j)) ]

pub in_insert : (n : Name) (ms : List Name) (x : Name) → (n ≡ x) ⊎ In ms x → In (insert_name n ms) x
in_insert n [] x (inl e) = inl e
in_insert n [] x (inr i) = absurd i
in_insert n (m ∷ ms) x i = into_by n m ms x (in_insert n ms x) (name_le n m) i

pub birth_cases : (ns : List Name) (x : Name) → In (by_birth ns) x → In ns x
birth_cases [] x i = i
birth_cases (n ∷ ns) x i = elim (insert_cases n (by_birth ns) x i) [ inl e ↦ inl e | inr j ↦ inr (birth_cases ns x j) ]

pub in_birth : (ns : List Name) (x : Name) → In ns x → In (by_birth ns) x
in_birth [] x i = i
in_birth (n ∷ ns) x (inl e) = in_insert n (by_birth ns) x (inl e)
in_birth (n ∷ ns) x (inr i) = in_insert n (by_birth ns) x (inr (in_birth ns x i))

-- a leaf collection keeps the survivors
pub collected_down : (m : MachineState) (h : Heap) (x : Name) → In (held_in (collected m h)) x → In (held_in h) x × In h.survivors x
collected_down m h x i =
    elim (held_cases (collected m h) x i) [
      | inl j ↦
          let r = in_from_kept (holds_name h.survivors) (flat h.chunks) x (birth_cases _ x (subst (λ ns. In ns x) (laid_flat m (small_survivors h)) j)) in
          (in_chunks h x r.0, in_from_holds h.survivors x r.1)
      | inr j ↦ let r = in_from_kept (holds_name h.survivors) h.large x j in (in_large h x r.0, in_from_holds h.survivors x r.1)
    ]

pub collected_up : (m : MachineState) (h : Heap) (x : Name) → In (held_in h) x → In h.survivors x → In (held_in (collected m h)) x
collected_up m h x i s =
    elim (held_cases h x i) [
      | inl j ↦ in_chunks (collected m h) x (subst (λ ns. In ns x) (sym (laid_flat m (small_survivors h))) (in_birth _ x (in_kept (holds_name h.survivors) (flat h.chunks) x j (holds_from_in h.survivors x s))))
      | inr j ↦ in_large (collected m h) x (in_kept (holds_name h.survivors) h.large x j (holds_from_in h.survivors x s))
    ]

-- a sweep keeps the snapshot
nonempty_down : (lists : List (List Name)) (x : Name) → In (flat (without_empty lists)) x → In (flat lists) x
nonempty_down [] x i = i
nonempty_down ([] ∷ lists) x i = nonempty_down lists x i
nonempty_down ((n ∷ ns) ∷ lists) x i =
    elim (in_append_cases (n ∷ ns) (flat (without_empty lists)) x i) [
      | inl j ↦ in_append_left (n ∷ ns) (flat lists) x j
      | inr j ↦ in_append_right (n ∷ ns) (flat lists) x (nonempty_down lists x j)
    ]

nonempty_up : (lists : List (List Name)) (x : Name) → In (flat lists) x → In (flat (without_empty lists)) x
nonempty_up [] x i = i
nonempty_up ([] ∷ lists) x i = nonempty_up lists x i
nonempty_up ((n ∷ ns) ∷ lists) x i =
    elim (in_append_cases (n ∷ ns) (flat lists) x i) [
      | inl j ↦ in_append_left (n ∷ ns) (flat (without_empty lists)) x j
      | inr j ↦ in_append_right (n ∷ ns) (flat (without_empty lists)) x (nonempty_up lists x j)
    ]

kept_down : (h : Heap) (lists : List (List Name)) (x : Name) → In (flat (map (in_snapshot h) lists)) x → In (flat lists) x × In h.snapshot x
kept_down h [] x i = absurd i
kept_down h (ns ∷ lists) x i =
    elim (in_append_cases (in_snapshot h ns) (flat (map (in_snapshot h) lists)) x i) [
      | inl j ↦ let r = in_from_kept (holds_name h.snapshot) ns x j in (in_append_left ns (flat lists) x r.0, in_from_holds h.snapshot x r.1)
      | inr j ↦ let r = kept_down h lists x j in (in_append_right ns (flat lists) x r.0, r.1)
    ]

kept_up : (h : Heap) (lists : List (List Name)) (x : Name) → In (flat lists) x → In h.snapshot x → In (flat (map (in_snapshot h) lists)) x
kept_up h [] x i s = i
kept_up h (ns ∷ lists) x i s =
    elim (in_append_cases ns (flat lists) x i) [
      | inl j ↦ in_append_left (in_snapshot h ns) (flat (map (in_snapshot h) lists)) x (in_kept (holds_name h.snapshot) ns x j (holds_from_in h.snapshot x s))
      | inr j ↦ in_append_right (in_snapshot h ns) (flat (map (in_snapshot h) lists)) x (kept_up h lists x j s)
    ]

pub swept_down : (h : Heap) (x : Name) → In (held_in (swept_heap h)) x → In (held_in h) x × In h.snapshot x
swept_down h x i =
    elim (held_cases (swept_heap h) x i) [
      | inl j ↦ let r = kept_down h h.chunks x (nonempty_down (map (in_snapshot h) h.chunks) x j) in (in_chunks h x r.0, r.1)
      | inr j ↦ let r = in_from_kept (holds_name h.snapshot) h.large x j in (in_large h x r.0, in_from_holds h.snapshot x r.1)
    ]

pub swept_up : (h : Heap) (x : Name) → In (held_in h) x → In h.snapshot x → In (held_in (swept_heap h)) x
swept_up h x i s =
    elim (held_cases h x i) [
      | inl j ↦ in_chunks (swept_heap h) x (nonempty_up (map (in_snapshot h) h.chunks) x (kept_up h h.chunks x j s))
      | inr j ↦ in_large (swept_heap h) x (in_kept (holds_name h.snapshot) h.large x j (holds_from_in h.snapshot x s))
    ]

-- a join gives the children's names to the parent
three_cases : (a b c : List Name) (x : Name) → In (a ++ b ++ c) x → In a x ⊎ (In b x ⊎ In c x)
three_cases a b c x i =
    elim (in_append_cases (a ++ b) c x i) [
      | inl j ↦ elim (in_append_cases a b x j) [ inl k ↦ inl k | inr k ↦ inr (inl k) ]
      | inr j ↦ inr (inr j)
    ]

flat_three : (a b c : List (List Name)) → flat (a ++ b ++ c) ≡ flat a ++ flat b ++ flat c
flat_three a b c = flat_map-append (λ (ns : List Name). ns) (a ++ b) c ∙ ap (λ w. w ++ flat c) (flat_map-append (λ (ns : List Name). ns) a b)

pub merged_cases : (p l r : Heap) (x : Name) → In (held_in (merged p l r)) x → In (held_in l) x ⊎ (In (held_in r) x ⊎ In (held_in p) x)
merged_cases p l r x i =
    elim (held_cases (merged p l r) x i) [
      | inl j ↦ elim (three_cases (flat l.chunks) (flat r.chunks) (flat p.chunks) x (subst (λ ns. In ns x) (flat_three l.chunks r.chunks p.chunks) j)) [
        | inl k ↦ inl (in_chunks l x k)
        | inr k ↦ inr (elim k [ inl k' ↦ inl (in_chunks r x k') | inr k' ↦ inr (in_chunks p x k') ])
      ]
      | inr j ↦ elim (three_cases l.large r.large p.large x j) [
        | inl k ↦ inl (in_large l x k)
        | inr k ↦ inr (elim k [ inl k' ↦ inl (in_large r x k') | inr k' ↦ inr (in_large p x k') ])
      ]
    ]

in_three : (a b c : List Name) (x : Name) → In a x ⊎ (In b x ⊎ In c x) → In (a ++ b ++ c) x
in_three a b c x (inl i) = in_append_left (a ++ b) c x (in_append_left a b x i)
in_three a b c x (inr i) = elim i [ inl j ↦ in_append_left (a ++ b) c x (in_append_right a b x j) | inr j ↦ in_append_right (a ++ b) c x j ]

into_chunks : (p l r : Heap) (x : Name) → In (flat l.chunks) x ⊎ (In (flat r.chunks) x ⊎ In (flat p.chunks) x) → In (held_in (merged p l r)) x
into_chunks p l r x i = in_chunks (merged p l r) x (subst (λ ns. In ns x) (sym (flat_three l.chunks r.chunks p.chunks)) (in_three (flat l.chunks) (flat r.chunks) (flat p.chunks) x i))

into_large : (p l r : Heap) (x : Name) → In l.large x ⊎ (In r.large x ⊎ In p.large x) → In (held_in (merged p l r)) x
into_large p l r x i = in_large (merged p l r) x (in_three l.large r.large p.large x i)

pub merged_left : (p l r : Heap) (x : Name) → In (held_in l) x → In (held_in (merged p l r)) x
merged_left p l r x i = elim (held_cases l x i) [ inl j ↦ into_chunks p l r x (inl j) | inr j ↦ into_large p l r x (inl j) ]

pub merged_right : (p l r : Heap) (x : Name) → In (held_in r) x → In (held_in (merged p l r)) x
merged_right p l r x i = elim (held_cases r x i) [ inl j ↦ into_chunks p l r x (inr (inl j)) | inr j ↦ into_large p l r x (inr (inl j)) ]

pub merged_own : (p l r : Heap) (x : Name) → In (held_in p) x → In (held_in (merged p l r)) x
merged_own p l r x i = elim (held_cases p x i) [ inl j ↦ into_chunks p l r x (inr (inr j)) | inr j ↦ into_large p l r x (inr (inr j)) ]
