-- The numbers of chunks, each once.
use Rattle.address_laws.proofs.Common.{◌≡◌, ℕ, zero, suc, ◌<◌, Bool, true, false, cond, List, [], ◌∷◌, ◌++◌, length, map, filter, refl, sym, ap, ◌∙◌, subst, arith, inl, inr, All, remove, reverse, reverse-append, All-head, All-tail, ChunkValue, number_of, chunk_at, HaveDistinctNumbers, IsFresh, fresh_cons, fresh_head, fresh_tail, In, in_append_left, in_append_right, in_append_cases, HaveSameShape}

abbrev pub numbers : List ChunkValue → List ℕ
numbers ks = map number_of ks

abbrev pub Distinct : List ℕ → Type 0
Distinct [] = Unit {0}
Distinct (n ∷ ns) = (In ns n → ⊥) × Distinct ns

-- ---- fresh numbers

pub fresh_none : (ks : List ChunkValue) (n : ℕ) → IsFresh ks n → In (numbers ks) n → ⊥
fresh_none [] n f i = i
fresh_none (k ∷ ks) n f (inl e) = fresh_head k ks n f e
fresh_none (k ∷ ks) n f (inr i) = fresh_none ks n (fresh_tail k ks n f) i

pub fresh_from : (ks : List ChunkValue) (n : ℕ) → (In (numbers ks) n → ⊥) → IsFresh ks n
fresh_from [] n f = refl
fresh_from (k ∷ ks) n f = fresh_cons k ks n (λ e. f (inl e)) (fresh_from ks n (λ i. f (inr i)))

pub apart_distinct : (ks : List ChunkValue) → HaveDistinctNumbers ks → Distinct (numbers ks)
apart_distinct [] a = tt
apart_distinct (k ∷ ks) a = (fresh_none ks k.number a.0, apart_distinct ks a.1)

pub distinct_apart : (ks : List ChunkValue) → Distinct (numbers ks) → HaveDistinctNumbers ks
distinct_apart [] d = tt
distinct_apart (k ∷ ks) d = (fresh_from ks k.number d.0, distinct_apart ks d.1)

-- ---- lists together

pub numbers_append : (ks ls : List ChunkValue) → numbers (ks ++ ls) ≡ numbers ks ++ numbers ls
numbers_append [] ls = refl
numbers_append (k ∷ ks) ls = ap (λ (ns : List ℕ). k.number ∷ ns) (numbers_append ks ls)

pub distinct_append : (xs ys : List ℕ) → Distinct xs → Distinct ys → ((n : ℕ) → In xs n → In ys n → ⊥) → Distinct (xs ++ ys)
distinct_append [] ys d e f = e
distinct_append (x ∷ xs) ys d e f = (
  (λ i. elim (in_append_cases xs ys x i) [ inl j ↦ d.0 j | inr j ↦ f x (inl refl) j ]),
  distinct_append xs ys d.1 e (λ n i j. f n (inr i) j),
)

pub distinct_left : (xs ys : List ℕ) → Distinct (xs ++ ys) → Distinct xs
distinct_left [] ys d = tt
distinct_left (x ∷ xs) ys d = ((λ i. d.0 (in_append_left xs ys x i)), distinct_left xs ys d.1)

pub distinct_right : (xs ys : List ℕ) → Distinct (xs ++ ys) → Distinct ys
distinct_right [] ys d = d
distinct_right (x ∷ xs) ys d = distinct_right xs ys d.1

pub distinct_apart_parts : (xs ys : List ℕ) → Distinct (xs ++ ys) → (n : ℕ) → In xs n → In ys n → ⊥
distinct_apart_parts [] ys d n i j = i
distinct_apart_parts (x ∷ xs) ys d n (inl e) j = d.0 (in_append_right xs ys x (subst (In ys) (sym e) j))
distinct_apart_parts (x ∷ xs) ys d n (inr i) j = distinct_apart_parts xs ys d.1 n i j

fresh_in : (h ks : List ChunkValue) (n : ℕ) → All (λ k. IsFresh h k.number) ks → In (numbers ks) n → IsFresh h n
fresh_in h [] n a i = absurd i
fresh_in h (k ∷ ks) n a (inl e) = subst (IsFresh h) e (All-head (λ x. IsFresh h x.number) k ks a)
fresh_in h (k ∷ ks) n a (inr i) = fresh_in h ks n (All-tail (λ x. IsFresh h x.number) k ks a) i

-- chunks with fresh numbers and the others have distinct numbers
pub apart_append : (h ks : List ChunkValue) → HaveDistinctNumbers h → HaveDistinctNumbers ks → All (λ k. IsFresh h k.number) ks → HaveDistinctNumbers (h ++ ks)
apart_append h ks a b fresh =
    distinct_apart (h ++ ks)
    (subst Distinct (sym (numbers_append h ks))
    (distinct_append (numbers h) (numbers ks) (apart_distinct h a) (apart_distinct ks b) (λ n i j. fresh_none h n (fresh_in h ks n fresh j) i)))

-- ---- some of the chunks

in_step : (p : ChunkValue → Bool) (k : ChunkValue) (ks : List ChunkValue) (n : ℕ) → (In (numbers (filter p ks)) n → In (numbers ks) n) → (b : Bool) → In (numbers (cond b (k ∷ filter p ks) (filter p ks))) n → In (numbers (k ∷ ks)) n
in_step p k ks n rest true (inl e) = inl e
in_step p k ks n rest true (inr i) = inr (rest i)
in_step p k ks n rest false i = inr (rest i)

pub in_filtered : (p : ChunkValue → Bool) (ks : List ChunkValue) (n : ℕ) → In (numbers (filter p ks)) n → In (numbers ks) n
in_filtered p [] n i = i
in_filtered p (k ∷ ks) n i = in_step p k ks n (in_filtered p ks n) (p k) i

distinct_step : (p : ChunkValue → Bool) (k : ChunkValue) (ks : List ChunkValue) → (In (numbers ks) k.number → ⊥) → Distinct (numbers (filter p ks)) → (b : Bool) → Distinct (numbers (cond b (k ∷ filter p ks) (filter p ks)))
distinct_step p k ks n d true = ((λ i. n (in_filtered p ks k.number i)), d)
distinct_step p k ks n d false = d

pub distinct_filtered : (p : ChunkValue → Bool) (ks : List ChunkValue) → Distinct (numbers ks) → Distinct (numbers (filter p ks))
distinct_filtered p [] d = tt
distinct_filtered p (k ∷ ks) d = distinct_step p k ks d.0 (distinct_filtered p ks d.1) (p k)

pub in_removed : (ks : List ChunkValue) (i n : ℕ) → In (numbers (remove ks i)) n → In (numbers ks) n
in_removed [] zero n j = j
in_removed [] (suc i) n j = j
in_removed (k ∷ ks) zero n j = inr j
in_removed (k ∷ ks) (suc i) n (inl e) = inl e
in_removed (k ∷ ks) (suc i) n (inr j) = inr (in_removed ks i n j)

pub distinct_removed : (ks : List ChunkValue) (i : ℕ) → Distinct (numbers ks) → Distinct (numbers (remove ks i))
distinct_removed [] zero d = tt
distinct_removed [] (suc i) d = tt
distinct_removed (k ∷ ks) zero d = d.1
distinct_removed (k ∷ ks) (suc i) d = ((λ j. d.0 (in_removed ks i k.number j)), distinct_removed ks i d.1)

pub in_at : (ks : List ChunkValue) (i : ℕ) → i < length ks → In (numbers ks) (chunk_at ks i).number
in_at [] i l = absurd (omega arith)
in_at (k ∷ ks) zero l = inl refl
in_at (k ∷ ks) (suc i) l = inr (in_at ks i (omega arith))

pub removed_at : (ks : List ChunkValue) (i : ℕ) → i < length ks → Distinct (numbers ks) → In (numbers (remove ks i)) (chunk_at ks i).number → ⊥
removed_at [] i l d j = absurd (omega arith)
removed_at (k ∷ ks) zero l d j = d.0 j
removed_at (k ∷ ks) (suc i) l d (inl e) = d.0 (subst (In (numbers ks)) (sym e) (in_at ks i (omega arith)))
removed_at (k ∷ ks) (suc i) l d (inr j) = removed_at ks i (omega arith) d.1 j

pub numbers_of_map : (f : ChunkValue → ChunkValue) → ((k : ChunkValue) → (f k).number ≡ k.number) → (ks : List ChunkValue) → numbers (map f ks) ≡ numbers ks
numbers_of_map f e [] = refl
numbers_of_map f e (k ∷ ks) = λ i. e k i ∷ numbers_of_map f e ks i

-- chunks that differ only in their objects have the same numbers
pub alike_numbers : (h g : List ChunkValue) → HaveSameShape h g → numbers g ≡ numbers h
alike_numbers [] [] a = refl
alike_numbers [] (l ∷ ls) a = absurd a
alike_numbers (k ∷ ks) [] a = absurd a
alike_numbers (k ∷ ks) (l ∷ ls) a = λ i. a.0.0 i ∷ alike_numbers ks ls a.1 i

pub alike_length : (h g : List ChunkValue) → HaveSameShape h g → length g ≡ length h
alike_length [] [] a = refl
alike_length [] (l ∷ ls) a = absurd a
alike_length (k ∷ ks) [] a = absurd a
alike_length (k ∷ ks) (l ∷ ls) a = let ih = alike_length ks ls a.1 in omega arith

-- ---- in reverse

pub reverse_first : (k : ChunkValue) (ks : List ChunkValue) → reverse (k ∷ ks) ≡ reverse ks ++ k ∷ []
reverse_first k ks = reverse-append (k ∷ []) ks

pub in_reverse : (ks : List ChunkValue) (n : ℕ) → In (numbers (reverse ks)) n → In (numbers ks) n
in_reverse [] n i = i
in_reverse (k ∷ ks) n i =
    elim (in_append_cases (numbers (reverse ks)) (k.number ∷ []) n (subst (λ (ns : List ℕ). In ns n) (ap numbers (reverse_first k ks) ∙ numbers_append (reverse ks) (k ∷ [])) i)) [
      | inl j ↦ inr (in_reverse ks n j)
      | inr j ↦ elim j [ inl e ↦ inl e | inr z ↦ absurd z ]
    ]

pub distinct_reverse : (ks : List ChunkValue) → Distinct (numbers ks) → Distinct (numbers (reverse ks))
distinct_reverse [] d = tt
distinct_reverse (k ∷ ks) d =
    subst Distinct (sym (ap numbers (reverse_first k ks) ∙ numbers_append (reverse ks) (k ∷ [])))
    (distinct_append (numbers (reverse ks)) (k.number ∷ []) (distinct_reverse ks d.1) ((λ i. i), tt)
    (λ n i j. elim j [ inl e ↦ d.0 (in_reverse ks k.number (subst (In (numbers (reverse ks))) (sym e) i)) | inr z ↦ z ]))
