-- The heap of a task that took over its children's has the form of a heap.
use Rattle.fork_join_commit.proofs.Common.{◌≡◌, ◌⊎◌, ℕ, ◌+◌, ◌-◌, ◌*◌, ◌/◌, ◌<◌, ◌≤◌, ◌^◌, ◌++◌, arith, Option, Some, None, List, [], length, length-append, option_map, inl, inr, refl, ap, sym, subst, ◌∙◌, cases_lt, get_or_append_left, get_or-append-add, All-append, in_append_cases, in_map, map_in, none_some, HaveDistinctNumbers, chunk_at, no_chunk, ChunkValue, words_in, Located, LeafHeapValue, IsCurrent, IsReserved, IsTidy, saturating_words, merged, with_places, behind, Chunk, In, objects_of_chunks, in_chunk, in_objects, HasReservedUnits, IsLastLarge, IsLastSmall, chunk_of, chunks_of, HeapForm}

-- the content that an object lies in
pub object_content : (ks : List ChunkValue) (o : Located) → In (objects_of_chunks (chunks_of ks)) o → (c : ChunkValue) × In ks c × In (chunk_of c).objects o
object_content ks o i =
    let k = in_chunk (chunks_of ks) o i in
    let c = map_in chunk_of ks k.0 k.1 in
    (c.0, c.1, subst (λ (z : Chunk). In z.objects o) (sym c.2) k.2)

pub content_object : (ks : List ChunkValue) (c : ChunkValue) (o : Located) → In ks c → In (chunk_of c).objects o → In (objects_of_chunks (chunks_of ks)) o
content_object ks c o i j = in_objects (chunks_of ks) (chunk_of c) o (in_map chunk_of ks c i) j

module _ (ls rs ks : List ChunkValue) where
  abbrev pub merged_chunks : List ChunkValue
  merged_chunks = ls ++ (rs ++ ks)

  abbrev n : ℕ
  n = length ls + length rs

  long : length merged_chunks ≡ length ls + (length rs + length ks)
  long = length-append ls (rs ++ ks) ∙ ap (λ m. length ls + m) (length-append rs ks)

  at_left : (i : ℕ) → i < length ls → chunk_at merged_chunks i ≡ chunk_at ls i
  at_left i lt = get_or_append_left ls (rs ++ ks) no_chunk i lt

  at_right : (i : ℕ) → i < length rs → chunk_at merged_chunks (length ls + i) ≡ chunk_at rs i
  at_right i lt = get_or-append-add ls (rs ++ ks) i no_chunk ∙ get_or_append_left rs ks no_chunk i lt

  -- an own chunk after a position
  own_behind : (i j : ℕ) → i + n < j → (j - n) + n ≡ j
  own_behind i j lt = omega (arith, lt)

  current : (o : Option ℕ) → IsCurrent ks o → IsCurrent merged_chunks (option_map (λ i. i + n) o)
  current None C = tt
  current (Some i) C = (omega (arith, C.0, long), ap (λ (z : ChunkValue). z.size) (behind ls rs ks i) ∙ C.1)

  reserved : (o : Option ℕ) → IsReserved ks o → IsReserved merged_chunks (option_map (λ i. i + n) o)
  reserved None R = tt
  reserved (Some i) R = (omega (arith, R.0, long), (subst (λ (z : ChunkValue). 1024 < z.size) (sym (behind ls rs ks i)) R.1.0, ap (λ (z : ChunkValue). z.cells) (behind ls rs ks i) ∙ R.1.1))

  last_small : (o : Option ℕ) → IsLastSmall ks o → IsLastSmall merged_chunks (option_map (λ i. i + n) o)
  last_small None C = tt
  last_small (Some i) C = λ j lt within small.
      let e : (j - n) + n ≡ j = own_behind i j lt in
      C (j - n) (omega (arith, lt)) (omega (arith, within, long, lt)) (ap (λ (z : ChunkValue). z.size) (sym (behind ls rs ks (j - n)) ∙ ap (chunk_at merged_chunks) e) ∙ small)

  last_large : (o : Option ℕ) → IsLastLarge ks o → IsLastLarge merged_chunks (option_map (λ i. i + n) o)
  last_large None C = tt
  last_large (Some i) C = λ j lt within.
      let e : (j - n) + n ≡ j = own_behind i j lt in
      ap (λ (z : ChunkValue). z.size) (ap (chunk_at merged_chunks) (sym e) ∙ behind ls rs ks (j - n)) ∙ C (j - n) (omega (arith, lt)) (omega (arith, within, long, lt))

  content_cases : (c : ChunkValue) → In merged_chunks c → In ls c ⊎ (In rs c ⊎ In ks c)
  content_cases c i = elim (in_append_cases ls (rs ++ ks) c i) [ inl a ↦ inl a | inr b ↦ inr (in_append_cases rs ks c b) ]

module _ (h a b : LeafHeapValue) (H : HeapForm h) (A : HeapForm a) (B : HeapForm b) (apart : HaveDistinctNumbers (merged h a b).chunks) (none_left : a.reserved ≡ None) (none_right : b.reserved ≡ None) (slots spare : ℕ) where
  abbrev ls : List ChunkValue
  ls = a.chunks

  abbrev rs : List ChunkValue
  rs = b.chunks

  abbrev ks : List ChunkValue
  ks = h.chunks

  abbrev all : List ChunkValue
  all = merged_chunks ls rs ks

  abbrev m : ℕ
  m = length ls + length rs

  near_by : (o : Located) → In (objects_of_chunks (chunks_of all)) o → o.at.offset < 1024
  near_by o i =
      let c = object_content all o i in
      elim (content_cases ls rs ks c.0 c.1) [
        | inl j ↦ A.near o (content_object ls c.0 o j c.2)
        | inr r ↦ elim r [ inl j ↦ B.near o (content_object rs c.0 o j c.2) | inr j ↦ H.near o (content_object ks c.0 o j c.2) ]
      ]

  whole_by : (k : ChunkValue) → In all k → k.size ≡ 1024 * (k.size / 1024)
  whole_by k i = elim (content_cases ls rs ks k i) [
    | inl j ↦ A.whole k j
    | inr r ↦ elim r [ inl j ↦ B.whole k j | inr j ↦ H.whole k j ]
  ]

  abbrev IsEmptyLarge : ChunkValue → Type 0
  IsEmptyLarge k = (k.size ≡ 1024 → ⊥) × ((chunk_of k).objects ≡ [])

  spare_by : (i : ℕ) → i < length all → IsEmptyLarge (chunk_at all i) → option_map (λ j. j + m) h.reserved ≡ Some i
  spare_by i lt E = elim (cases_lt i (length ls)) [
    | inl left ↦ let x = subst IsEmptyLarge (at_left ls rs ks i left) E in none_some (sym none_left ∙ A.spare i left x.0 x.1)
    | inr le ↦ elim (cases_lt i m) [
      | inl right ↦
          let e : length ls + (i - length ls) ≡ i = omega (arith, le) in
          let lt' : i - length ls < length rs = omega (arith, le, right) in
          let x = subst IsEmptyLarge (ap (chunk_at all) (sym e) ∙ at_right ls rs ks (i - length ls) lt') E in
          none_some (sym none_right ∙ B.spare (i - length ls) lt' x.0 x.1)
      | inr more ↦
          let e : (i - m) + m ≡ i = omega (arith, more) in
          let x = subst IsEmptyLarge (ap (chunk_at all) (sym e) ∙ behind ls rs ks (i - m)) E in
          ap (option_map (λ j. j + m)) (H.spare (i - m) (omega (arith, lt, more, long ls rs ks)) x.0 x.1) ∙ ap Some e
    ]
  ]

  since_small : saturating_words (h.since + (a.since + b.since)) < 2 ^ 64
  since_small = omega arith

  pub merged_form : HeapForm (with_places (merged h a b) slots spare)
  merged_form = record {
    shaped = record { apart = apart; current = current ls rs ks h.current H.shaped.current; reserved = reserved ls rs ks h.reserved H.shaped.reserved };
    near = near_by;
    tidy = All-append IsTidy ls (rs ++ ks) A.tidy (All-append IsTidy rs ks B.tidy H.tidy);
    within = All-append (λ k. words_in k.cells ≤ k.size) ls (rs ++ ks) A.within (All-append (λ k. words_in k.cells ≤ k.size) rs ks B.within H.within);
    last = last_small ls rs ks h.current H.last;
    last_large = last_large ls rs ks h.reserved H.last_large;
    since = since_small;
    whole = whole_by;
    spare = λ i lt large none. spare_by i lt (large, none);
  }

-- a heap for which no chunk is reserved
pub none_reserved : (h : LeafHeapValue) → IsReserved h.chunks h.reserved → HasReservedUnits h.chunks h.reserved 0 → h.reserved ≡ None
none_reserved h R C = none_reserved_by_cases h.reserved refl
  where
    none_reserved_by_cases : (o : Option ℕ) → h.reserved ≡ o → h.reserved ≡ None
    none_reserved_by_cases None e = e
    none_reserved_by_cases (Some i) e =
        let r = subst (IsReserved h.chunks) e R in
        let s : (chunk_at h.chunks i).size ≡ 1024 * 0 = subst (λ o. HasReservedUnits h.chunks o 0) e C in
        absurd (omega (arith, r.1.0, s))
