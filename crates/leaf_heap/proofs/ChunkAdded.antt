-- The invariant of a heap after another chunk is added, and lists of chunks with distinct numbers.
use Rattle.leaf_heap.proofs.Common.{◌≡◌, ℕ, zero, suc, ◌+◌, ◌-◌, ◌^◌, ◌<◌, ◌≤◌, Bool, true, false, List, [], ◌∷◌, ◌++◌, length, get_or, refl, sym, ap, ◌∙◌, subst, arith, ⊎_elim, eqb, length-append, append_assoc, Option, Some, None, take, All-append, All-push, option_or, cond, Result, Ok, Err, IfOk, IsOk, is_some, option_map, cases_Bool, cases_lt, eq-eqb, ne_eqb, lt-ltb, le-ltb, get_or_append_left, get_or-append_right, take_more, Cell, ChunkValue, words_in, chunk_at, object_words_in, held_words, no_chunk, object_count, one_each, place_in, chunk_position, small_part, small_words, PiecesValue, ShowsChunks, CellsFitInChunks, saturating_words, IsCurrent, IsFresh, AgreesWithChunks, IsReserved, HaveDistinctNumbers, none_there, place_there}
use Rattle.leaf_heap.proofs.HeapLemmas.{held_words-append, sum_pushed}

-- ---- a chunk is added

pub place_of-push_there : (ks : List ChunkValue) (k : ChunkValue) (q : ℕ) → chunk_position ks q < length ks → chunk_position (ks ++ k ∷ []) q ≡ chunk_position ks q
place_of-push_there [] k q l = absurd (omega arith)
place_of-push_there (x ∷ xs) k q l =
    ⊎_elim
    (λ (e : eqb x.number q ≡ true). rw e)
    (λ (e : eqb x.number q ≡ false). let m = rw e at l in rw (e, place_of-push_there xs k q (omega arith)))
    (cases_Bool (eqb x.number q))

pub place_of-push_new : (ks : List ChunkValue) (k : ChunkValue) (q : ℕ) → length ks ≤ chunk_position ks q → chunk_position (ks ++ k ∷ []) q ≡ length ks + (cond (eqb k.number q) 0 1)
place_of-push_new [] k q l = cases_of (eqb k.number q)
  where
    cases_of : (b : Bool) → cond b 0 (1 + 0) ≡ 0 + cond b 0 1
    cases_of true = refl
    cases_of false = refl
place_of-push_new (x ∷ xs) k q l =
    ⊎_elim
    (λ (e : eqb x.number q ≡ true). let m = rw e at l in absurd (omega arith))
    (λ (e : eqb x.number q ≡ false). let m = rw e at l in rw (e, place_of-push_new xs k q (omega arith)) (omega arith))
    (cases_Bool (eqb x.number q))

pub place_in-push : (ks : List ChunkValue) (k : ChunkValue) → place_in ks k.number ≡ None → (q : ℕ) →
    place_in (ks ++ k ∷ []) q ≡ cond (eqb k.number q) (Some (length ks)) (place_in ks q)
place_in-push ks k fresh q =
    let len : length (ks ++ k ∷ []) ≡ length ks + 1 = simp length-append (omega arith) in
    ⊎_elim
    (λ (there : chunk_position ks q < length ks).
    let ne : k.number ≡ q → ⊥ = λ e. let n = none_there ks k.number fresh in let m = rw e at n in omega arith in
    rw (ne_eqb k.number q ne, len, place_of-push_there ks k q there, lt-ltb (chunk_position ks q) (length ks + 1) (omega arith), lt-ltb (chunk_position ks q) (length ks) there))
    (λ (gone : length ks ≤ chunk_position ks q).
    ⊎_elim
    (λ (e : eqb k.number q ≡ true).
    let sum : chunk_position (ks ++ k ∷ []) q ≡ length ks + 0 = rw e at (place_of-push_new ks k q gone) in
    let new : chunk_position (ks ++ k ∷ []) q ≡ length ks = omega arith in
    rw (e, len, new, lt-ltb (length ks) (length ks + 1) (omega arith)))
    (λ (e : eqb k.number q ≡ false).
    let new : chunk_position (ks ++ k ∷ []) q ≡ length ks + 1 = rw e at (place_of-push_new ks k q gone) in
    rw (e, len, new, le-ltb (length ks + 1) (length ks + 1) (omega arith), le-ltb (chunk_position ks q) (length ks) gone))
    (cases_Bool (eqb k.number q)))
    (cases_lt (chunk_position ks q) (length ks))

module _ (ks : List ChunkValue) (k : ChunkValue) where
  pub at_push : (i : ℕ) → i < length ks → chunk_at (ks ++ k ∷ []) i ≡ chunk_at ks i
  at_push i l = get_or_append_left ks (k ∷ []) no_chunk i l

  pub at_last : chunk_at (ks ++ k ∷ []) (length ks) ≡ k
  at_last =
      let e : length ks - length ks ≡ 0 = omega arith in
      get_or-append_right ks (k ∷ []) (length ks) (length ks) no_chunk refl (omega arith) ∙ rw e refl

  pub IsCurrent-push : (o : Option ℕ) → IsCurrent ks o → IsCurrent (ks ++ k ∷ []) o
  IsCurrent-push None h = h
  IsCurrent-push (Some i) h = (simp length-append (omega arith), rw (at_push i h.0) h.1)

  pub IsReserved-push : (o : Option ℕ) → IsReserved ks o → IsReserved (ks ++ k ∷ []) o
  IsReserved-push None h = h
  IsReserved-push (Some i) h = (simp length-append (omega arith), rw (at_push i h.0) h.1)

module _ (ks : List ChunkValue) (k : ChunkValue) (empty : k.cells ≡ []) where
  pushed_words : (n : ℕ) → n ≡ saturating_words (held_words ks) → n ≡ saturating_words (held_words (ks ++ k ∷ []))
  pushed_words n e =
      let none : object_words_in k.cells ≡ 0 = ap object_words_in empty in
      let sum : held_words (ks ++ k ∷ []) ≡ held_words ks = held_words-append ks (k ∷ []) ∙ omega arith in
      rw sum e

  within_push : CellsFitInChunks ks → CellsFitInChunks (ks ++ k ∷ [])
  within_push h = All-push (λ (x : ChunkValue). words_in x.cells ≤ x.size) ks k h (subst (λ (cs : List Cell). words_in cs ≤ k.size) (sym empty) (omega arith))

  module _ (pieces : PiecesValue) (filled kept : Option ℕ) (count many part base : ℕ) (place new : ℕ → Option ℕ) (entries : ℕ) (keeps : AgreesWithChunks ks pieces filled kept count many part base place entries) (fresh : IsFresh ks k.number)
      (writes : (q : ℕ) → new q ≡ cond (eqb k.number q) (Some (base - length ks)) (place q)) (left : PiecesValue) (shown : ShowsChunks left (ks ++ k ∷ [])) where
    table_push : (q : ℕ) → new q ≡ option_map (λ j. base - j) (place_in (ks ++ k ∷ []) q)
    table_push q =
        writes q
        ∙ ap (λ (o : Option ℕ). cond (eqb k.number q) (Some (base - length ks)) o) (keeps.table q)
        ∙ (either (eqb k.number q) (length ks) (place_in ks q) ∙ ap (option_map (λ j. base - j)) (sym (place_in-push ks k fresh q)))
      where
        either : (b : Bool) (n : ℕ) (o : Option ℕ) → cond b (Some (base - n)) (option_map (λ j. base - j) o) ≡ option_map (λ j. base - j) (cond b (Some n) o)
        either true n o = refl
        either false n o = refl

    moved_push : base ≤ 2 ^ 63 + length (ks ++ k ∷ [])
    moved_push = let m = keeps.moved in simp length-append (omega arith)

    pub small_added : k.size ≡ 1024 → AgreesWithChunks (ks ++ k ∷ []) left (Some (length ks)) kept count many part base new (entries + 1)
    small_added s = record {
      current = (simp length-append (omega arith), rw (at_last ks k) s);
      reserved = IsReserved-push ks k kept keeps.reserved;
      within = within_push keeps.within;
      words = pushed_words count keeps.words;
      objects = sum_pushed one_each ks k empty many keeps.objects;
      small = sum_pushed small_part ks k empty part keeps.small;
      least = keeps.least;
      moved = moved_push;
      table = table_push;
      each = let e = keeps.each in simp length-append (omega arith);
      shown = shown;
    }

    pub large_added : 1024 < k.size → AgreesWithChunks (ks ++ k ∷ []) left filled (Some (length ks)) count many part base new (entries + 1)
    large_added s = record {
      current = IsCurrent-push ks k filled keeps.current;
      reserved = (simp length-append (omega arith), rw (at_last ks k) (s, empty));
      within = within_push keeps.within;
      words = pushed_words count keeps.words;
      objects = sum_pushed one_each ks k empty many keeps.objects;
      small = sum_pushed small_part ks k empty part keeps.small;
      least = keeps.least;
      moved = moved_push;
      table = table_push;
      each = let e = keeps.each in simp length-append (omega arith);
      shown = shown;
    }

-- a new key adds an entry
pub new_entry : {X E : Type 0} (r : Result (Option X) E) (was : Option X) (m n : ℕ) → IsOk r → IfOk r (λ o. o ≡ was) → IfOk r (λ o. n ≡ m + cond (is_some o) 0 1) → was ≡ None → n ≡ m + 1
new_entry (Ok o) was m n s e l none = let f = e ∙ none in rw f at l
new_entry (Err x) was m n s e l none = cc

-- ---- distinct numbers

none_from : (ks : List ChunkValue) (n : ℕ) → length ks ≤ chunk_position ks n → IsFresh ks n
none_from ks n l = rw (le-ltb (chunk_position ks n) (length ks) l)

pub fresh_cons : (k : ChunkValue) (ks : List ChunkValue) (n : ℕ) → (k.number ≡ n → ⊥) → IsFresh ks n → IsFresh (k ∷ ks) n
fresh_cons k ks n ne h =
    let l = none_there ks n h in
    let p : chunk_position (k ∷ ks) n ≡ 1 + chunk_position ks n = rw (ne_eqb k.number n ne) refl in
    none_from (k ∷ ks) n (omega arith)

pub fresh_head : (k : ChunkValue) (ks : List ChunkValue) (n : ℕ) → IsFresh (k ∷ ks) n → k.number ≡ n → ⊥
fresh_head k ks n h e =
    let l = none_there (k ∷ ks) n h in
    let p : chunk_position (k ∷ ks) n ≡ 0 = rw (eq-eqb k.number n e) refl in
    omega arith

pub fresh_tail : (k : ChunkValue) (ks : List ChunkValue) (n : ℕ) → IsFresh (k ∷ ks) n → IsFresh ks n
fresh_tail k ks n h =
    let l = none_there (k ∷ ks) n h in
    let p : chunk_position (k ∷ ks) n ≡ 1 + chunk_position ks n = rw (ne_eqb k.number n (fresh_head k ks n h)) refl in
    none_from ks n (omega arith)

pub fresh_at : (ks : List ChunkValue) (n : ℕ) → IsFresh ks n → (i : ℕ) (d : ChunkValue) → i < length ks → (get_or ks i d).number ≡ n → ⊥
fresh_at [] n h i d l e = omega arith
fresh_at (k ∷ ks) n h zero d l e = fresh_head k ks n h e
fresh_at (k ∷ ks) n h (suc i) d l e = fresh_at ks n (fresh_tail k ks n h) i d (omega arith) e

-- no chunk in front of one has its number
pub apart_before : (ks : List ChunkValue) → HaveDistinctNumbers ks → (i : ℕ) (d : ChunkValue) → i < length ks → IsFresh (take i ks) (get_or ks i d).number
apart_before [] h i d l = absurd (omega arith)
apart_before (k ∷ ks) h zero d l = refl
apart_before (k ∷ ks) h (suc i) d l =
    fresh_cons k (take i ks) (get_or ks i d).number (λ e. fresh_at ks k.number h.0 i d (omega arith) (sym e)) (apart_before ks h.1 i d (omega arith))

-- ---- lists of chunks

pub counted_more : (a b : ℕ) → saturating_words (saturating_words a + b) ≡ saturating_words (a + b)
counted_more a b = omega arith

pub held_more : (ks : List ChunkValue) (i : ℕ) (k : ChunkValue) → i < length ks → k ≡ get_or ks i k → held_words (take (i + 1) ks) ≡ held_words (take i ks) + object_words_in k.cells
held_more ks i k l read =
    let more = take_more ks i k l in
    rw (more, ← read, held_words-append (take i ks) (k ∷ [])) (omega arith)

-- a chunk in front, or after the others
place_of-front : (xs ks : List ChunkValue) (n : ℕ) → chunk_position xs n < length xs → chunk_position (xs ++ ks) n ≡ chunk_position xs n
place_of-front [] ks n l = absurd (omega arith)
place_of-front (x ∷ xs) ks n l =
    ⊎_elim
    (λ (e : eqb x.number n ≡ true). rw e)
    (λ (e : eqb x.number n ≡ false). let m = rw e at l in rw (e, place_of-front xs ks n (omega arith)))
    (cases_Bool (eqb x.number n))

place_of-behind : (xs ks : List ChunkValue) (n : ℕ) → length xs ≤ chunk_position xs n → chunk_position (xs ++ ks) n ≡ length xs + chunk_position ks n
place_of-behind [] ks n l = omega arith
place_of-behind (x ∷ xs) ks n l =
    ⊎_elim
    (λ (e : eqb x.number n ≡ true). let m = rw e at l in absurd (omega arith))
    (λ (e : eqb x.number n ≡ false). let m = rw e at l in let ih = place_of-behind xs ks n (omega arith) in rw (e, ih) (omega arith))
    (cases_Bool (eqb x.number n))

-- entries stay when chunks are put in front, and the base grows with them
pub table_front : (xs ks : List ChunkValue) (base : ℕ) (place new : ℕ → Option ℕ) → ((q : ℕ) → place q ≡ option_map (λ j. base - j) (place_in ks q)) →
    ((q : ℕ) → new q ≡ option_or (option_map (λ j. base + length xs - j) (place_in xs q)) (place q)) →
    (q : ℕ) → new q ≡ option_map (λ j. base + length xs - j) (place_in (xs ++ ks) q)
table_front xs ks base place new was adds q =
    let len : length (xs ++ ks) ≡ length xs + length ks = simp length-append refl in
    ⊎_elim
    (λ (l : chunk_position xs q < length xs).
    let there : place_in xs q ≡ Some (chunk_position xs q) = place_there xs q l in
    let all : place_in (xs ++ ks) q ≡ Some (chunk_position xs q) = rw (len, place_of-front xs ks q l, lt-ltb (chunk_position xs q) (length xs + length ks) (omega arith)) refl in
    adds q ∙ rw (there, all) refl)
    (λ (l : length xs ≤ chunk_position xs q).
    let none : place_in xs q ≡ None = rw (le-ltb (chunk_position xs q) (length xs) l) refl in
    adds q ∙ (ap (λ (o : Option ℕ). option_or (option_map (λ j. base + length xs - j) o) (place q)) none ∙ (was q ∙
    ⊎_elim
    (λ (m : chunk_position ks q < length ks).
    let there : place_in ks q ≡ Some (chunk_position ks q) = place_there ks q m in
    let all : place_in (xs ++ ks) q ≡ Some (length xs + chunk_position ks q) = rw (len, place_of-behind xs ks q l, lt-ltb (length xs + chunk_position ks q) (length xs + length ks) (omega arith)) refl in
    let same : base - chunk_position ks q ≡ base + length xs - (length xs + chunk_position ks q) = omega arith in
    rw (there, all) (ap Some same))
    (λ (m : length ks ≤ chunk_position ks q).
    let there : place_in ks q ≡ None = rw (le-ltb (chunk_position ks q) (length ks) m) refl in
    let all : place_in (xs ++ ks) q ≡ None = rw (len, place_of-behind xs ks q l, le-ltb (length xs + chunk_position ks q) (length xs + length ks) (omega arith)) refl in
    rw (there, all) refl)
    (cases_lt (chunk_position ks q) (length ks)))))
    (cases_lt (chunk_position xs q) (length xs))

-- one more entry
pub entry_more : (xs : List ChunkValue) (k : ChunkValue) → IsFresh xs k.number → (base i : ℕ) → length xs ≡ i → (q : ℕ) (old was new : Option ℕ) →
    new ≡ cond (eqb k.number q) (Some (base - i)) was → was ≡ option_or (option_map (λ j. base - j) (place_in xs q)) old →
    new ≡ option_or (option_map (λ j. base - j) (place_in (xs ++ k ∷ []) q)) old
entry_more xs k fresh base i len q old was new writes before =
    writes
    ∙ (ap (λ (o : Option ℕ). cond (eqb k.number q) (Some (base - i)) o) before
    ∙ (either (eqb k.number q) i (place_in xs q)
    ∙ (ap (λ (n : ℕ). option_or (option_map (λ j. base - j) (cond (eqb k.number q) (Some n) (place_in xs q))) old) (sym len)
    ∙ ap (λ (o : Option ℕ). option_or (option_map (λ j. base - j) o) old) (sym (place_in-push xs k fresh q)))))
  where
    either : (b : Bool) (n : ℕ) (o : Option ℕ) → cond b (Some (base - n)) (option_or (option_map (λ j. base - j) o) old) ≡ option_or (option_map (λ j. base - j) (cond b (Some n) o)) old
    either true n o = refl
    either false n o = refl

-- each part of a list with distinct numbers has distinct numbers
pub fresh_front : (xs ks : List ChunkValue) (n : ℕ) → IsFresh (xs ++ ks) n → IsFresh xs n
fresh_front [] ks n h = refl
fresh_front (x ∷ xs) ks n h = fresh_cons x xs n (fresh_head x (xs ++ ks) n h) (fresh_front xs ks n (fresh_tail x (xs ++ ks) n h))

pub fresh_behind : (xs ks : List ChunkValue) (n : ℕ) → IsFresh (xs ++ ks) n → IsFresh ks n
fresh_behind [] ks n h = h
fresh_behind (x ∷ xs) ks n h = fresh_behind xs ks n (fresh_tail x (xs ++ ks) n h)

pub apart_front : (xs ks : List ChunkValue) → HaveDistinctNumbers (xs ++ ks) → HaveDistinctNumbers xs
apart_front [] ks h = tt
apart_front (x ∷ xs) ks h = (fresh_front xs ks x.number h.0, apart_front xs ks h.1)

pub apart_behind : (xs ks : List ChunkValue) → HaveDistinctNumbers (xs ++ ks) → HaveDistinctNumbers ks
apart_behind [] ks h = h
apart_behind (x ∷ xs) ks h = apart_behind xs ks h.1

pub apart_across : (xs ks : List ChunkValue) → HaveDistinctNumbers (xs ++ ks) → (i : ℕ) → i < length xs → IsFresh ks (chunk_at xs i).number
apart_across [] ks h i l = absurd (omega arith)
apart_across (x ∷ xs) ks h zero l = fresh_behind xs ks x.number h.0
apart_across (x ∷ xs) ks h (suc i) l = apart_across xs ks h.1 i (omega arith)

-- no entry has the number of a fresh chunk
pub none_kept : (ks : List ChunkValue) (base n : ℕ) (o : Option ℕ) → o ≡ option_map (λ j. base - j) (place_in ks n) → IsFresh ks n → o ≡ None
none_kept ks base n o e f = e ∙ rw f refl

module _ (xs ks : List ChunkValue) where
  at_behind : (i : ℕ) → chunk_at (xs ++ ks) (i + length xs) ≡ chunk_at ks i
  at_behind i =
      let e : i + length xs - length xs ≡ i = omega arith in
      get_or-append_right xs ks (length xs) (i + length xs) no_chunk refl (omega arith) ∙ rw e refl

  IsCurrent-behind : (b : ℕ) → b ≡ length xs → (o : Option ℕ) → IsCurrent ks o → IsCurrent (xs ++ ks) (option_map (λ i. i + b) o)
  IsCurrent-behind b e None h = h
  IsCurrent-behind b e (Some i) h = rw e (simp length-append (let l : i < length ks = h.0 in omega arith), rw (at_behind i) h.1)

  IsReserved-behind : (b : ℕ) → b ≡ length xs → (o : Option ℕ) → IsReserved ks o → IsReserved (xs ++ ks) (option_map (λ i. i + b) o)
  IsReserved-behind b e None h = h
  IsReserved-behind b e (Some i) h = rw e (simp length-append (let l : i < length ks = h.0 in omega arith), rw (at_behind i) h.1)

module _ (ls rs ks : List ChunkValue) (pieces : PiecesValue) (filled kept : Option ℕ) (a b n many part base : ℕ) (place : ℕ → Option ℕ) (entries : ℕ) (keeps : AgreesWithChunks ks pieces filled kept n many part base place entries)
    (left : a ≡ saturating_words (held_words ls)) (right : b ≡ saturating_words (held_words rs)) (left_within : CellsFitInChunks ls) (right_within : CellsFitInChunks rs) where
  together : ls ++ (rs ++ ks) ≡ (ls ++ rs) ++ ks
  together = sym (append_assoc ls rs ks)

  lengths : length ls + length rs ≡ length (ls ++ rs)
  lengths = simp length-append refl

  sum_of_three : (x y z : ℕ) → saturating_words (saturating_words z + saturating_words (saturating_words x + saturating_words y)) ≡ saturating_words (x + (y + z))
  sum_of_three x y z = omega arith

  pub merged_kept : (half new : ℕ → Option ℕ) (m count top : ℕ) → top ≡ base + length rs + length ls →
      ((q : ℕ) → half q ≡ option_or (option_map (λ j. base + length rs - j) (place_in rs q)) (place q)) →
      ((q : ℕ) → new q ≡ option_or (option_map (λ j. base + length rs + length ls - j) (place_in ls q)) (half q)) →
      m ≡ entries + length rs + length ls → count ≡ saturating_words (n + saturating_words (a + b)) →
      (o p : ℕ) → o ≡ saturating_words (object_count (ls ++ (rs ++ ks))) → p ≡ saturating_words (small_words (ls ++ (rs ++ ks))) →
      (all : PiecesValue) → ShowsChunks all (ls ++ (rs ++ ks)) →
      AgreesWithChunks (ls ++ (rs ++ ks)) all (option_map (λ i. i + (length ls + length rs)) filled) (option_map (λ i. i + (length ls + length rs)) kept) count o p top new m
  merged_kept half new m count top sum first second each words o p objects small all shown = record {
    current = rw together (IsCurrent-behind (ls ++ rs) ks (length ls + length rs) lengths filled keeps.current);
    reserved = rw together (IsReserved-behind (ls ++ rs) ks (length ls + length rs) lengths kept keeps.reserved);
    within = All-append (λ (x : ChunkValue). words_in x.cells ≤ x.size) ls (rs ++ ks) left_within (All-append (λ (x : ChunkValue). words_in x.cells ≤ x.size) rs ks right_within keeps.within);
    words =
        let held : held_words (ls ++ (rs ++ ks)) ≡ held_words ls + (held_words rs + held_words ks) = rw (held_words-append ls (rs ++ ks), held_words-append rs ks) refl in
        let w = keeps.words in
        rw held (words ∙ rw (w, left, right) (sum_of_three (held_words ls) (held_words rs) (held_words ks)));
    objects = objects;
    small = small;
    least = let l = keeps.least in omega arith;
    moved = let m = keeps.moved in simp length-append (omega arith);
    table = λ q.
        let t = table_front rs ks base place half keeps.table first in
        let u = table_front ls (rs ++ ks) (base + length rs) half new t second in
        rw sum (u q);
    each = let e = keeps.each in simp length-append (omega arith);
    shown = shown;
  }
