-- The layout of chunks whose objects are changed in place, and of the chunks of two heaps together.
use Rattle.refinement.proofs.Common.{◌≡◌, ◌⊎◌, ◌&&◌, ◌==◌, ◌+◌, ◌*◌, ◌≤◌, ℕ, suc, Bool, true, false, cond, Option, List, [], ◌∷◌, ◌++◌, length, map, inl, inr, refl, ap, ap₂, sym, subst, ◌∙◌, ne_eqb, AllByRecursion, is_empty, in_append_cases, map_in, Addr, Located, units, RefField, Chunk, In, objects_of_chunks, mapped_chunk, rewritten, rewritten_refs, words, DontOverlap, HoldsLarge, reserved_chunks, AreLaidOut}
use Rattle.std.specs.List.{IsDistinct}
use Rattle.refinement.proofs.objects.Members.{in_chunk, in_objects}

abbrev pub numbers : List Chunk → List ℕ
numbers ks = map (λ k. k.number) ks

abbrev pub units_of : List Chunk → List ℕ
units_of ks = map (λ k. k.units) ks

-- NO CHUNKS

pub none_laid : AreLaidOut [] 0
unfolding IsDistinct
none_laid = record {
  numbers = tt;
  within = λ k o i j. absurd i;
  apart = λ o q i j. absurd i;
  small = λ k i e. absurd i;
  large = λ k i e. absurd i;
  reserved = refl;
}

-- EACH OBJECT CHANGED, except for its address and its words

module _ (one : Located → Located) (same_at : (o : Located) → (one o).at ≡ o.at) (same_words : (o : Located) → words (one o) ≡ words o) where
  abbrev chunk : Chunk → Chunk
  chunk k = mapped_chunk one k

  numbers_mapped : (ks : List Chunk) → numbers (map chunk ks) ≡ numbers ks
  numbers_mapped [] = refl
  numbers_mapped (k ∷ ks) = ap (λ ns. k.number ∷ ns) (numbers_mapped ks)

  none_mapped : (os : List Located) → is_empty (map one os) ≡ is_empty os
  none_mapped [] = refl
  none_mapped (o ∷ os) = refl

  reserved_mapped : (ks : List Chunk) → units_of (reserved_chunks (map chunk ks)) ≡ units_of (reserved_chunks ks)
  reserved_mapped [] = refl
  reserved_mapped (k ∷ ks) =
      ap (λ b. units_of (cond (k.large && b) (chunk k ∷ reserved_chunks (map chunk ks)) (reserved_chunks (map chunk ks)))) (none_mapped k.objects) ∙ reserved_mapped_by_cases (k.large && is_empty k.objects) (reserved_mapped ks)
    where
      reserved_mapped_by_cases : (b : Bool) → units_of (reserved_chunks (map chunk ks)) ≡ units_of (reserved_chunks ks) → units_of (cond b (chunk k ∷ reserved_chunks (map chunk ks)) (reserved_chunks (map chunk ks))) ≡ units_of (cond b (k ∷ reserved_chunks ks) (reserved_chunks ks))
      reserved_mapped_by_cases true e = ap (λ ns. k.units ∷ ns) e
      reserved_mapped_by_cases false e = e

  apart_mapped : (o q : Located) → DontOverlap o q → DontOverlap (one o) (one q)
  apart_mapped o q (inl ne) = inl (λ e. ne (ap (λ (a : Addr). a.chunk) (sym (same_at o)) ∙ (e ∙ ap (λ (a : Addr). a.chunk) (same_at q))))
  apart_mapped o q (inr (inl le)) = inr (inl (subst (λ n. n ≤ (one q).at.offset) (sym (end o)) (subst (λ n. o.at.offset + words o ≤ n) (sym (begin q)) le)))
    where
      begin : (o : Located) → (one o).at.offset ≡ o.at.offset
      begin o = ap (λ (a : Addr). a.offset) (same_at o)

      end : (o : Located) → (one o).at.offset + words (one o) ≡ o.at.offset + words o
      end o = ap₂ (λ i j. i + j) (begin o) (same_words o)
  apart_mapped o q (inr (inr le)) = inr (inr (subst (λ n. n ≤ (one o).at.offset) (sym (end q)) (subst (λ n. q.at.offset + words q ≤ n) (sym (begin o)) le)))
    where
      begin : (o : Located) → (one o).at.offset ≡ o.at.offset
      begin o = ap (λ (a : Addr). a.offset) (same_at o)

      end : (o : Located) → (one o).at.offset + words (one o) ≡ o.at.offset + words o
      end o = ap₂ (λ i j. i + j) (begin o) (same_words o)

  large_mapped : (k : Chunk) → HoldsLarge k → HoldsLarge (chunk k)
  large_mapped k (inl e) = inl (ap (map one) e)
  large_mapped k (inr h) = inr (one h.0, ap (map one) h.1, ap (λ (a : Addr). a.offset) (same_at h.0) ∙ h.2, h.3 ∙ ap units (sym (same_words h.0)))

  from : (ks : List Chunk) (o : Located) → In (objects_of_chunks (map chunk ks)) o → (q : Located) × In (objects_of_chunks ks) q × (one q ≡ o)
  from ks o i =
      let c = in_chunk (map chunk ks) o i in
      let k = map_in chunk ks c.0 c.1 in
      let q = map_in one k.0.objects o (subst (λ (z : Chunk). In z.objects o) (sym k.2) c.2) in
      (q.0, in_objects ks k.0 q.0 k.1 q.1, q.2)

  pub laid_mapped : (ks : List Chunk) (n : ℕ) → AreLaidOut ks n → AreLaidOut (map chunk ks) n
  laid_mapped ks n L = record {
    numbers = subst (IsDistinct (λ a b. a == b)) (sym (numbers_mapped ks)) L.numbers;
    within = λ k o i j.
        let q = map_in chunk ks k i in
        let r = map_in one q.0.objects o (subst (λ (c : Chunk). In c.objects o) (sym q.2) j) in
        let le : r.0.at.offset + words r.0 ≤ 1024 * q.0.units = L.within q.0 r.0 q.1 r.1 in
        let same : o.at.offset + words o ≡ r.0.at.offset + words r.0 = ap (λ (z : Located). z.at.offset + words z) (sym r.2) ∙ ap₂ (λ a b. a + b) (ap (λ (a : Addr). a.offset) (same_at r.0)) (same_words r.0) in
        let size : k.units ≡ q.0.units = ap (λ (c : Chunk). c.units) (sym q.2) in
        subst (λ a. a ≤ 1024 * k.units) (sym same) (subst (λ u. r.0.at.offset + words r.0 ≤ 1024 * u) (sym size) le);
    apart = λ o q i j.
        let a = from ks o i in
        let b = from ks q j in
        elim (L.apart a.0 b.0 a.1 b.1) [
          | inl e ↦ inl (sym a.2 ∙ (ap one e ∙ b.2))
          | inr d ↦ inr (subst (λ (z : Located). DontOverlap z q) a.2 (subst (λ (z : Located). DontOverlap (one a.0) z) b.2 (apart_mapped a.0 b.0 d)))
        ];
    small = λ k i e. (let q = map_in chunk ks k i in ap (λ (c : Chunk). c.units) (sym q.2) ∙ L.small q.0 q.1 (ap (λ (c : Chunk). c.large) q.2 ∙ e));
    large = λ k i e. (let q = map_in chunk ks k i in subst HoldsLarge q.2 (large_mapped q.0 (L.large q.0 q.1 (ap (λ (c : Chunk). c.large) q.2 ∙ e))));
    reserved = reserved_mapped ks ∙ L.reserved;
  }

-- updating references changes no words
refs_led : (f : Addr → Addr) (ss : List RefField) (a : Addr) (i : ℕ) (rs : List (Option Addr)) → length (rewritten_refs f ss a i rs) ≡ length rs
refs_led f ss a i [] = refl
refs_led f ss a i (r ∷ rs) = ap suc (refs_led f ss a (suc i) rs)

pub rewritten_words : (f : Addr → Addr) (ss : List RefField) (o : Located) → words (rewritten f ss o) ≡ words o
rewritten_words f ss o = ap (λ n. 2 + n + length o.ints) (refs_led f ss o.at 0 o.refs)

-- TWO HEAPS TOGETHER

all_apart : (x : ℕ) (ys : List ℕ) → ((y : ℕ) → In ys y → x ≡ y → ⊥) → AllByRecursion (λ y. x == y ≡ false) ys
all_apart x [] ne = tt
all_apart x (y ∷ ys) ne = (ne_eqb x y (ne y (inl refl)), all_apart x ys (λ z i. ne z (inr i)))

all_both : (P : ℕ → Type 0) (xs ys : List ℕ) → AllByRecursion P xs → AllByRecursion P ys → AllByRecursion P (xs ++ ys)
all_both P [] ys a b = b
all_both P (x ∷ xs) ys a b = (a.0, all_both P xs ys a.1 b)

distinct_both : (xs ys : List ℕ) → IsDistinct (λ a b. a == b) xs → IsDistinct (λ a b. a == b) ys → ((x y : ℕ) → In xs x → In ys y → x ≡ y → ⊥) → IsDistinct (λ a b. a == b) (xs ++ ys)
unfolding IsDistinct
distinct_both [] ys a b ne = b
distinct_both (x ∷ xs) ys a b ne = (all_both (λ y. x == y ≡ false) xs ys a.0 (all_apart x ys (λ y i. ne x y (inl refl) i)), distinct_both xs ys a.1 b (λ z y i. ne z y (inr i)))

numbers_both : (js ks : List Chunk) → numbers (js ++ ks) ≡ numbers js ++ numbers ks
numbers_both [] ks = refl
numbers_both (j ∷ js) ks = ap (λ ns. j.number ∷ ns) (numbers_both js ks)

reserved_both : (js ks : List Chunk) → map (λ (k : Chunk). k.units) (reserved_chunks (js ++ ks)) ≡ map (λ (k : Chunk). k.units) (reserved_chunks js) ++ map (λ (k : Chunk). k.units) (reserved_chunks ks)
reserved_both [] ks = refl
reserved_both (j ∷ js) ks = reserved_both_by_cases (j.large && is_empty j.objects) (reserved_both js ks)
  where
    reserved_both_by_cases : (b : Bool) → units_of (reserved_chunks (js ++ ks)) ≡ units_of (reserved_chunks js) ++ units_of (reserved_chunks ks) → units_of (cond b (j ∷ reserved_chunks (js ++ ks)) (reserved_chunks (js ++ ks))) ≡ units_of (cond b (j ∷ reserved_chunks js) (reserved_chunks js)) ++ units_of (reserved_chunks ks)
    reserved_both_by_cases true e = ap (λ ns. j.units ∷ ns) e
    reserved_both_by_cases false e = e

module _ (js ks : List Chunk) (n : ℕ) (L : AreLaidOut js 0) (R : AreLaidOut ks n) (apart : (j k : Chunk) → In js j → In ks k → j.number ≡ k.number → ⊥)
    (inside_j : (k : Chunk) (o : Located) → In js k → In k.objects o → o.at.chunk ≡ k.number) (inside_k : (k : Chunk) (o : Located) → In ks k → In k.objects o → o.at.chunk ≡ k.number) where
  -- objects of both are in two chunks
  across : (o q : Located) → In (objects_of_chunks js) o → In (objects_of_chunks ks) q → o.at.chunk ≡ q.at.chunk → ⊥
  across o q i j e =
      let a = in_chunk js o i in
      let b = in_chunk ks q j in
      apart a.0 b.0 a.1 b.1 (sym (inside_j a.0 o a.1 a.2) ∙ (e ∙ inside_k b.0 q b.1 b.2))

  objects_cases : (o : Located) → In (objects_of_chunks (js ++ ks)) o → In (objects_of_chunks js) o ⊎ In (objects_of_chunks ks) o
  objects_cases o i =
      let c = in_chunk (js ++ ks) o i in
      elim (in_append_cases js ks c.0 c.1) [ inl a ↦ inl (in_objects js c.0 o a c.2) | inr a ↦ inr (in_objects ks c.0 o a c.2) ]

  apart_both : (o q : Located) → In (objects_of_chunks js) o ⊎ In (objects_of_chunks ks) o → In (objects_of_chunks js) q ⊎ In (objects_of_chunks ks) q → (o ≡ q) ⊎ DontOverlap o q
  apart_both o q (inl i) (inl j) = L.apart o q i j
  apart_both o q (inl i) (inr j) = inr (inl (across o q i j))
  apart_both o q (inr i) (inl j) = inr (inl (λ e. across q o j i (sym e)))
  apart_both o q (inr i) (inr j) = R.apart o q i j

  pub laid_both : AreLaidOut (js ++ ks) n
  laid_both = record {
    numbers = subst (IsDistinct (λ a b. a == b)) (sym (numbers_both js ks)) (distinct_both (numbers js) (numbers ks) L.numbers R.numbers (λ x y i j e.
        let a = map_in (λ (k : Chunk). k.number) js x i in
        let b = map_in (λ (k : Chunk). k.number) ks y j in
        apart a.0 b.0 a.1 b.1 (a.2 ∙ (e ∙ sym b.2))));
    within = λ k o i j. elim (in_append_cases js ks k i) [ inl a ↦ L.within k o a j | inr a ↦ R.within k o a j ];
    apart = λ o q i j. apart_both o q (objects_cases o i) (objects_cases q j);
    small = λ k i e. elim (in_append_cases js ks k i) [ inl a ↦ L.small k a e | inr a ↦ R.small k a e ];
    large = λ k i e. elim (in_append_cases js ks k i) [ inl a ↦ L.large k a e | inr a ↦ R.large k a e ];
    reserved = reserved_both js ks ∙ ap₂ (λ a b. a ++ b) L.reserved R.reserved;
  }
