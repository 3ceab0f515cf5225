-- The remembered fields of a heap, sorted.
use Rattle.heap_reading.proofs.Common.{◌≡◌, ℕ, suc, ◌+◌, ◌*◌, ◌<◌, ◌≤◌, ◌==◌, ◌&&◌, ◌⊎◌, arith, Bool, true, false, cond, Option, Some, None, List, [], ◌∷◌, length, map, get_or, nat_lt, nat_eq, slice_get, inl, inr, refl, ap, sym, subst, ◌∙◌, Less, Equal, Greater, AllByRecursion, list_any, IsPermutation, IsSortedWithin, nat_cmp, ordering_then, is_lt, cases_eq, false≢true, or_parts, slice_get_past, Contains-permutation, IsPermutation-sym, IsDistinct-IsPermutation, IsDistinct-head, IsDistinct-tail, any_from_in, contains_from_in, in_from_contains, each_in, in_map, map_in, Addr, word_of_ref, Located, RefField, StandOnce, has_source, same_source, same_self, SetOf, own, objects_of_chunks, sources, handed, ParkedTask, IsSharedValue, SharedValue, accounts, belongings_in, noted_in, rest_at, value_of, belongings_chunks, FieldAt, AreAll, FieldBefore, IsNoted, Rises, field_of}
use Rattle.std.specs.List.{IsDistinct}
use Rattle.core_invariant.proofs.below.plain_vec.{In}

-- THE TEST
is_field : FieldAt → FieldAt → Bool
is_field f g = (f.object == g.object) && (f.field == g.field)

flips : (f g : FieldAt) → is_field f g ≡ is_field g f
unfolding is_field
flips f g = grind arith

is_itself : (f : FieldAt) → is_field f f ≡ true
unfolding is_field
is_itself f = grind arith

same_fields : (f g : FieldAt) → f.object ≡ g.object → f.field ≡ g.field → f ≡ g
same_fields f g e k = λ i. record { object = e i; field = k i }

same_from : (f g : FieldAt) → is_field f g ≡ true → f ≡ g
unfolding is_field
same_from f g h = same_fields f g (grind arith) (grind arith)

-- FIELDS THAT DIFFER

module _ (ss : List RefField) (apart : (s t : RefField) → In ss s → In ss t → field_of s ≡ field_of t → s ≡ t) where
  unlike : (s : RefField) (ts : List RefField) → In ss s → ((t : RefField) → In ts t → In ss t) → has_source ts s ≡ false → AllByRecursion (λ y. is_field (field_of s) y ≡ false) (map field_of ts)
  unlike s [] here all off = tt
  unlike s (t ∷ ts) here all off = (unlike_by_cases (is_field (field_of s) (field_of t)) refl, unlike s ts here (λ u i. all u (inr i)) (or_parts (same_source s t) (list_any (same_source s) ts) off).1)
    where
      unlike_by_cases : (b : Bool) → is_field (field_of s) (field_of t) ≡ b → b ≡ false
      unlike_by_cases false e = refl
      unlike_by_cases true e =
          let same : s ≡ t = apart s t here (all t (inl refl)) (same_from (field_of s) (field_of t) e) in
          absurd (false≢true (sym off ∙ any_from_in (same_source s) (t ∷ ts) t (inl refl) (subst (λ z. same_source s z ≡ true) same (same_self s))))

  distinct : (ts : List RefField) → ((t : RefField) → In ts t → In ss t) → StandOnce ts → IsDistinct is_field (map field_of ts)
  unfolding IsDistinct
  distinct [] all once = tt
  distinct (t ∷ ts) all once = (unlike t ts (all t (inl refl)) (λ u i. all u (inr i)) once.0, distinct ts (λ u i. all u (inr i)) once.1)

-- IN ORDER
abbrev Below : FieldAt → FieldAt → Type 0
Below a b = (a.object < b.object) ⊎ ((a.object ≡ b.object) × (a.field ≤ b.field))

below_trans : (a b c : FieldAt) → Below a b → Below b c → Below a c
below_trans a b c (inl h) (inl k) = inl (omega arith)
below_trans a b c (inl h) (inr k) = inl (let e = k.0 in omega arith)
below_trans a b c (inr h) (inl k) = inl (let e = h.0 in omega arith)
below_trans a b c (inr h) (inr k) = inr (h.0 ∙ k.0, (let x = h.1 in let y = k.1 in omega arith))

abbrev cmp_lt : FieldAt → FieldAt → Bool
cmp_lt a b = is_lt (ordering_then (nat_cmp a.object b.object) (nat_cmp a.field b.field))

below_by : (a b : FieldAt) (p q r last : Bool) → nat_lt b.object a.object ≡ p → nat_eq b.object a.object ≡ q → nat_lt b.field a.field ≡ r
    → is_lt (ordering_then (cond p Less (cond q Equal Greater)) (cond r Less (cond last Equal Greater))) ≡ false → Below a b
below_by a b true q r last lt eq less h = absurd (false≢true (sym h))
below_by a b false false r last lt eq less h = inl (grind arith)
below_by a b false true true last lt eq less h = absurd (false≢true (sym h))
below_by a b false true false last lt eq less h = inr (grind arith, grind arith)

below_from : (a b : FieldAt) → cmp_lt b a ≡ false → Below a b
below_from a b h = below_by a b (nat_lt b.object a.object) (nat_eq b.object a.object) (nat_lt b.field a.field) (nat_eq b.field a.field) refl refl refl h

up_more : (n m : FieldAt) (ns : List FieldAt) → Rises Below (m ∷ ns) → Below n m → (x : FieldAt) → In (m ∷ ns) x → Below n x
up_more n m ns rest next x (inl e) = subst (Below n) e next
up_more n m ns rest next x (inr i) = below_trans n m x next (rest.0 x i)

up_from : (ns : List FieldAt) → IsSortedWithin cmp_lt ns 0 (length ns) → Rises Below ns
up_from [] s = tt
up_from (n ∷ []) s = ((λ m i. absurd i), tt)
up_from (n ∷ m ∷ ns) s =
    let rest : Rises Below (m ∷ ns) = up_from (m ∷ ns) (λ k d low high. up_one k d (s (suc k) d (omega arith) (omega arith))) in
    (up_more n m ns rest (below_from n m (s 0 n (omega arith) (omega arith))), rest)
  where
    up_one : (k : ℕ) (d : FieldAt) → cmp_lt (get_or (n ∷ m ∷ ns) (suc k + 1) d) (get_or (m ∷ ns) k d) ≡ false → cmp_lt (get_or (m ∷ ns) (k + 1) d) (get_or (m ∷ ns) k d) ≡ false
    up_one k d h = let e : suc k + 1 ≡ suc (k + 1) = omega arith in subst (λ j. cmp_lt (get_or (n ∷ m ∷ ns) j d) (get_or (m ∷ ns) k d) ≡ false) e h

before_from : (f g : FieldAt) → Below f g → is_field f g ≡ false → FieldBefore f g
before_from f g (inl lt) off = inl lt
before_from f g (inr h) off = elim (cases_eq f.field g.field) [
  | inl e ↦ absurd (false≢true (sym off ∙ subst (λ z. is_field f z ≡ true) (same_fields f g h.0 e) (is_itself f)))
  | inr ne ↦ inr (h.0, (let le = h.1 in let lt : f.field < g.field = omega (arith, le, ne) in lt))
]

rises_from : (fs : List FieldAt) → Rises Below fs → IsDistinct is_field fs → Rises FieldBefore fs
rises_from [] up d = tt
rises_from (f ∷ fs) up d =
    ((λ g i. before_from f g (up.0 g i) (each_in (λ y. is_field f y ≡ false) fs g (IsDistinct-head is_field f fs d) i)), rises_from fs up.1 (IsDistinct-tail is_field f fs d))

-- OF A SHARED VALUE
module _ (w : SharedValue) (I : IsSharedValue w) where
  near_in : (o : Option ParkedTask) (u : ℕ) → rest_at w.rests u ≡ o → (a : Addr) → (q : Located) → In (objects_of_chunks (belongings_in o).chunks) q → q.at ≡ a → a.offset < 1024
  near_in None u e a q i at = absurd i
  near_in (Some r) u e a q i at = subst (λ (z : Addr). z.offset < 1024) at ((I.heaps u r e).near q (subst (λ ks. In (objects_of_chunks ks) q) (belongings_chunks r) i))

  -- words can hold the addresses of the objects of remembered fields
  pub source_near : (t : ℕ) (s : RefField) → In (sources (value_of w) t) s → s.object.offset < 1024
  source_near t s i =
      let k = I.stands.belongings.sources t s i in
      let o = k.place.here k.rests in
      near_in (rest_at w.rests (own (handed (accounts w)) k.name)) (own (handed (accounts w)) k.name) refl s.object o.0 o.1 o.2.at

  word_once : (a b : Addr) → a.offset < 1024 → b.offset < 1024 → word_of_ref (Some a) ≡ word_of_ref (Some b) → (a.chunk ≡ b.chunk) × (a.offset ≡ b.offset)
  word_once a b na nb e = let f : a.chunk * 1024 + a.offset + 1 ≡ b.chunk * 1024 + b.offset + 1 = e in (omega (arith, na, nb, f), omega (arith, na, nb, f))

  -- a task that doesn't exist has none
  pub none_noted : (t : ℕ) → length w.tree ≤ t → AreAll FieldBefore (IsNoted w t) []
  none_noted t past =
      let none : sources (value_of w) t ≡ [] = ap (λ o. (noted_in o).sources) (slice_get_past w.sets t (subst (λ n. n ≤ t) (sym I.noted) past)) in
      record {
        rising = tt;
        each = λ f. ((λ i. absurd i), (λ h. absurd (subst (λ xs. In xs h.0) none h.1)));
      }

  module _ (t : ℕ) (set : SetOf) (is : slice_get w.sets t ≡ Some set) where
    abbrev ss : List RefField
    ss = set.remembered.sources

    noted_is : sources (value_of w) t ≡ ss
    noted_is = ap (λ o. (noted_in o).sources) is

    near : (s : RefField) → In ss s → s.object.offset < 1024
    near s i = source_near t s (subst (λ xs. In xs s) (sym noted_is) i)

    apart : (s u : RefField) → In ss s → In ss u → field_of s ≡ field_of u → s ≡ u
    apart s u i j e =
        let a = word_once s.object u.object (near s i) (near u j) (ap (λ (f : FieldAt). f.object) e) in
        let c : s.object.chunk ≡ u.object.chunk = a.0 in
        let o : s.object.offset ≡ u.object.offset = a.1 in
        let f : s.field ≡ u.field = ap (λ (x : FieldAt). x.field) e in
        λ k. record { object = record { chunk = c k; offset = o k }; field = f k }

    pub noted_in_order : (fs gs : List FieldAt) → StandOnce ss → fs ≡ map field_of ss → IsPermutation fs gs → IsSortedWithin cmp_lt gs 0 (length gs) → AreAll FieldBefore (IsNoted w t) gs
    noted_in_order fs gs once all moved sorted = record {
      rising = rises_from gs (up_from gs sorted) (IsDistinct-IsPermutation is_field flips fs gs moved (subst (IsDistinct is_field) (sym all) (distinct ss apart ss (λ s i. i) once)));
      each = λ f. ((λ i. noted_in_order_there f i), (λ h. back f h));
    }
      where
        noted_in_order_there : (f : FieldAt) → In gs f → IsNoted w t f
        noted_in_order_there f i =
            let j : In fs f = in_from_contains fs f (Contains-permutation gs fs f (IsPermutation-sym fs gs moved) (contains_from_in gs f i)) in
            let r = map_in field_of ss f (subst (λ xs. In xs f) all j) in
            (r.0, subst (λ xs. In xs r.0) (sym noted_is) r.1, sym r.2)

        back : (f : FieldAt) → IsNoted w t f → In gs f
        back f h =
            let i : In ss h.0 = subst (λ xs. In xs h.0) noted_is h.1 in
            let j : In fs (field_of h.0) = subst (λ xs. In xs (field_of h.0)) (sym all) (in_map field_of ss h.0 i) in
            subst (In gs) (sym h.2) (in_from_contains gs (field_of h.0) (Contains-permutation fs gs (field_of h.0) moved (contains_from_in fs (field_of h.0) j)))
