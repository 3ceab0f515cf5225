-- What is found, step by step.
use Rattle.mark_sweep_gc.proofs.Common.{◌≡◌, ℕ, ◌+◌, ◌<◌, ◌≤◌, List, [], ◌++◌, length, get_or, take, refl, sym, ap, ◌∙◌, subst, arith, ◌⊎◌, inl, inr, Contains, All, Some, None, slice_get, append-nil, append_assoc, take_all, length-drop, Bool, true, false, nat_lt, drop, ◌-◌, is_some, if◌then◌else◌, false≢true, IsDistinct, slice_get-get_or, place_in, chunk_position, same_address, distinct_from, Addr, ChunkValue, HasObjectAt, IsSoundReference, In, in_append_left, contains_from_in, in_from_contains, all_from, got_in_take, in_take_more, take_more_in, FindsMore, HasCapacityForAll, MarkingValue, with_address, object_count}
use Rattle.object_layout.proofs.ChunkLaws as laws
use Rattle.mark_sweep_gc.proofs.Addresses.{noted_is}
use Rattle.mark_sweep_gc.proofs.Counting.{found_within}

pub found_few : (h : List ChunkValue) (m : MarkingValue) → HasCapacityForAll h m → length m.found ≤ object_count h
found_few h m r = found_within h m.found r.once (λ a i. r.each a (contains_from_in m.found a i))

-- nothing is found yet
pub room_at_first : (h : List ChunkValue) (m : MarkingValue) → m.found ≡ [] → object_count h < m.slots → object_count h < m.spare → length h ≤ m.places → HasCapacityForAll h m
room_at_first h m none slots spare places =
    let zero_long : length m.found ≡ 0 = ap (λ (xs : List Addr). length xs) none in
    record {
      each = λ a i. absurd (in_from_contains [] a (subst (λ (xs : List Addr). Contains xs a) none i));
      once = subst (IsDistinct same_address) (sym none) (distinct_from [] tt);
      slots = omega arith;
      spare = omega arith;
      places = places;
    }

pub has_slot : (h : List ChunkValue) (m : MarkingValue) → HasCapacityForAll h m → 0 < m.slots
has_slot h m r =
    let few : length m.found ≤ object_count h = found_few h m r in
    let s : object_count h < length m.found + m.slots = r.slots in
    omega arith

pub has_spare : (h : List ChunkValue) (m : MarkingValue) → HasCapacityForAll h m → 0 < m.spare
has_spare h m r =
    let few : length m.found ≤ object_count h = found_few h m r in
    let s : object_count h < length m.found + m.spare = r.spare in
    omega arith

module _ (P : Addr → Type 0) (m : MarkingValue) where
  -- nothing more is there, or it is found already
  pub finds_none : ((a : Addr) → P a → Contains m.found a) → FindsMore P m m
  finds_none n = record {
    grown = ([], sym (append-nil m.found));
    each = λ a i. inl i;
    all = n;
    marked = refl;
    followed = refl;
  }

-- one object noted
pub finds_noted : (P : Addr → Type 0) (old new : MarkingValue) (a : Addr) → P a → ((x : Addr) → P x → a ≡ x) → new.found ≡ with_address old.found a → new.marked ≡ old.marked → new.followed ≡ old.followed → FindsMore P old new
finds_noted P old new a p only e m f =
    let n = noted_is old.found a in
    record {
      grown = (n.grown.0, e ∙ n.grown.1);
      each = λ x i. elim (n.each x (subst (λ (xs : List Addr). In xs x) e (in_from_contains new.found x i))) [
        | inl j ↦ inl (contains_from_in old.found x j)
        | inr s ↦ inr (subst P s p)
      ];
      all = λ x q. subst (λ (y : Addr). Contains new.found y) (only x q) (contains_from_in new.found a (subst (λ (xs : List Addr). In xs a) (sym e) n.there));
      marked = m;
      followed = f;
    }

pub room_noted : (h : List ChunkValue) (old new : MarkingValue) (a : Addr) → HasCapacityForAll h old → HasObjectAt h a → new.found ≡ with_address old.found a
    → length old.found + old.slots ≤ length new.found + new.slots → length old.found + old.spare ≤ length new.found + new.spare → new.places ≡ old.places → HasCapacityForAll h new
room_noted h old new a r held e s p q =
    let n = noted_is old.found a in
    let slots : object_count h < length old.found + old.slots = r.slots in
    let spare : object_count h < length old.found + old.spare = r.spare in
    let places : length h ≤ old.places = r.places in
    record {
      each = λ x i. elim (n.each x (subst (λ (xs : List Addr). In xs x) e (in_from_contains new.found x i))) [
        | inl j ↦ r.each x (contains_from_in old.found x j)
        | inr f ↦ subst (HasObjectAt h) f held
      ];
      once = subst (IsDistinct same_address) (sym e) (n.once r.once);
      slots = omega arith;
      spare = omega arith;
      places = omega arith;
    }

pub still_found : (P : Addr → Type 0) (old new : MarkingValue) → FindsMore P old new → (a : Addr) → Contains old.found a → Contains new.found a
still_found P old new f a c = contains_from_in new.found a (subst (λ (xs : List Addr). In xs a) (sym f.grown.1) (in_append_left old.found f.grown.0 a (in_from_contains old.found a c)))

-- one after the other
pub finds_both : (P Q R : Addr → Type 0) (old mid new : MarkingValue) → FindsMore P old mid → FindsMore Q mid new
    → ((a : Addr) → R a → P a ⊎ Q a) → ((a : Addr) → P a → R a) → ((a : Addr) → Q a → R a) → FindsMore R old new
finds_both P Q R old mid new f g split left right = record {
  grown = (f.grown.0 ++ g.grown.0, g.grown.1 ∙ (ap (λ (xs : List Addr). xs ++ g.grown.0) f.grown.1 ∙ append_assoc old.found f.grown.0 g.grown.0));
  each = λ a i. elim (g.each a i) [
    | inl j ↦ elim (f.each a j) [ inl k ↦ inl k | inr p ↦ inr (left a p) ]
    | inr q ↦ inr (right a q)
  ];
  all = λ a r. elim (split a r) [ inl p ↦ still_found Q mid new g a (f.all a p) | inr q ↦ g.all a q ];
  marked = g.marked ∙ f.marked;
  followed = g.followed ∙ f.followed;
}

-- one more element of a list whose elements are found
pub finds_more : {X : Type 0} (H : Addr → Type 0) (of : Addr → X) (xs : List X) (k : ℕ) (x : X) (old mid new : MarkingValue) → slice_get xs k ≡ Some x
    → FindsMore (λ a. H a × Contains (take k xs) (of a)) old mid → FindsMore (λ a. H a × (x ≡ of a)) mid new
    → FindsMore (λ a. H a × Contains (take (k + 1) xs) (of a)) old new
finds_more {X} H of xs k x old mid new e f g =
    finds_both (λ a. H a × Contains (take k xs) (of a)) (λ a. H a × (x ≡ of a)) (λ a. H a × Contains (take (k + 1) xs) (of a)) old mid new f g
    (λ a r. elim (in_take_more xs k x (of a) e (in_from_contains (take (k + 1) xs) (of a) r.1)) [
      | inl i ↦ inl (r.0, contains_from_in (take k xs) (of a) i)
      | inr s ↦ inr (r.0, s)
    ])
    (λ a p. (p.0, contains_from_in (take (k + 1) xs) (of a) (take_more_in xs k (of a) (in_from_contains (take k xs) (of a) p.1))))
    (λ a q. (q.0, contains_from_in (take (k + 1) xs) (of a) (subst (λ (y : X). In (take (k + 1) xs) y) q.1 (got_in_take xs k x e))))

-- all of a list
pub finds_list : {X : Type 0} (H P : Addr → Type 0) (of : Addr → X) (xs : List X) (k : ℕ) (old new : MarkingValue) → length xs ≤ k
    → ((a : Addr) → P a → H a × Contains xs (of a)) → ((a : Addr) → H a × Contains xs (of a) → P a)
    → FindsMore (λ a. H a × Contains (take k xs) (of a)) old new → FindsMore P old new
finds_list {X} H P of xs k old new l to back f =
    let all : take k xs ≡ xs = take_all k xs l in
    record {
      grown = f.grown;
      each = λ a i. elim (f.each a i) [ inl j ↦ inl j | inr q ↦ inr (back a (q.0, subst (λ (ys : List X). Contains ys (of a)) all q.1)) ];
      all = λ a p. f.all a ((to a p).0, subst (λ (ys : List X). Contains ys (of a)) (sym all) (to a p).1);
      marked = f.marked;
      followed = f.followed;
    }

-- ---- addresses of the heap

pub some_same : {a b : Addr} → Some a ≡ Some b → a ≡ b
some_same e = cc

owned_by : (ks : List ChunkValue) (n : ℕ) (b : Bool) → nat_lt (chunk_position ks n) (length ks) ≡ b → is_some (if b then Some (chunk_position ks n) else None) ≡ true → chunk_position ks n < length ks
owned_by ks n true e o = grind arith
owned_by ks n false e o = absurd (false≢true o)

pub owned_held : (ks : List ChunkValue) (a : Addr) → IsSoundReference ks (Some a) → is_some (place_in ks a.chunk) ≡ true → HasObjectAt ks a
owned_held ks a sound o = (sound (owned_by ks a.chunk (nat_lt (chunk_position ks a.chunk) (length ks)) refl o)).0

not_by : (ks : List ChunkValue) (n : ℕ) (b : Bool) → nat_lt (chunk_position ks n) (length ks) ≡ b → is_some (if b then Some (chunk_position ks n) else None) ≡ false → chunk_position ks n < length ks → ⊥
not_by ks n true e o l = false≢true (sym o)
not_by ks n false e o l = grind arith

pub not_owned : (ks : List ChunkValue) (a : Addr) → is_some (place_in ks a.chunk) ≡ false → HasObjectAt ks a → ⊥
not_owned ks a o h = not_by ks a.chunk (nat_lt (chunk_position ks a.chunk) (length ks)) refl o (laws.chunk_of_object ks a (laws.born_object ks a h))

pub held_in : (P : Addr → Type 0) (xs : List Addr) (a : Addr) → All P xs → Contains xs a → P a
held_in P xs a all c = subst P c.2 (all c.0 a c.1)

-- one more object of a list of objects
pub finds_more_at : (H : Addr → Type 0) (xs : List Addr) (k : ℕ) (d : Addr) (old mid new : MarkingValue) → k < length xs
    → H (get_or xs k d) → FindsMore (λ a. H a × Contains (take k xs) a) old mid → FindsMore (λ a. get_or xs k d ≡ a) mid new
    → FindsMore (λ a. H a × Contains (take (k + 1) xs) a) old new
finds_more_at H xs k d old mid new l h f g =
    finds_more H (λ (a : Addr). a) xs k (get_or xs k d) old mid new (slice_get-get_or xs k d l) f
    record {
      grown = g.grown;
      each = λ a i. elim (g.each a i) [ inl j ↦ inl j | inr q ↦ inr (subst H q h, q) ];
      all = λ a q. g.all a q.1;
      marked = g.marked;
      followed = g.followed;
    }

-- the same for markings that differ only in their counts
pub finds_counted : (P Q : Addr → Type 0) (old mid old2 new : MarkingValue) → ((a : Addr) → P a → Q a) → ((a : Addr) → Q a → P a) → FindsMore P old mid → old2.found ≡ old.found → new.found ≡ mid.found
    → new.marked ≡ old2.marked → new.followed ≡ old2.followed → FindsMore Q old2 new
finds_counted P Q old mid old2 new to back f e n m k = record {
  grown = (f.grown.0, n ∙ (f.grown.1 ∙ ap (λ (xs : List Addr). xs ++ f.grown.0) (sym e)));
  each = λ a c. elim (f.each a (subst (λ (xs : List Addr). Contains xs a) n c)) [ inl j ↦ inl (subst (λ (xs : List Addr). Contains xs a) (sym e) j) | inr p ↦ inr (to a p) ];
  all = λ a q. subst (λ (xs : List Addr). Contains xs a) (sym n) (f.all a (back a q));
  marked = m;
  followed = k;
}

pub rest_is : (xs : List Addr) (n m : ℕ) → n ≡ m → take (length xs - n) (drop n xs) ≡ drop m xs
rest_is xs n m e =
    let l : length (drop n xs) ≡ length xs - n = length-drop n xs in
    take_all (length xs - n) (drop n xs) (omega arith) ∙ ap (λ (k : ℕ). drop k xs) e

pub all_more : (P : Addr → Type 0) (xs : List Addr) (k : ℕ) (d : Addr) → k < length xs → All P (take k xs) → P (get_or xs k d) → All P (take (k + 1) xs)
all_more P xs k d l all p = all_from P (take (k + 1) xs) (λ x i. elim (in_take_more xs k (get_or xs k d) x (slice_get-get_or xs k d l) i) [
  | inl j ↦ held_in P (take k xs) x all (contains_from_in (take k xs) x j)
  | inr e ↦ subst P e p
])
