-- The links of a list with one more place.
use Rattle.jump_pointers.proofs.Common.{◌≡◌, ℕ, suc, ◌+◌, Option, Some, None, List, [], ◌∷◌, ◌++◌, length, slice_get, sym, ap, subst, ◌∙◌, arith, length-append, ◌<◌, refl, same_Some, got_front, got_past, got_last, AreLinked, IsNewLink, Link, parent_of_link, depth_in, far_in, up_from, depth_at, far_at, IsUp, new_link, AreLinks}
use Rattle.jump_pointers.proofs.Walks.{walk_depth}
use Rattle.jump_pointers.proofs.Growth.{links_go_on}

module _ {X : Type 0} (parent_of : Option X → Option ℕ) (depth_of far_of : Option X → ℕ) (none : parent_of None ≡ None) (xs : List X) (x : X) where
  abbrev more : List X
  more = xs ++ x ∷ []

  pub linked_more : AreLinked (length xs) (λ i. parent_of (slice_get xs i)) (λ i. depth_of (slice_get xs i)) (λ i. far_of (slice_get xs i))
      → IsNewLink (length xs) (λ i. depth_of (slice_get xs i)) (λ i. far_of (slice_get xs i)) (parent_of (Some x)) (depth_of (Some x)) (far_of (Some x))
      → AreLinked (length more) (λ i. parent_of (slice_get more i)) (λ i. depth_of (slice_get more i)) (λ i. far_of (slice_get more i))
  linked_more links new =
      let one : length more ≡ length xs + 1 = length-append xs (x ∷ []) in
      let len : suc (length xs) ≡ length more = omega arith in
      subst (λ (m : ℕ). AreLinked m (λ i. parent_of (slice_get more i)) (λ i. depth_of (slice_get more i)) (λ i. far_of (slice_get more i))) len
      (links_go_on (length xs)
      (λ i. parent_of (slice_get xs i)) (λ i. parent_of (slice_get more i))
      (λ i. depth_of (slice_get xs i)) (λ i. depth_of (slice_get more i))
      (λ i. far_of (slice_get xs i)) (λ i. far_of (slice_get more i))
      links
      (record {
        parents = λ u lt. ap parent_of (got_front xs (x ∷ []) u lt);
        depths = λ u lt. ap depth_of (got_front xs (x ∷ []) u lt);
        fars = λ u lt. ap far_of (got_front xs (x ∷ []) u lt);
        past = λ u lt. ap parent_of (got_past more u (omega arith)) ∙ none;
        new = subst (λ (o : Option X). IsNewLink (length xs) (λ i. depth_of (slice_get xs i)) (λ i. far_of (slice_get xs i)) (parent_of o) (depth_of o) (far_of o)) (sym (got_last xs x)) new;
      }))

-- ---- parent links

-- two ways up of equal length end at the same place
pub up_same : (ks : List Link) (n i j k : ℕ) → IsUp ks n i j → IsUp ks n i k → j ≡ k
up_same ks n i j k a b = same_Some j k (sym a ∙ b)

module _ (ks : List Link) (all : AreLinks ks) where
  pub up_depth : (n i j : ℕ) → IsUp ks n i j → depth_at ks i ≡ depth_at ks j + n
  up_depth n i j h = (walk_depth (length ks) (up_from ks) (depth_at ks) (far_at ks) all n i j h).0

  abbrev pub IsWithin : Option ℕ → Type 0
  IsWithin None = Unit {0}
  IsWithin (Some p) = p < length ks

  new_by : (m : Option ℕ) → IsWithin m → IsNewLink (length ks) (depth_at ks) (far_at ks) (new_link ks m).parent (new_link ks m).depth (new_link ks m).far
  new_by None w = (refl, refl)
  new_by (Some p) w = (w, refl, refl)

  pub link_more : (m : Option ℕ) → IsWithin m → AreLinks (ks ++ new_link ks m ∷ [])
  link_more m w = linked_more parent_of_link depth_in far_in refl ks (new_link ks m) all (new_by m w)
