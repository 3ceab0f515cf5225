-- A marking that can go on still can, if objects stay and what was overwritten was kept.
use Rattle.refinement.proofs.Common.{◌≡◌, ℕ, ◌+◌, ◌<◌, ◌≤◌, ◌++◌, arith, Some, List, length, length-append, ◌⊎◌, ◌↔◌, inl, inr, ap, sym, subst, ◌∙◌, Addr, HasObjectAt, RefersTo, Located, Name, contains_from_in, in_append_cases, in_append_left, in_append_right, in_from_contains, reached_more, reached_start, reached_within, IsMarking, MarkingValue, Fork, IsInSnapshot, MarkStarts, marking_goes_on, In, Memory, object_name, objects, CanGoOnMarking, kept}

-- WHAT WAS KEPT SINCE, being in the snapshot, leads to nothing more
module _ (f : Fork) (kept more : List Addr) (of : (a : Addr) → In more a → IsInSnapshot f kept a) where
  start_then : (a : Addr) → MarkStarts f (kept ++ more) a → IsInSnapshot f kept a
  start_then a s = elim (in_append_cases f.roots (kept ++ more) a (in_from_contains (f.roots ++ (kept ++ more)) a s.1)) [
    | inl i ↦ reached_start (MarkStarts f kept) (RefersTo f.heap) a (s.0, contains_from_in (f.roots ++ kept) a (in_append_left f.roots kept a i))
    | inr i ↦ elim (in_append_cases kept more a i) [
      | inl j ↦ reached_start (MarkStarts f kept) (RefersTo f.heap) a (s.0, contains_from_in (f.roots ++ kept) a (in_append_right f.roots kept a j))
      | inr j ↦ of a j
    ]
  ]

  start_before : (a : Addr) → MarkStarts f kept a → MarkStarts f (kept ++ more) a
  start_before a s = (
    s.0,
    contains_from_in (f.roots ++ (kept ++ more)) a (elim (in_append_cases f.roots kept a (in_from_contains (f.roots ++ kept) a s.1)) [
      | inl i ↦ in_append_left f.roots (kept ++ more) a i
      | inr i ↦ in_append_right f.roots (kept ++ more) a (in_append_left kept more a i)
    ]),
  )

  pub same_snapshot : (a : Addr) → IsInSnapshot f (kept ++ more) a ↔ IsInSnapshot f kept a
  same_snapshot a = (
    (λ w. reached_within (MarkStarts f (kept ++ more)) (RefersTo f.heap) (IsInSnapshot f kept) start_then (λ b x r g. reached_more (MarkStarts f kept) (RefersTo f.heap) b x r g) a w),
    (λ w. reached_within (MarkStarts f kept) (RefersTo f.heap) (IsInSnapshot f (kept ++ more)) (λ x s. reached_start (MarkStarts f (kept ++ more)) (RefersTo f.heap) x (start_before x s)) (λ b x r g. reached_more (MarkStarts f (kept ++ more)) (RefersTo f.heap) b x r g) a w),
  )

-- THE MARKING of t's heap
module _ (v v' : Memory) (t : ℕ) (snapshot : List Name) (m : MarkingValue) (more : List Addr) (grows : kept v' t ≡ kept v t ++ more)
    (there : (o : Located) → In (objects v t) o → (q : Located) × In (objects v' t) q × (q.at ≡ o.at) × (object_name q ≡ object_name o))
    (were : (q : Located) → In (objects v' t) q → (o : Located) × In (objects v t) o × (q.at ≡ o.at) × (object_name q ≡ object_name o) × ((a : Addr) → v.owner a.chunk ≡ Some t → In o.refs (Some a) → In q.refs (Some a) ⊎ In (kept v' t) a))
    (none_new : (k : ℕ) → v'.owner k ≡ Some t → v.owner k ≡ Some t) (count : length (objects v' t) ≡ length (objects v t)) (chunks : length (v'.belongings t).chunks ≡ length (v.belongings t).chunks)
    (new : (b : Addr) → In more b → (o : Located) × In (objects v t) o × (o.at ≡ b) × In snapshot (object_name o)) (G : CanGoOnMarking v t snapshot m) where
  of : (a : Addr) → In more a → IsInSnapshot G.fork (kept v t) a
  of a i = let o = new a i in subst (IsInSnapshot G.fork (kept v t)) o.2 ((G.snapshot o.0 o.1).1 o.3)

  more_followed : m.followed ≤ length (kept v' t)
  more_followed =
      let few : m.followed ≤ length (kept v t) = G.followed in
      let sum : length (kept v' t) ≡ length (kept v t) + length more = ap (λ (xs : List Addr). length xs) grows ∙ length-append (kept v t) more in
      omega (arith, few, sum)

  pub goes_on : CanGoOnMarking v' t snapshot m
  goes_on = record {
    fork = G.fork;
    marks = subst (λ ks. IsMarking G.fork ks m) (sym grows) (marking_goes_on G.fork (kept v t) more m G.followed G.marks);
    there = λ q i. (let o = were q i in subst (HasObjectAt G.fork.heap) (sym o.2) (G.there o.0 o.1));
    were = λ a h. (let o = G.were a h in let q = there o.0 o.1 in (q.0, q.1, q.2 ∙ o.2));
    overwritten = λ q a i c w.
        let o = were q i in
        let mine : v.owner a.chunk ≡ Some t = none_new a.chunk c in
        elim (G.overwritten o.0 a o.1 mine (subst (λ b. RefersTo G.fork.heap b a) o.2 w)) [
          | inl r ↦ o.4 a mine r
          | inr k ↦ inr (subst (λ ks. In ks a) (sym grows) (in_append_left (kept v t) more a k))
        ];
    snapshot = λ q i.
        let o = were q i in
        let s = G.snapshot o.0 o.1 in
        let same = same_snapshot G.fork (kept v t) more of q.at in (
          (λ w. subst (In snapshot) (sym o.3) (s.0 (subst (IsInSnapshot G.fork (kept v t)) o.2 (same.0 (subst (λ ks. IsInSnapshot G.fork ks q.at) grows w))))),
          (λ n. subst (λ ks. IsInSnapshot G.fork ks q.at) (sym grows) (same.1 (subst (IsInSnapshot G.fork (kept v t)) (sym o.2) (s.1 (subst (In snapshot) o.3 n))))),
        );
    once = G.once;
    marked = G.marked;
    followed = more_followed;
    slots = subst (λ n. n < length m.found + m.slots) (sym count) G.slots;
    spare = subst (λ n. n < length m.found + m.spare) (sym count) G.spare;
    places = subst (λ n. n ≤ m.places) (sym chunks) G.places;
  }
