-- A marking marks the snapshot.
use Rattle.mark_sweep_gc.proofs.Common.{◌≡◌, ℕ, zero, suc, ◌+◌, ◌<◌, ◌≤◌, List, [], ◌∷◌, ◌++◌, length, take, drop, sym, ap, ◌∙◌, subst, arith, ◌⊎◌, inl, inr, Contains, All, Some, slice_get, ◌↔◌, take_all, take-append-le, drop_all, length-append, length-take, Addr, ChunkValue, HasObjectAt, RefersTo, once_from, In, in_append_left, in_append_right, in_append_cases, contains_from_in, in_from_contains, got_in_take, in_take, in_take_more, reached_start, reached_within, FindsMore, IsAllMarked, IsMarking, IsOf, MarkingValue, marked_of, Fork, IsInSnapshot, IsSince, MarkStarts}
use Rattle.mark_sweep_gc.proofs.Addresses.{once_within}
use Rattle.mark_sweep_gc.proofs.Finding.{held_in, still_found}

-- ---- lists in two parts

in_take_or_drop : {X : Type 0} (n : ℕ) (xs : List X) (x : X) → In xs x → In (take n xs) x ⊎ In (drop n xs) x
in_take_or_drop zero xs x i = inr i
in_take_or_drop (suc n) [] x i = absurd i
in_take_or_drop (suc n) (y ∷ ys) x (inl e) = inl (inl e)
in_take_or_drop (suc n) (y ∷ ys) x (inr i) = elim (in_take_or_drop n ys x i) [ inl j ↦ inl (inr j) | inr j ↦ inr j ]

pub in_drop : {X : Type 0} (n : ℕ) (xs : List X) (x : X) → In (drop n xs) x → In xs x
in_drop zero xs x i = i
in_drop (suc n) [] x i = absurd i
in_drop (suc n) (y ∷ ys) x i = inr (in_drop n ys x i)

pub take_grown : (xs ys rest : List Addr) (n : ℕ) → ys ≡ xs ++ rest → n ≤ length xs → take n ys ≡ take n xs
take_grown xs ys rest n e l = ap (λ (zs : List Addr). take n zs) e ∙ take-append-le n xs rest l

take_more_is : (xs ys rest : List Addr) (n : ℕ) → ys ≡ xs ++ rest → n < length xs → take (n + 1) ys ≡ take (n + 1) xs
take_more_is xs ys rest n e l = take_grown xs ys rest (n + 1) e (omega arith)

pub none_left : (n : ℕ) (xs : List Addr) → n ≡ length xs → (a : Addr) → Contains (drop n xs) a → ⊥
none_left n xs e a c = let d : drop n xs ≡ [] = drop_all n xs (omega arith) in in_from_contains [] a (subst (λ (ys : List Addr). Contains ys a) d c)

pub still_within : (xs ys rest : List Addr) (n m : ℕ) → ys ≡ xs ++ rest → n < length xs → m ≡ n + 1 → m ≤ length ys
still_within xs ys rest n m e l i =
    let sum : length (xs ++ rest) ≡ length xs + length rest = length-append xs rest in
    let all : length ys ≡ length (xs ++ rest) = ap (λ (zs : List Addr). length zs) e in
    omega arith

-- ---- the steps

module _ (f : Fork) (kept : List Addr) where
  -- what was kept is in the snapshot
  pub kept_starts : (h : List ChunkValue) → IsSince f kept h → All (HasObjectAt h) kept → (a : Addr) → Contains kept a → IsInSnapshot f kept a
  kept_starts h s all a c =
      reached_start (MarkStarts f kept) (RefersTo f.heap) a ((s.objects a).1 (held_in (HasObjectAt h) kept a all c), contains_from_in (f.roots ++ kept) a (in_append_right f.roots kept a (in_from_contains kept a c)))

  pub begun : (h : List ChunkValue) (roots : List Addr) (old m : MarkingValue) → f.roots ≡ roots → ((a : Addr) → HasObjectAt f.heap a ↔ HasObjectAt h a) → All (HasObjectAt h) roots
      → old.found ≡ [] → FindsMore (Contains roots) old m → m.marked ≡ 0 → m.followed ≡ 0 → IsMarking f kept m
  begun h roots old m same objects all none finds zero_marked zero_followed = record {
    each = λ a i. elim (finds.each a i) [
      | inl j ↦ absurd (in_from_contains [] a (subst (λ (xs : List Addr). Contains xs a) none j))
      | inr r ↦ reached_start (MarkStarts f kept) (RefersTo f.heap) a ((objects a).1 (held_in (HasObjectAt h) roots a all r), contains_from_in (f.roots ++ kept) a (in_append_left f.roots kept a (subst (λ (xs : List Addr). In xs a) (sym same) (in_from_contains roots a r))))
    ];
    roots_found = λ a r. finds.all a (subst (λ (xs : List Addr). Contains xs a) same r);
    kept_found = λ a c. absurd (in_from_contains [] a (subst (λ (n : ℕ). Contains (take n kept) a) zero_followed c));
    led = λ b a c l. absurd (in_from_contains [] b (subst (λ (n : ℕ). Contains (take n m.found) b) zero_marked c));
  }

  -- what was kept is followed
  pub followed : (h : List ChunkValue) (old new : MarkingValue) → IsSince f kept h → All (HasObjectAt h) kept → IsOf h kept old
      → FindsMore (Contains (drop old.followed kept)) (record old { followed = length kept }) new → IsMarking f kept old → IsMarking f kept new
  followed h old new s all own finds m =
      let P : Addr → Type 0 = Contains (drop old.followed kept) in
      let was : MarkingValue = record old { followed = length kept } in
      let still = still_found P was new finds in
      record {
        each = λ a i. elim (finds.each a i) [
          | inl j ↦ m.each a j
          | inr d ↦ kept_starts h s all a (contains_from_in kept a (in_drop old.followed kept a (in_from_contains (drop old.followed kept) a d)))
        ];
        roots_found = λ a r. still a (m.roots_found a r);
        kept_found = λ a c. elim (in_take_or_drop old.followed kept a (in_take new.followed kept a (in_from_contains (take new.followed kept) a c))) [
          | inl t ↦ still a (m.kept_found a (contains_from_in (take old.followed kept) a t))
          | inr d ↦ finds.all a (contains_from_in (drop old.followed kept) a d)
        ];
        led = λ b a c l.
            let n : take new.marked new.found ≡ take old.marked old.found = ap (λ (k : ℕ). take k new.found) finds.marked ∙ take_grown old.found new.found finds.grown.0 old.marked finds.grown.1 own.marked in
            elim (m.led b a (subst (λ (xs : List Addr). Contains xs b) n c) l) [
              | inl i ↦ inl (still a i)
              | inr d ↦ inl (finds.all a d)
            ];
      }

  -- one more object is marked
  pub marked_next : (h : List ChunkValue) (old new : MarkingValue) (next : Addr) → IsSince f kept h → slice_get old.found old.marked ≡ Some next → old.marked < length old.found → old.followed ≡ length kept
      → FindsMore (RefersTo h next) (record old { marked = old.marked + 1 }) new → IsMarking f kept old → IsMarking f kept new
  marked_next h old new next s at l done finds m =
      let was : MarkingValue = record old { marked = old.marked + 1 } in
      let still = still_found (RefersTo h next) was new finds in
      let all_kept : (a : Addr) → Contains kept a → Contains (take old.followed kept) a = λ (a : Addr) (k : Contains kept a). subst (λ (xs : List Addr). Contains xs a) (sym (take_all old.followed kept (omega arith))) k in
      let here : IsInSnapshot f kept next = m.each next (contains_from_in old.found next (in_take (old.marked + 1) old.found next (got_in_take old.found old.marked next at))) in
      record {
        each = λ a i. elim (finds.each a i) [ inl j ↦ m.each a j | inr g ↦ s.written next a here g ];
        roots_found = λ a r. still a (m.roots_found a r);
        kept_found = λ a c. still a (m.kept_found a (subst (λ (n : ℕ). Contains (take n kept) a) finds.followed c));
        led = λ b a c g.
            let n : take new.marked new.found ≡ take (old.marked + 1) old.found = ap (λ (k : ℕ). take k new.found) finds.marked ∙ take_more_is old.found new.found finds.grown.0 old.marked finds.grown.1 l in
            elim (in_take_more old.found old.marked next b at (in_from_contains (take (old.marked + 1) old.found) b (subst (λ (xs : List Addr). Contains xs b) n c))) [
              | inl t ↦ elim (m.led b a (contains_from_in (take old.marked old.found) b t) g) [
                | inl i ↦ inl (still a i)
                | inr d ↦ absurd (none_left old.followed kept done a d)
              ]
              | inr e ↦ elim (s.overwritten b a g) [
                | inl r ↦ inl (finds.all a (subst (λ (x : Addr). RefersTo h x a) (sym e) r))
                | inr k ↦ inl (still a (m.kept_found a (all_kept a k)))
              ]
            ];
      }

  -- nothing is left to mark
  pub nothing_left : (m : MarkingValue) → IsMarking f kept m → m.marked ≡ length m.found → ((a : Addr) → Contains (drop m.followed kept) a → Contains m.found a) → IsAllMarked f kept m
  nothing_left m is l rest a w =
      let all : take m.marked m.found ≡ m.found = take_all m.marked m.found (omega arith) in
      subst (λ (xs : List Addr). Contains xs a) (sym all) (reached_within (MarkStarts f kept) (RefersTo f.heap) (Contains m.found)
      (λ x s. elim (in_append_cases f.roots kept x (in_from_contains (f.roots ++ kept) x s.1)) [
        | inl r ↦ is.roots_found x (contains_from_in f.roots x r)
        | inr k ↦ elim (in_take_or_drop m.followed kept x k) [
          | inl t ↦ is.kept_found x (contains_from_in (take m.followed kept) x t)
          | inr d ↦ rest x (contains_from_in (drop m.followed kept) x d)
        ]
      ])
      (λ b x c g. elim (is.led b x (subst (λ (xs : List Addr). Contains xs b) (sym all) c) g) [ inl i ↦ i | inr d ↦ rest x d ])
      a w)

  -- if the whole snapshot is marked, all that was found is, and all that was kept is found
  pub all_found_marked : (h : List ChunkValue) (m : MarkingValue) → IsOf h kept m → IsMarking f kept m → IsAllMarked f kept m → m.marked ≡ length m.found
  all_found_marked h m own is all =
      let le : length m.found ≤ length (take m.marked m.found) = once_within m.found (take m.marked m.found) (once_from m.found own.room.once) (λ a i. in_from_contains (take m.marked m.found) a (all a (is.each a (contains_from_in m.found a i)))) in
      let few : length (take m.marked m.found) ≤ m.marked = omega (arith, length-take m.marked m.found) in
      let within : m.marked ≤ length m.found = own.marked in
      omega arith

  pub all_kept_found : (h : List ChunkValue) (m : MarkingValue) → IsSince f kept h → All (HasObjectAt h) kept → IsAllMarked f kept m → (a : Addr) → Contains kept a → Contains m.found a
  all_kept_found h m s held all a c = contains_from_in m.found a (in_take m.marked m.found a (in_from_contains (marked_of m) a (all a (kept_starts h s held a c))))
