-- A marking between two calls.
use Rattle.std.proofs.Common.{length-append}
use Rattle.mark_sweep_gc.proofs.Common.{◌≡◌, ℕ, zero, suc, ◌+◌, ◌<◌, ◌≤◌, List, [], ◌∷◌, ◌++◌, length, drop, subst, arith, ◌⊎◌, inl, inr, Contains, take-append-le, Addr, ChunkValue, RefersTo, In, in_append_left, in_append_right, in_append_cases, contains_from_in, in_from_contains, reached_start, reached_more, reached_within, MarkingGoesOn, MarkingStaysOf, SnapshotIsOfRoots, Fork, IsInSnapshot, MarkStarts, object_count}

-- more starts lead to more
more_starts : (f : Fork) (kept others : List Addr) → ((a : Addr) → MarkStarts f kept a → MarkStarts f others a) → (a : Addr) → IsInSnapshot f kept a → IsInSnapshot f others a
more_starts f kept others h a w =
    reached_within (MarkStarts f kept) (RefersTo f.heap) (IsInSnapshot f others)
    (λ x s. reached_start (MarkStarts f others) (RefersTo f.heap) x (h x s))
    (λ b x r g. reached_more (MarkStarts f others) (RefersTo f.heap) b x r g)
    a w

in_snapshot_more : (f : Fork) (kept more : List Addr) (a : Addr) → IsInSnapshot f kept a → IsInSnapshot f (kept ++ more) a
in_snapshot_more f kept more = more_starts f kept (kept ++ more)
    (λ a s. (
      s.0,
      contains_from_in (f.roots ++ (kept ++ more)) a (elim (in_append_cases f.roots kept a (in_from_contains (f.roots ++ kept) a s.1)) [
        | inl i ↦ in_append_left f.roots (kept ++ more) a i
        | inr i ↦ in_right f.roots (kept ++ more) a (in_append_left kept more a i)
      ]),
    ))
  where
    in_right : (xs ys : List Addr) (a : Addr) → In ys a → In (xs ++ ys) a
    in_right [] ys a i = i
    in_right (x ∷ xs) ys a i = inr (in_right xs ys a i)

in_drop_more : (n : ℕ) (xs ys : List Addr) (a : Addr) → In (drop n xs) a → In (drop n (xs ++ ys)) a
in_drop_more zero xs ys a i = in_append_left xs ys a i
in_drop_more (suc n) [] ys a i = absurd i
in_drop_more (suc n) (x ∷ xs) ys a i = in_drop_more n xs ys a i

abbrev fork_of : List ChunkValue → List Addr → Fork
fork_of h roots = record { heap = h; roots = roots }

in_both : (roots kept : List Addr) (a : Addr) → Contains roots a ⊎ Contains kept a → Contains (roots ++ kept) a
in_both roots kept a (inl c) = contains_from_in (roots ++ kept) a (in_append_left roots kept a (in_from_contains roots a c))
in_both roots kept a (inr c) = contains_from_in (roots ++ kept) a (in_append_right roots kept a (in_from_contains kept a c))

pub snapshot_is_of_roots : SnapshotIsOfRoots
snapshot_is_of_roots h first roots kept all found a = (
  (λ w. reached_within (MarkStarts (fork_of h roots) kept) (RefersTo h) (IsInSnapshot (fork_of h first) []) all
      (λ b x r g. reached_more (MarkStarts (fork_of h first) []) (RefersTo h) b x r g)
      a w),
  (λ w. reached_within (MarkStarts (fork_of h first) []) (RefersTo h) (IsInSnapshot (fork_of h roots) kept)
      (λ x s. reached_start (MarkStarts (fork_of h roots) kept) (RefersTo h) x (s.0, in_both roots kept x (found x s)))
      (λ b x r g. reached_more (MarkStarts (fork_of h roots) kept) (RefersTo h) b x r g)
      a w),
)

pub marking_goes_on : MarkingGoesOn
marking_goes_on f kept more m l is = record {
  each = λ a c. in_snapshot_more f kept more a (is.each a c);
  roots_found = is.roots_found;
  kept_found = λ a c. is.kept_found a (subst (λ (xs : List Addr). Contains xs a) (take-append-le m.followed kept more l) c);
  led = λ b a c g. elim (is.led b a c g) [
    | inl i ↦ inl i
    | inr d ↦ inr (contains_from_in (drop m.followed (kept ++ more)) a (in_drop_more m.followed kept more a (in_from_contains (drop m.followed kept) a d)))
  ];
}

pub marking_stays_of : MarkingStaysOf
marking_stays_of g h kept more m held count chunks of =
    let slots : object_count g < length m.found + m.slots = of.room.slots in
    let spare : object_count g < length m.found + m.spare = of.room.spare in
    let places : length g ≤ m.places = of.room.places in
    let sum : length (kept ++ more) ≡ length kept + length more = length-append kept more in
    let few : m.followed ≤ length kept = of.followed in
    record {
      room = record {
        each = λ a c. held a (of.room.each a c);
        once = of.room.once;
        slots = omega arith;
        spare = omega arith;
        places = omega arith;
      };
      marked = of.marked;
      followed = omega arith;
    }
