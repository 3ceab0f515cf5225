-- From the remaining old chunks to the collected heap.
use Rattle.copying_gc.proofs.Common.{◌≡◌, ℕ, ◌+◌, ◌<◌, List, [], ◌++◌, length, map, filter, fold, refl, sym, ap, ◌∙◌, subst, arith, Option, Some, None, reverse, length-map, reverse-reverse, nil_from_length, ChunkValue, chunk_at, Once, HaveDistinctNumbers, AreTidy, LeafHeapValue, IsReserved, IsCurrent, IsSettled, exchanged, with_places, In, in_append_left, numbers, Distinct, Survivor, olds, with_chunks, HaveNames, nothing_laid, smalls, AreNew, led_chunk, emptied, goes, stays, unreserved, reserved_of, reserved_place, with_birth_name, last_place, CanName, IsVacated, keeps, leaves, laying_of, redirection}
use Rattle.address_laws.proofs.Numbers as nums
use Rattle.copying_gc.proofs.NewNumbers as new_numbers
use Rattle.copying_gc.proofs.NewNumbers.{Within, within_at}
use Rattle.copying_gc.proofs.Rebuilt as rebuilt
use Rattle.copying_gc.proofs.Rebuilt.{marked_chunk, NoneThere, none_at}
use Rattle.copying_gc.proofs.Naming as naming
use Rattle.copying_gc.proofs.Tidied as tidied

-- the chunks h after the survivors ss were evacuated to new ones: g of those that were there, and laid
pub record AreEvacuated (h g : List ChunkValue) (ss : List Survivor) (news laid : List ChunkValue) : Type 0 where
  pub vacated : IsVacated h g (olds ss) (redirection h ss (reverse news))
  pub tidy : AreTidy h
  pub apart : HaveDistinctNumbers (h ++ news)
  pub new : AreNew news
  pub once : Once (olds ss)
  pub names : HaveNames h ss
  pub placed : laid ≡ map (led_chunk (redirection h ss (reverse news))) (laying_of h ss (reverse news)).laid

module _ {h g : List ChunkValue} {ss : List Survivor} {news laid : List ChunkValue} (are : AreEvacuated h g ss news laid) (r : Option ℕ) (reserved : IsReserved g r) where
  all_once : Distinct (numbers h ++ numbers news)
  all_once = subst Distinct (nums.numbers_append h news) (nums.apart_distinct (h ++ news) are.apart)

  once_h : Distinct (numbers h)
  once_h = nums.distinct_left (numbers h) (numbers news) all_once

  once_news : Distinct (numbers (reverse news))
  once_news = nums.distinct_reverse news (nums.distinct_right (numbers h) (numbers news) all_once)

  laid_numbers : numbers laid ≡ numbers (laying_of h ss (reverse news)).laid
  laid_numbers = ap numbers are.placed ∙ nums.numbers_of_map (led_chunk (redirection h ss (reverse news))) (λ k. refl) (laying_of h ss (reverse news)).laid

  laid_parts : numbers (laying_of h ss (reverse news)).laid ++ numbers (laying_of h ss (reverse news)).spare ≡ numbers (reverse news)
  laid_parts = new_numbers.laid_numbers (nothing_laid (reverse news)) h (smalls h (olds ss))

  laid_once : Distinct (numbers laid)
  laid_once = subst Distinct (sym laid_numbers) (nums.distinct_left (numbers (laying_of h ss (reverse news)).laid) (numbers (laying_of h ss (reverse news)).spare) (subst Distinct (sym laid_parts) once_news))

  laid_apart : (n : ℕ) → In (numbers laid) n → In (numbers h) n → ⊥
  laid_apart n i j =
      let k = subst (λ (ns : List ℕ). In ns n) laid_parts (in_append_left (numbers (laying_of h ss (reverse news)).laid) (numbers (laying_of h ss (reverse news)).spare) n (subst (λ (ns : List ℕ). In ns n) laid_numbers i)) in
      nums.distinct_apart_parts (numbers h) (numbers news) all_once n j (nums.in_reverse news n k)

  within_before : (o : Option ℕ) → Within g o → Within h o
  within_before None w = tt
  within_before (Some i) w = let n = nums.alike_length h g are.vacated.alike in let l : i < length g = w in omega arith

  within : Within h r
  within = within_before r (within_at g r reserved)

  reserved_is : reserved_of g r ≡ reserved_of h r
  reserved_is = rebuilt.reserved_same h g r are.vacated.alike (none_at g r reserved)

  none_before : (o : Option ℕ) → reserved_of g o ≡ reserved_of h o → NoneThere g o → NoneThere h o
  none_before None e n = tt
  none_before (Some i) e n = let same : chunk_at g i ≡ chunk_at h i = cc in ap (λ (k : ChunkValue). k.cells) (sym same) ∙ n

  pairs : rebuilt.ArePairs ss (redirection h ss (reverse news)) (unreserved h r) (unreserved g r)
  pairs = rebuilt.pairs_unreserved ss (redirection h ss (reverse news)) h g r
      (rebuilt.pairs ss (redirection h ss (reverse news)) h g are.vacated.alike are.tidy once_h (λ a i. (are.vacated.large a, are.vacated.others a)))

  stay_is : filter stays (unreserved g r) ≡ map (marked_chunk ss (redirection h ss (reverse news))) (filter (keeps ss) (unreserved h r))
  stay_is = rebuilt.stay_same ss (redirection h ss (reverse news)) (unreserved h r) (unreserved g r) pairs

  pub go_is : map emptied (filter goes (unreserved g r)) ≡ map emptied (filter (leaves ss) (unreserved h r))
  go_is = rebuilt.go_same ss (redirection h ss (reverse news)) (unreserved h r) (unreserved g r) pairs

  now_is : laid ++ (filter stays (unreserved g r) ++ reserved_of g r) ≡ naming.Now h ss (redirection h ss (reverse news)) r laid are.tidy once_h are.once are.names laid_apart laid_once within (none_before r reserved_is (none_at g r reserved))
  now_is = ap (λ (xs : List ChunkValue). laid ++ (xs ++ reserved_of g r)) stay_is ∙ ap (λ (xs : List ChunkValue). laid ++ (map (marked_chunk ss (redirection h ss (reverse news))) (filter (keeps ss) (unreserved h r)) ++ xs)) reserved_is

  pub now_apart : HaveDistinctNumbers (laid ++ (filter stays (unreserved g r) ++ reserved_of g r))
  now_apart = subst HaveDistinctNumbers (sym now_is) (nums.distinct_apart _ (naming.now_once h ss (redirection h ss (reverse news)) r laid are.tidy once_h are.once are.names laid_apart laid_once within (none_before r reserved_is (none_at g r reserved))))

  pub can_name : CanName (laid ++ (filter stays (unreserved g r) ++ reserved_of g r)) ss
  can_name = subst (λ (ks : List ChunkValue). CanName ks ss) (sym now_is) (naming.ready h ss (redirection h ss (reverse news)) r laid are.tidy once_h are.once are.names laid_apart laid_once within (none_before r reserved_is (none_at g r reserved)))

  pub named_is : fold with_birth_name (laid ++ (filter stays (unreserved g r) ++ reserved_of g r)) ss ≡ laid ++ (map (led_chunk (redirection h ss (reverse news))) (filter (keeps ss) (unreserved h r)) ++ reserved_of h r)
  named_is = ap (λ (ks : List ChunkValue). fold with_birth_name ks ss) now_is ∙ naming.named_is_goal h ss (redirection h ss (reverse news)) r laid are.tidy once_h are.once are.names laid_apart laid_once within (none_before r reserved_is (none_at g r reserved))

  pub small_last : IsCurrent laid (last_place laid)
  small_last = new_numbers.current_last laid (subst new_numbers.AreSmall (sym are.placed) (new_numbers.small_of_map (led_chunk (redirection h ss (reverse news))) (λ k. refl) (laying_of h ss (reverse news)).laid (new_numbers.laid_small (nothing_laid (reverse news)) h (smalls h (olds ss)) tt (new_numbers.new_reverse news are.new))))

  pub kept_count : length (filter stays (unreserved g r)) ≡ length (map (led_chunk (redirection h ss (reverse news))) (filter (keeps ss) (unreserved h r)))
  kept_count =
      ap (λ (xs : List ChunkValue). length xs) stay_is
      ∙ (length-map (filter (keeps ss) (unreserved h r)) (marked_chunk ss (redirection h ss (reverse news))) ∙ sym (length-map (filter (keeps ss) (unreserved h r)) (led_chunk (redirection h ss (reverse news)))))

  -- if no chunk stays, nothing is named
  pub none_named : filter stays (unreserved g r) ≡ [] → fold with_birth_name (laid ++ (filter stays (unreserved g r) ++ reserved_of g r)) ss ≡ laid ++ (filter stays (unreserved g r) ++ reserved_of g r)
  none_named e =
      let none : map (led_chunk (redirection h ss (reverse news))) (filter (keeps ss) (unreserved h r)) ≡ [] = nil_from_length _ (sym kept_count ∙ ap (λ (xs : List ChunkValue). length xs) e) in
      named_is ∙ (ap (λ (xs : List ChunkValue). laid ++ (xs ++ reserved_of h r)) (none ∙ sym e) ∙ ap (λ (xs : List ChunkValue). laid ++ (filter stays (unreserved g r) ++ xs)) (sym reserved_is))

  pub settled : IsSettled (laid ++ (map (led_chunk (redirection h ss (reverse news))) (filter (keeps ss) (unreserved h r)) ++ reserved_of h r))
  settled = record {
    tidy = tidied.all_tidy (redirection h ss (reverse news)) h ss news r are.tidy are.new within laid are.placed;
    apart = nums.distinct_apart _ (naming.goal_once h ss (redirection h ss (reverse news)) r laid are.tidy once_h are.once are.names laid_apart laid_once within (none_before r reserved_is (none_at g r reserved)));
  }

  pub settled_now : (E M N : LeafHeapValue) → E.chunks ≡ laid ++ (filter stays (unreserved g r) ++ reserved_of g r) → M ≡ with_chunks E (fold with_birth_name E.chunks ss) → N ≡ record M { since = 0 } → IsSettled N.chunks
  settled_now E M N e m n = subst IsSettled (sym (ap (λ (x : LeafHeapValue). x.chunks) n ∙ (ap (λ (x : LeafHeapValue). x.chunks) m ∙ (ap (λ (ks : List ChunkValue). fold with_birth_name ks ss) e ∙ named_is)))) settled

  -- ---- the heap, field by field

  module _ (H : LeafHeapValue) (r_is : r ≡ H.reserved) where
    pub heap_is : H.chunks ≡ h → (E M N : LeafHeapValue) (G : LeafHeapValue)
        → E ≡ with_places (exchanged G (laid ++ (filter stays (unreserved g r) ++ reserved_of g r)) (last_place laid) (reserved_place (length laid + length (filter stays (unreserved g r))) r)) E.slots E.spare
        → M ≡ with_chunks E (fold with_birth_name E.chunks ss) → N ≡ record M { since = 0 }
        → N ≡ with_places (record H {
          chunks = map (led_chunk (redirection h ss (reverse news))) (laying_of h ss (reverse news)).laid ++ (map (led_chunk (redirection h ss (reverse news))) (filter (keeps ss) (unreserved h H.reserved)) ++ reserved_of h H.reserved);
          current = last_place (map (led_chunk (redirection h ss (reverse news))) (laying_of h ss (reverse news)).laid);
          reserved = reserved_place (length (map (led_chunk (redirection h ss (reverse news))) (laying_of h ss (reverse news)).laid) + length (map (led_chunk (redirection h ss (reverse news))) (filter (keeps ss) (unreserved h H.reserved)))) H.reserved;
          since = 0;
        }) N.slots N.spare
    heap_is h_is E M N G e m n =
        let chunks = ap (λ (x : LeafHeapValue). x.chunks) n ∙ (ap (λ (x : LeafHeapValue). x.chunks) m ∙ (ap (λ (x : LeafHeapValue). fold with_birth_name x.chunks ss) e ∙ (named_is
        ∙ (ap (λ (o : Option ℕ). laid ++ (map (led_chunk (redirection h ss (reverse news))) (filter (keeps ss) (unreserved h o)) ++ reserved_of h o)) r_is
        ∙ ap (λ (ks : List ChunkValue). ks ++ (map (led_chunk (redirection h ss (reverse news))) (filter (keeps ss) (unreserved h H.reserved)) ++ reserved_of h H.reserved)) are.placed)))) in
        let current = ap (λ (x : LeafHeapValue). x.current) n ∙ (ap (λ (x : LeafHeapValue). x.current) m ∙ (ap (λ (x : LeafHeapValue). x.current) e ∙ ap last_place are.placed)) in
        let place = ap (λ (x : LeafHeapValue). x.reserved) n ∙ (ap (λ (x : LeafHeapValue). x.reserved) m ∙ (ap (λ (x : LeafHeapValue). x.reserved) e
        ∙ (ap (λ (k : ℕ). reserved_place (length laid + k) r) kept_count
        ∙ (ap (λ (o : Option ℕ). reserved_place (length laid + length (map (led_chunk (redirection h ss (reverse news))) (filter (keeps ss) (unreserved h o)))) o) r_is
        ∙ ap (λ (ks : List ChunkValue). reserved_place (length ks + length (map (led_chunk (redirection h ss (reverse news))) (filter (keeps ss) (unreserved h H.reserved)))) H.reserved) are.placed)))) in
        let since = ap (λ (x : LeafHeapValue). x.since) n in
        λ i. record { chunks = chunks i; current = current i; reserved = place i; since = since i; slots = N.slots; spare = N.spare }

    pub back_is : (old : List ChunkValue) → old ≡ [] → (rest : List ChunkValue) → reverse rest ≡ (laying_of h ss (reverse news)).spare → (back : List ChunkValue) → back ≡ old ++ map emptied (filter goes (unreserved g r))
        → back ++ rest ≡ map emptied (filter (leaves ss) (unreserved h H.reserved)) ++ reverse (laying_of h ss (reverse news)).spare
    back_is old none rest e back b =
        let first : back ≡ map emptied (filter (leaves ss) (unreserved h H.reserved)) = b ∙ (ap (λ (xs : List ChunkValue). xs ++ map emptied (filter goes (unreserved g r))) none ∙ (go_is ∙ ap (λ (o : Option ℕ). map emptied (filter (leaves ss) (unreserved h o))) r_is)) in
        let second : rest ≡ reverse (laying_of h ss (reverse news)).spare = sym (reverse-reverse rest) ∙ ap (λ (ks : List ChunkValue). reverse ks) e in
        ap (λ (xs : List ChunkValue). xs ++ rest) first ∙ ap (λ (ys : List ChunkValue). map emptied (filter (leaves ss) (unreserved h H.reserved)) ++ ys) second
