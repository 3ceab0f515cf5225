-- The meaning of a relocation list, in any order.
use Rattle.collected_heap_laws.proofs.Common.{◌≡◌, ◌<◌, false, List, [], ◌∷◌, map, refl, sym, ap, ◌∙◌, subst, inl, inr, Option, Some, None, reverse, unwrap_or, IsPermutation, cases_Bool, Contains-permutation, IsPermutation-map, IsPermutation-sym, In, contains_from_in, in_from_contains, map_in, Addr, ChunkValue, cell_of, has_chunk, Once, is_same, once_from, same_is, fresh_none, LeafHeapValue, ArePlaces, new_of, same_address, Survivor, olds, nothing_laid, laid_one, relocations, smalls, HaveRoom, Laying, redirected, moves_of, AreSurvivors, CanTake, once_sorted, first_in, firsts, in_first, MovesAreTold}
use Rattle.object_layout.proofs.ChunkLaws as laws
use Rattle.copying_gc.proofs.Moves as moves
use Rattle.address_laws.proofs.Numbers as nums
use Rattle.collected_heap_laws.proofs.Reading as reading

abbrev Moved : Type 0
Moved = Addr × Addr

-- ---- a list with distinct old addresses

none_by : (ms : List Moved) (a : Addr) → (In (map first_in ms) a → ⊥) → new_of ms a ≡ None
none_by [] a n = refl
none_by (m ∷ ms) a n = rw (moves.addr_other m.0 a (λ e. n (inl e))) (none_by ms a (λ i. n (inr i)))

-- a move is found by its old address
pub some_by : (ms : List Moved) (m : Moved) → Once (map first_in ms) → In ms m → new_of ms m.0 ≡ Some m.1
some_by [] m o i = absurd i
some_by (x ∷ ms) m o (inl e) = rw (is_same x.0 m.0 (ap (λ (p : Moved). p.0) e)) (ap (λ (p : Moved). Some p.1) e)
some_by (x ∷ ms) m o (inr i) =
    rw (moves.addr_other x.0 m.0 (λ e. o.0 (contains_from_in (map first_in ms) x.0 (subst (In (map first_in ms)) (sym e) (in_first ms m i))))) (some_by ms m o.1 i)

found_by : (ms : List Moved) (a : Addr) → new_of ms a ≡ None → Once (map first_in ms) → In (map first_in ms) a → ⊥
found_by ms a e o i =
    let r = map_in first_in ms a i in
    let s : new_of ms a ≡ Some r.0.1 = ap (new_of ms) (sym r.2) ∙ some_by ms r.0 o r.1 in
    cc

-- what is found is a move
picked : (ms : List Moved) (a b : Addr) → new_of ms a ≡ Some b → (m : Moved) × In ms m × (m.0 ≡ a)
picked [] a b e = absurd (let z : None ≡ Some b = e in cc)
picked (x ∷ ms) a b e = elim (cases_Bool (same_address x.0 a)) [
  | inl t ↦ (x, inl refl, same_is x.0 a t)
  | inr f ↦ let r = picked ms a b (rw f at e) in (r.0, inr r.1, r.2)
]

-- lists with the same moves map addresses alike
abbrev AreSame : List Moved → List Moved → Type 0
AreSame ms ns = (m : Moved) → In ms m → In ns m

same_by : (ms ns : List Moved) (a : Addr) → Once (map first_in ms) → Once (map first_in ns) → AreSame ms ns → AreSame ns ms → (o : Option Addr) → new_of ms a ≡ o → new_of ns a ≡ o
same_by ms ns a once once' to from None e =
    none_by ns a (λ i. let r = map_in first_in ns a i in found_by ms a e once (subst (In (map first_in ms)) r.2 (in_first ms r.0 (from r.0 r.1))))
same_by ms ns a once once' to from (Some b) e =
    let r = picked ms a b e in
    ap (new_of ns) (sym r.2) ∙ (some_by ns r.0 once' (to r.0 r.1) ∙ (sym (some_by ms r.0 once r.1) ∙ (ap (new_of ms) r.2 ∙ e)))

-- the moves of survivors have distinct old addresses
pub once_moves : (ks : List ChunkValue) (from : List (Option Addr)) (ss : List Survivor) (spare : List ChunkValue) → AreSurvivors ks from ss → Once (map first_in (moves_of ks ss spare))
once_moves ks from ss spare s = subst Once (sym (firsts (nothing_laid spare) ks (smalls ks (olds ss)))) (moves.once_smalls ks (olds ss) (once_from (olds ss) s.once))

-- ---- places

places_of : (y : Laying) (h : List ChunkValue) (xs : List Addr) → HaveRoom y h xs → (m : Moved) → In (relocations y h xs) m → m.1.offset < 1024
places_of y h [] room m i = absurd i
places_of y h (x ∷ xs) room m (inl e) = subst (λ (p : Moved). p.1.offset < 1024) e room.0.1
places_of y h (x ∷ xs) room m (inr i) = places_of (laid_one y (cell_of h x)) h xs room.1 m i

all_places : (ms : List Moved) → ((m : Moved) → In ms m → m.1.offset < 1024) → ArePlaces ms
all_places [] f = tt
all_places (m ∷ ms) f = (f m (inl refl), all_places ms (λ x i. f x (inr i)))

-- ---- the law

module _ (h : LeafHeapValue) (from : List (Option Addr)) (ss : List Survivor) (news : List ChunkValue) (moved : List Moved) (s : AreSurvivors h.chunks from ss) (t : CanTake h.chunks news)
    (p : IsPermutation (moves_of h.chunks ss (reverse news)) moved) where
  abbrev all : List Moved
  all = moves_of h.chunks ss (reverse news)

  to : AreSame all moved
  to m i = in_from_contains moved m (Contains-permutation all moved m p (contains_from_in all m i))

  back : AreSame moved all
  back m i = in_from_contains all m (Contains-permutation moved all m (IsPermutation-sym all moved p) (contains_from_in moved m i))

  firsts_are : map first_in all ≡ smalls h.chunks (olds ss)
  firsts_are = firsts (nothing_laid (reverse news)) h.chunks (smalls h.chunks (olds ss))

  once_all : Once (map first_in all)
  once_all = once_moves h.chunks from ss (reverse news) s

  once_moved : Once (map first_in moved)
  once_moved = once_sorted (map first_in all) (map first_in moved) (IsPermutation-map first_in all moved p) once_all

  pub same_new_address : (a : Addr) → new_of moved a ≡ new_of all a
  same_new_address a = same_by all moved a once_all once_moved to back (new_of all a) refl

  pub leads : (r : Option Addr) → redirected moved r ≡ redirected all r
  leads None = refl
  leads (Some a) = ap (λ (o : Option Addr). Some (unwrap_or o a)) (same_new_address a)

  pub places : ArePlaces moved
  places = all_places moved (λ m i. places_of (nothing_laid (reverse news)) h.chunks (smalls h.chunks (olds ss)) (reading.room h from ss news s t) m (back m i))

  pub outside : (a : Addr) → has_chunk h.chunks a.chunk ≡ false → new_of moved a ≡ None
  outside a out =
      none_by moved a
      (λ i.
      let r = map_in first_in moved a i in
      let j : In (smalls h.chunks (olds ss)) a = subst (λ (xs : List Addr). In xs a) firsts_are (subst (In (map first_in all)) r.2 (in_first all r.0 (back r.0 r.1))) in
      let object = laws.born_object h.chunks a (reading.small h from ss news s t a j).0 in
      nums.fresh_none h.chunks a.chunk ((fresh_none h.chunks a.chunk).1 out) (reading.object_number h.chunks a object))

pub moves_are_told : MovesAreTold
moves_are_told h from ss news moved s t p = record {
  places = places h from ss news moved s t p;
  same = same_new_address h from ss news moved s t p;
  leads = leads h from ss news moved s t p;
  outside = outside h from ss news moved s t p;
}
