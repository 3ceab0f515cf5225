-- The result of the copying.
use Rattle.copying_gc.proofs.Common.{◌≡◌, ℕ, Bool, true, false, cond, List, [], ◌∷◌, ◌++◌, length, filter, fold, refl, sym, ap, ◌∙◌, subst, arith, inl, inr, eqb, eqb-true, Option, Some, None, nat_le, cases_Bool, and_parts, false≢true, append_assoc, append-nil, Addr, Birth, Cell, Mark, Born, Moved, IsBorn, IsObject, moved_to, size_of, with_mark, ChunkValue, cell_of, chunk_position, put_object, HasObjectAt, Once, is_same, new_of, same_address, In, contains_from_in, in_from_contains, in_map, addr_cases, length-put, place_of-put, Survivor, olds, old_of, all_found, found_in, IsTarget, Laying, is_moved, smalls, laid_one, laid_at, relocations, laid_all, ObjectFits, HaveRoom, CollectorValue, copied, copied_one, survivor_cell, CanBeCopied, new_address}
use Rattle.object_layout.proofs.ChunkLaws as laws
use Rattle.address_laws.proofs.Puts as puts
use Rattle.copying_gc.proofs.FoundLemmas as marks

-- ---- the list of what was moved

pub addr_other : (a b : Addr) → (a ≡ b → ⊥) → same_address a b ≡ false
addr_other a b n =
    elim (cases_Bool (same_address a b)) [
      | inl t ↦
          let both = and_parts (eqb a.chunk b.chunk) (eqb a.offset b.offset) t in
          let c : a.chunk ≡ b.chunk = eqb-true a.chunk b.chunk both.0 in
          let o : a.offset ≡ b.offset = eqb-true a.offset b.offset both.1 in
          absurd (n (λ i. record { chunk = c i; offset = o i }))
      | inr f ↦ f
    ]

pub new_none : (y : Laying) (h : List ChunkValue) (xs : List Addr) (a : Addr) → (In xs a → ⊥) → new_of (relocations y h xs) a ≡ None
new_none y h [] a n = refl
new_none y h (x ∷ xs) a n = rw (addr_other x a (λ e. n (inl e))) (new_none (laid_one y (cell_of h x)) h xs a (λ i. n (inr i)))

-- the small ones of these
abbrev pub small_ones : List ChunkValue → List Survivor → List Survivor
small_ones h ss = filter (λ s. is_moved h s.old) ss

olds_step : (h : List ChunkValue) (s : Survivor) (ss : List Survivor) → olds (small_ones h ss) ≡ smalls h (olds ss) → (b : Bool) → is_moved h s.old ≡ b →
    olds (cond b (s ∷ small_ones h ss) (small_ones h ss)) ≡ cond b (s.old ∷ smalls h (olds ss)) (smalls h (olds ss))
olds_step h s ss e true is = ap (λ (xs : List Addr). s.old ∷ xs) e
olds_step h s ss e false is = e

pub olds_small : (h : List ChunkValue) (ss : List Survivor) → olds (small_ones h ss) ≡ smalls h (olds ss)
olds_small h [] = refl
olds_small h (s ∷ ss) = olds_step h s ss (olds_small h ss) (is_moved h s.old) refl

in_small_step : (h : List ChunkValue) (s : Survivor) (ss : List Survivor) (t : Survivor) → (In (small_ones h ss) t → In ss t) → (b : Bool) → In (cond b (s ∷ small_ones h ss) (small_ones h ss)) t → In (s ∷ ss) t
in_small_step h s ss t rest true (inl e) = inl e
in_small_step h s ss t rest true (inr i) = inr (rest i)
in_small_step h s ss t rest false i = inr (rest i)

pub in_small : (h : List ChunkValue) (ss : List Survivor) (t : Survivor) → In (small_ones h ss) t → In ss t
in_small h [] t i = i
in_small h (s ∷ ss) t i = in_small_step h s ss t (in_small h ss t) (is_moved h s.old) i

-- of addresses
in_smalls_step : (h : List ChunkValue) (x : Addr) (xs : List Addr) (a : Addr) → (In (smalls h xs) a → In xs a × (is_moved h a ≡ true)) → (b : Bool) → is_moved h x ≡ b → In (cond b (x ∷ smalls h xs) (smalls h xs)) a → In (x ∷ xs) a × (is_moved h a ≡ true)
in_smalls_step h x xs a rest true is (inl e) = (inl e, subst (λ (y : Addr). is_moved h y ≡ true) e is)
in_smalls_step h x xs a rest true is (inr i) = let r = rest i in (inr r.0, r.1)
in_smalls_step h x xs a rest false is i = let r = rest i in (inr r.0, r.1)

pub in_smalls : (h : List ChunkValue) (xs : List Addr) (a : Addr) → In (smalls h xs) a → In xs a × (is_moved h a ≡ true)
in_smalls h [] a i = absurd i
in_smalls h (x ∷ xs) a i = in_smalls_step h x xs a (in_smalls h xs a) (is_moved h x) refl i

to_smalls_step : (h : List ChunkValue) (x : Addr) (xs : List Addr) (a : Addr) → (In xs a → In (smalls h xs) a) → is_moved h a ≡ true → (b : Bool) → is_moved h x ≡ b → In (x ∷ xs) a → In (cond b (x ∷ smalls h xs) (smalls h xs)) a
to_smalls_step h x xs a rest s true is (inl e) = inl e
to_smalls_step h x xs a rest s true is (inr i) = inr (rest i)
to_smalls_step h x xs a rest s false is (inl e) = absurd (false≢true (sym is ∙ (ap (is_moved h) e ∙ s)))
to_smalls_step h x xs a rest s false is (inr i) = rest i

pub to_smalls : (h : List ChunkValue) (xs : List Addr) (a : Addr) → In xs a → is_moved h a ≡ true → In (smalls h xs) a
to_smalls h [] a i s = i
to_smalls h (x ∷ xs) a i s = to_smalls_step h x xs a (λ j. to_smalls h xs a j s) s (is_moved h x) refl i

once_step : (h : List ChunkValue) (x : Addr) (xs : List Addr) → Once (smalls h xs) → (In xs x → ⊥) → (b : Bool) → Once (cond b (x ∷ smalls h xs) (smalls h xs))
once_step h x xs o n true = ((λ c. n ((in_smalls h xs x (in_from_contains (smalls h xs) x c)).0)), o)
once_step h x xs o n false = o

pub once_smalls : (h : List ChunkValue) (xs : List Addr) → Once xs → Once (smalls h xs)
once_smalls h [] o = tt
once_smalls h (x ∷ xs) o = once_step h x xs (once_smalls h xs o.1) (λ i. o.0 (contains_from_in xs x i)) (is_moved h x)

-- ---- the copying, step by step

target_mark : (g : List ChunkValue) (x to : Addr) (r : Option Addr) → IsTarget g r → IsTarget (put_object g x (with_mark (cell_of g x) (Moved to))) r
target_mark g x to None t = t
target_mark g x to (Some a) t =
    λ l.
    let p = place_of-put g x (with_mark (cell_of g x) (Moved to)) a.chunk in
    let n = length-put g x (with_mark (cell_of g x) (Moved to)) in
    let w = t (omega arith) in
    (puts.mark_object g x (Moved to) tt a w.0, w.1)

module _ (h : List ChunkValue) where
  -- these objects are in the old heap unchanged, except for their marks
  abbrev pub AreAs : List ChunkValue → List Survivor → Type 0
  AreAs old ss = (s : Survivor) → In ss s → (survivor_cell old s ≡ cell_of h s.old) × IsObject (cell_of old s.old).mark

  pub same_small : (old : List ChunkValue) (s : Survivor) → survivor_cell old s ≡ cell_of h s.old → is_moved old s.old ≡ is_moved h s.old
  same_small old s e = ap (λ (c : Cell). nat_le (size_of c) 1024) e

  step_as : (k : CollectorValue) (s : Survivor) (ss : List Survivor) → (In (olds ss) s.old → ⊥) → AreAs k.heap.chunks ss → AreAs (copied_one k s).heap.chunks ss
  step_as k s ss n as' t i =
      let other = puts.mark_other k.heap.chunks s.old (Moved (laid_at k.laying (size_of (cell_of k.heap.chunks s.old)))) t.old (λ e. n (subst (In (olds ss)) (sym e) (in_map old_of ss t i))) in
      (ap (λ (c : Cell). with_mark c (Born t.birth)) other ∙ (as' t i).0, subst (λ (c : Cell). IsObject c.mark) (sym other) (as' t i).1)

  not_again : (s : Survivor) (ss : List Survivor) → Once (olds (s ∷ ss)) → In (olds ss) s.old → ⊥
  not_again s ss o i = o.0 (contains_from_in (olds ss) s.old i)

  -- only the small ones are copied
  small_step : (k : CollectorValue) (s : Survivor) (ss : List Survivor) → Once (olds (s ∷ ss)) → AreAs k.heap.chunks (s ∷ ss)
      → ((k' : CollectorValue) → AreAs k'.heap.chunks ss → fold copied k' ss ≡ fold copied_one k' (small_ones h ss))
      → (b : Bool) → is_moved h s.old ≡ b → fold copied (cond b (copied_one k s) k) ss ≡ fold copied_one k (cond b (s ∷ small_ones h ss) (small_ones h ss))
  small_step k s ss o as' rest true is = rest (copied_one k s) (step_as k s ss (not_again s ss o) (λ t i. as' t (inr i)))
  small_step k s ss o as' rest false is = rest k (λ t i. as' t (inr i))

  pub small_alone : (k : CollectorValue) (ss : List Survivor) → Once (olds ss) → AreAs k.heap.chunks ss → fold copied k ss ≡ fold copied_one k (small_ones h ss)
  small_alone k [] o as' = refl
  small_alone k (s ∷ ss) o as' =
      ap (λ (b : Bool). fold copied (cond b (copied_one k s) k) ss) (same_small k.heap.chunks s (as' s (inl refl)).0)
      ∙ small_step k s ss o as' (λ k' a. small_alone k' ss o.1 a) (is_moved h s.old) refl

  -- an object that fits can be copied
  ready_step : (k : CollectorValue) (s : Survivor) (ss : List Survivor) → Once (olds (s ∷ ss)) → AreAs k.heap.chunks (s ∷ ss)
      → ((k' : CollectorValue) → AreAs k'.heap.chunks ss → HaveRoom k'.laying h (smalls h (olds ss)) → CanBeCopied k' ss)
      → (b : Bool) → is_moved h s.old ≡ b → HaveRoom k.laying h (cond b (s.old ∷ smalls h (olds ss)) (smalls h (olds ss)))
      → (b ≡ true → ObjectFits k.laying (size_of (cell_of k.heap.chunks s.old))) × CanBeCopied (cond b (copied_one k s) k) ss
  ready_step k s ss o as' rest true is room =
      let e = (as' s (inl refl)).0 in (
        λ _. subst (λ (c : Cell). ObjectFits k.laying (size_of c)) (sym e) room.0,
        rest (copied_one k s) (step_as k s ss (not_again s ss o) (λ t i. as' t (inr i))) (subst (λ (c : Cell). HaveRoom (laid_one k.laying c) h (smalls h (olds ss))) (sym e) room.1),
      )
  ready_step k s ss o as' rest false is room = ((λ e. absurd (false≢true e)), rest k (λ t i. as' t (inr i)) room)

  pub are_ready : (k : CollectorValue) (ss : List Survivor) → Once (olds ss) → AreAs k.heap.chunks ss → HaveRoom k.laying h (smalls h (olds ss)) → CanBeCopied k ss
  are_ready k [] o as' room = tt
  are_ready k (s ∷ ss) o as' room =
      let same = same_small k.heap.chunks s (as' s (inl refl)).0 in
      let r = ready_step k s ss o as' (λ k' a q. are_ready k' ss o.1 a q) (is_moved h s.old) refl room in
      let t : (is_moved k.heap.chunks s.old ≡ true → ObjectFits k.laying (size_of (cell_of k.heap.chunks s.old))) × CanBeCopied (cond (is_moved k.heap.chunks s.old) (copied_one k s) k) ss
      = subst (λ (b : Bool). (b ≡ true → ObjectFits k.laying (size_of (cell_of k.heap.chunks s.old))) × CanBeCopied (cond b (copied_one k s) k) ss) (sym same) r in
      (((as' s (inl refl)).1, t.0), t.1)

  -- ---- by the original heap; ss are small from here on

  pub copied_laying : (k : CollectorValue) (ss : List Survivor) → Once (olds ss) → AreAs k.heap.chunks ss → (fold copied_one k ss).laying ≡ laid_all k.laying h (olds ss)
  copied_laying k [] once as' = refl
  copied_laying k (s ∷ ss) once as' =
      copied_laying (copied_one k s) ss once.1 (step_as k s ss (not_again s ss once) (λ t i. as' t (inr i))) ∙ ap (λ (c : Cell). laid_all (laid_one k.laying c) h (olds ss)) (as' s (inl refl)).0

  pub copied_moved : (k : CollectorValue) (ss : List Survivor) → Once (olds ss) → AreAs k.heap.chunks ss → (fold copied_one k ss).moved ≡ k.moved ++ relocations k.laying h (olds ss)
  copied_moved k [] once as' = sym (append-nil k.moved)
  copied_moved k (s ∷ ss) once as' =
      let e = (as' s (inl refl)).0 in
      copied_moved (copied_one k s) ss once.1 (step_as k s ss (not_again s ss once) (λ t i. as' t (inr i)))
      ∙ (append_assoc k.moved ((s.old, laid_at k.laying (size_of (cell_of k.heap.chunks s.old))) ∷ []) (relocations (copied_one k s).laying h (olds ss))
      ∙ ap (λ (c : Cell). k.moved ++ (s.old, laid_at k.laying (size_of c)) ∷ relocations (laid_one k.laying c) h (olds ss)) e)

  pub copied_other : (k : CollectorValue) (ss : List Survivor) (a : Addr) → (In (olds ss) a → ⊥) → cell_of (fold copied_one k ss).heap.chunks a ≡ cell_of k.heap.chunks a
  copied_other k [] a n = refl
  copied_other k (s ∷ ss) a n =
      copied_other (copied_one k s) ss a (λ i. n (inr i))
      ∙ puts.mark_other k.heap.chunks s.old (Moved (laid_at k.laying (size_of (cell_of k.heap.chunks s.old)))) a (λ e. n (inl e))

  -- only marks change
  pub copied_alone : (k : CollectorValue) (ss : List Survivor) (a : Addr) (m : Mark) → with_mark (cell_of (fold copied_one k ss).heap.chunks a) m ≡ with_mark (cell_of k.heap.chunks a) m
  copied_alone k [] a m = refl
  copied_alone k (s ∷ ss) a m = copied_alone (copied_one k s) ss a m ∙ puts.mark_alone k.heap.chunks s.old (Moved (laid_at k.laying (size_of (cell_of k.heap.chunks s.old)))) a m

  pub copied_mark : (k : CollectorValue) (ss : List Survivor) → Once (olds ss) → AreAs k.heap.chunks ss → (a : Addr) → In (olds ss) a →
      moved_to (cell_of (fold copied_one k ss).heap.chunks a).mark ≡ Some (new_address (relocations k.laying h (olds ss)) a)
  copied_mark k [] once as' a i = absurd i
  copied_mark k (s ∷ ss) once as' a i =
      elim (addr_cases s.old a) [
        | inl e ↦
            let c : Cell = with_mark (cell_of k.heap.chunks s.old) (Moved (laid_at k.laying (size_of (cell_of k.heap.chunks s.old)))) in
            let rest : In (olds ss) a → ⊥ = λ j. not_again s ss once (subst (In (olds ss)) (sym e) j) in
            let here : cell_of (copied_one k s).heap.chunks a ≡ c = subst (λ (b : Addr). cell_of (put_object k.heap.chunks s.old c) b ≡ c) e (laws.cell_of-put_same k.heap.chunks s.old c (as' s (inl refl)).1) in
            rw (is_same s.old a e)
            (ap (λ (d : Cell). moved_to d.mark) (copied_other (copied_one k s) ss a rest ∙ here)
            ∙ ap (λ (d : Cell). Some (laid_at k.laying (size_of d))) (as' s (inl refl)).0)
        | inr n ↦
            let j : In (olds ss) a = elim i [ inl e ↦ absurd (n e) | inr z ↦ z ] in
            rw (addr_other s.old a n)
            (copied_mark (copied_one k s) ss once.1 (step_as k s ss (not_again s ss once) (λ t i. as' t (inr i))) a j
            ∙ ap (λ (d : Cell). Some (new_address (relocations (laid_one k.laying d) h (olds ss)) a)) (as' s (inl refl)).0)
      ]

  pub copied_place : (k : CollectorValue) (ss : List Survivor) (n : ℕ) → chunk_position (fold copied_one k ss).heap.chunks n ≡ chunk_position k.heap.chunks n
  copied_place k [] n = refl
  copied_place k (s ∷ ss) n = copied_place (copied_one k s) ss n ∙ place_of-put k.heap.chunks s.old (with_mark (cell_of k.heap.chunks s.old) (Moved (laid_at k.laying (size_of (cell_of k.heap.chunks s.old))))) n

  pub copied_length : (k : CollectorValue) (ss : List Survivor) → length (fold copied_one k ss).heap.chunks ≡ length k.heap.chunks
  copied_length k [] = refl
  copied_length k (s ∷ ss) = copied_length (copied_one k s) ss ∙ length-put k.heap.chunks s.old (with_mark (cell_of k.heap.chunks s.old) (Moved (laid_at k.laying (size_of (cell_of k.heap.chunks s.old)))))

  pub copied_target : (k : CollectorValue) (ss : List Survivor) (r : Option Addr) → IsTarget k.heap.chunks r → IsTarget (fold copied_one k ss).heap.chunks r
  copied_target k [] r t = t
  copied_target k (s ∷ ss) r t = copied_target (copied_one k s) ss r (target_mark k.heap.chunks s.old (laid_at k.laying (size_of (cell_of k.heap.chunks s.old))) r t)

  pub copied_object : (k : CollectorValue) (ss : List Survivor) (a : Addr) → IsObject (cell_of k.heap.chunks a).mark → IsObject (cell_of (fold copied_one k ss).heap.chunks a).mark
  copied_object k [] a o = o
  copied_object k (s ∷ ss) a o = copied_object (copied_one k s) ss a (puts.mark_object k.heap.chunks s.old (Moved (laid_at k.laying (size_of (cell_of k.heap.chunks s.old)))) tt a o)

-- ---- the marked heap

marked_stays : (h : List ChunkValue) (x a : Addr) → (cell_of h a).mark ≡ Moved a → (cell_of (found_in h x) a).mark ≡ Moved a
marked_stays h x a e =
    elim (addr_cases x a) [
      | inl q ↦ subst (λ (y : Addr). (cell_of (found_in h y) a).mark ≡ Moved a) (sym q) (elim (laws.put_cases h a (with_mark (cell_of h a) (Moved a))) [
        | inl p ↦ ap (λ (c : Cell). c.mark) p
        | inr p ↦ ap (λ (c : Cell). c.mark) p.0 ∙ e
      ])
      | inr n ↦ ap (λ (c : Cell). c.mark) (marks.found_other h x a n) ∙ e
    ]

all_marked_stays : (h : List ChunkValue) (xs : List Addr) (a : Addr) → (cell_of h a).mark ≡ Moved a → (cell_of (all_found h xs) a).mark ≡ Moved a
all_marked_stays h [] a e = e
all_marked_stays h (x ∷ xs) a e = all_marked_stays (found_in h x) xs a (marked_stays h x a e)

pub found_marked : (h : List ChunkValue) (xs : List Addr) (a : Addr) → In xs a → IsObject (cell_of h a).mark → (cell_of (all_found h xs) a).mark ≡ Moved a
found_marked h [] a i o = absurd i
found_marked h (x ∷ xs) a i o =
    elim (addr_cases x a) [
      | inl e ↦ all_marked_stays (found_in h x) xs a (subst (λ (y : Addr). (cell_of (found_in h y) a).mark ≡ Moved a) (sym e) (ap (λ (c : Cell). c.mark) (laws.cell_of-put_same h a (with_mark (cell_of h a) (Moved a)) o)))
      | inr n ↦ found_marked (found_in h x) xs a (elim i [ inl e ↦ absurd (n e) | inr j ↦ j ]) (puts.mark_object h x (Moved x) tt a o)
    ]

named_cell : (c : Cell) (b : Birth) → c.mark ≡ Born b → with_mark c (Born b) ≡ c
named_cell c b e = λ i. record { mark = sym e i; mutable = c.mutable; refs = c.refs; ints = c.ints }

-- the survivors in the marked heap are unchanged, except for their marks
pub are_as : (h : List ChunkValue) (xs : List Addr) (ss : List Survivor) → ((s : Survivor) → In ss s → (cell_of h s.old).mark ≡ Born s.birth) → AreAs h (all_found h xs) ss
are_as h xs ss born s i =
    let b = born s i in
    let live : HasObjectAt h s.old = subst IsBorn (sym b) tt in (
      marks.all_found_alone h xs s.old (Born s.birth) ∙ named_cell (cell_of h s.old) s.birth b,
      marks.all_found_object h xs s.old (laws.born_object h s.old live),
    )
