-- An entry that changes a memory changes the memory with another task's belongings in the same way.
use Rattle.refinement.proofs.Common.{◌≡◌, ℕ, ◌==◌, List, map, inl, inr, refl, ap, sym, subst, ◌∙◌, ne_eqb, option_map, cases_eq, cond-true, cond-false, eq-eqb, Addr, Located, Name, Heap, Ledger, heap_of, RefField, led_frame, StepsAlone, ChangesHeap, Belongings, Memory, In, objects_of_chunks, sources, copied_object, rewritten_belongings, with_belongings, KeepsJust, Moves}
use Rattle.refinement.proofs.changes.Alone.{belongings_kept}
use Rattle.refinement.proofs.objects.Untouched.{belongings_untouched}

pub at_belongings : (v : Memory) (t : ℕ) (h : Belongings) → (with_belongings v t h).belongings t ≡ h
at_belongings v t h = cond-true (t == t) h (v.belongings t) (eq-eqb t t refl)

pub off_belongings : (v : Memory) (t : ℕ) (h : Belongings) (u : ℕ) → (u ≡ t → ⊥) → (with_belongings v t h).belongings u ≡ v.belongings u
off_belongings v t h u ne = cond-false (u == t) h (v.belongings u) (ne_eqb u t ne)

-- l and l' before and after the entry, k and k' with the steps of u
module _ (v v' : Memory) (l l' k k' : Ledger) (t u : ℕ) (h : Belongings) (apart : t ≡ u → ⊥) (A : StepsAlone l k u) (A' : StepsAlone l' k' u) where
  abbrev w : Memory
  w = with_belongings v u h

  abbrev w' : Memory
  w' = with_belongings v' u h

  own_belongings : w.belongings t ≡ v.belongings t
  own_belongings = off_belongings v u h t apart

  here' : w'.belongings t ≡ v'.belongings t
  here' = off_belongings v' u h t apart

  pub heap_with : ChangesHeap l l' t → k'.machine ≡ k.machine → heap_of k' u ≡ heap_of k u → ChangesHeap k k' t
  heap_with L em eh = record {
    machine = em;
    others = λ z ne. elim (cases_eq z u) [
      | inl e ↦ ap (heap_of k') e ∙ (eh ∙ ap (heap_of k) (sym e))
      | inr nu ↦ A'.heaps z nu ∙ (L.others z ne ∙ sym (A.heaps z nu))
    ];
    worker = ap (λ (i : Heap). i.worker) (A'.heaps t apart) ∙ (L.worker ∙ ap (λ (i : Heap). i.worker) (sym (A.heaps t apart)));
    snapshot = ap (λ (i : Heap). i.snapshot) (A'.heaps t apart) ∙ (L.snapshot ∙ ap (λ (i : Heap). i.snapshot) (sym (A.heaps t apart)));
  }

  others_with : ((z : ℕ) → (z ≡ t → ⊥) → v'.belongings z ≡ v.belongings z) → (z : ℕ) → (z ≡ t → ⊥) → w'.belongings z ≡ w.belongings z
  others_with f z ne = elim (cases_eq z u) [
    | inl e ↦ ap w'.belongings e ∙ (at_belongings v' u h ∙ (sym (at_belongings v u h) ∙ ap w.belongings (sym e)))
    | inr nu ↦ off_belongings v' u h z nu ∙ (f z ne ∙ sym (off_belongings v u h z nu))
  ]

  pub keeps_with : (names : List Name) → KeepsJust v v' l l' t names → KeepsJust w w' k k' t names
  keeps_with names C = record {
    belongings = belongings_kept v' w' l' k' t here' (λ i e. e) (A'.heaps t apart) (A'.rows t apart) (A'.tree.joins t) C.belongings;
    stays = λ o i j. subst (λ (y : Belongings). In (objects_of_chunks y.chunks) o) (sym here') (C.stays o (subst (λ (y : Belongings). In (objects_of_chunks y.chunks) o) own_belongings i) j);
    only = λ o i. let q = C.only o (subst (λ (y : Belongings). In (objects_of_chunks y.chunks) o) here' i) in (subst (λ (y : Belongings). In (objects_of_chunks y.chunks) o) (sym own_belongings) q.0, q.1);
    frames = ap (λ (y : Belongings). y.frames) here' ∙ (C.frames ∙ ap (λ (y : Belongings). y.frames) (sym own_belongings));
    result = ap (λ (y : Belongings). y.result) here' ∙ (C.result ∙ ap (λ (y : Belongings). y.result) (sym own_belongings));
    view = ap (λ (y : Belongings). y.view) here' ∙ (C.view ∙ ap (λ (y : Belongings). y.view) (sym own_belongings));
    others = others_with C.others;
    owners = C.owners;
    owned = C.owned;
    sources = C.sources;
  }

-- the belongings of two tasks are put in, in either order
pub with_both : (v : Memory) (t u : ℕ) (g h : Belongings) → (t ≡ u → ⊥) → (z : ℕ) → (with_belongings (with_belongings v t g) u h).belongings z ≡ (with_belongings (with_belongings v u h) t g).belongings z
with_both v t u g h ne z = elim (cases_eq z t) [
  | inl e ↦
      let off : z ≡ u → ⊥ = λ f. ne (sym e ∙ f) in
      off_belongings (with_belongings v t g) u h z off ∙ (ap (with_belongings v t g).belongings e ∙ (at_belongings v t g ∙ (sym (at_belongings (with_belongings v u h) t g) ∙ ap (with_belongings (with_belongings v u h) t g).belongings (sym e))))
  | inr nt ↦ elim (cases_eq z u) [
    | inl e ↦ ap (with_belongings (with_belongings v t g) u h).belongings e ∙ (at_belongings (with_belongings v t g) u h ∙ (sym (at_belongings v u h) ∙ (ap (with_belongings v u h).belongings (sym e) ∙ sym (off_belongings (with_belongings v u h) t g z nt))))
    | inr nu ↦ off_belongings (with_belongings v t g) u h z nu ∙ (off_belongings v t g z nt ∙ (sym (off_belongings v u h z nu) ∙ sym (off_belongings (with_belongings v u h) t g z nt)))
  ]
]

-- the end of t's collection, if no remembered field is in u's belongings
pub moves_with : (v v' : Memory) (l l' k k' : Ledger) (t u : ℕ) (h : Belongings) → (t ≡ u → ⊥) → StepsAlone l k u → StepsAlone l' k' u → (names : List Name) (f : Addr → Addr)
    → ((o : Located) (s : RefField) → In (objects_of_chunks h.chunks) o → In (sources v t) s → s.object.chunk ≡ o.at.chunk → ⊥)
    → Moves v v' l l' t names f → Moves (with_belongings v u h) (with_belongings v' u h) k k' t names f
moves_with v v' l l' k k' t u h apart A A' names f none C =
    let w : Memory = with_belongings v u h in
    let w' : Memory = with_belongings v' u h in
    let here : (with_belongings v u h).belongings t ≡ v.belongings t = off_belongings v u h t apart in
    let here' : (with_belongings v' u h).belongings t ≡ v'.belongings t = off_belongings v' u h t apart in
    record {
      belongings = belongings_kept v' (with_belongings v' u h) l' k' t here' (λ i e. e) (A'.heaps t apart) (A'.rows t apart) (A'.tree.joins t) C.belongings;
      copied = λ o i j. subst (λ (y : Belongings). In (objects_of_chunks y.chunks) (copied_object f o)) (sym here') (C.copied o (subst (λ (y : Belongings). In (objects_of_chunks y.chunks) o) here i) j);
      only = λ o i. let q = C.only o (subst (λ (y : Belongings). In (objects_of_chunks y.chunks) o) here' i) in (q.0, subst (λ (y : Belongings). In (objects_of_chunks y.chunks) q.0) (sym here) q.1, q.2, q.3);
      frames = ap (λ (y : Belongings). y.frames) here' ∙ (C.frames ∙ ap (λ (y : Belongings). map (led_frame (option_map f)) y.frames) (sym here));
      view = ap (λ (y : Belongings). y.view) here' ∙ (C.view ∙ ap (λ (y : Belongings). y.view) (sym here));
      others = λ z ne. elim (cases_eq z u) [
        | inl e ↦
            ap (with_belongings v' u h).belongings e ∙ (at_belongings v' u h ∙ (sym (belongings_untouched f (sources v t) h none) ∙ (ap (rewritten_belongings f (sources v t)) (sym (at_belongings v u h)) ∙ ap (λ y. rewritten_belongings f (sources v t) ((with_belongings v u h).belongings y)) (sym e))))
        | inr nu ↦ off_belongings v' u h z nu ∙ (C.others z ne ∙ ap (rewritten_belongings f (sources v t)) (sym (off_belongings v u h z nu)))
      ];
      same = C.same;
      owners = C.owners;
      owned = C.owned;
      sources = C.sources;
    }
