-- An entry that keeps the machine keeps owners, paths and objects, and each remembered field that stays where it is.
use Rattle.refinement.proofs.Common.{◌≡◌, ℕ, true, false, slice_get, ◌⊎◌, inl, inr, ap, sym, subst, ◌∙◌, cases_eq, Name, MachineState, object_at, owner_of, is_on_path, is_waiting, is_joined, Heap, Ledger, heap_of, RefField, own, Rests, StepsAlone, ChangesHeap, Memory, In, sources, LiesWithOwner, IsSource}

-- a remembered field is one of z afterwards, if its object and the account of its owner are unchanged, and its address
-- is as given
pub source_kept : (v v' : Memory) (l l' : Ledger) (y z : ℕ) (s : RefField) (k : IsSource v l y s) → own l' k.name ≡ own l k.name → object_at l'.machine.store k.name ≡ object_at l.machine.store k.name → LiesWithOwner v' l' k.name s.object
    → is_waiting (slice_get l'.machine.tasks (own l k.name)) ≡ is_waiting (slice_get l.machine.tasks (own l k.name)) → (heap_of l' (own l k.name)).worker ≡ (heap_of l (own l k.name)).worker → is_on_path l'.machine.tasks (own l k.name) z ≡ true → (own l k.name ≡ z → ⊥)
    → is_joined (slice_get l'.machine.tasks z) ≡ false → In (heap_of l' (own l k.name)).snapshot k.name → IsSource v' l' z s
source_kept v v' l l' y z s k e store place waits worker above below live kept = record {
  name = k.name;
  object = k.object;
  mutable = k.mutable;
  is = store ∙ k.is;
  place = place;
  field = k.field;
  waits = ap (λ u. is_waiting (slice_get l'.machine.tasks u)) e ∙ (waits ∙ k.waits);
  rests = ap (λ u. (heap_of l' u).worker) e ∙ (worker ∙ k.rests);
  above = ap (λ u. is_on_path l'.machine.tasks u z) e ∙ above;
  below = λ f. below (sym e ∙ f);
  live = live;
  snapshot = subst (λ u. In (heap_of l' u).snapshot k.name) (sym e) kept;
}

-- also after a task's own steps, if its object is another's
pub source_alone : (v v' : Memory) (l l' : Ledger) (t u : ℕ) (s : RefField) (k : IsSource v l u s) → StepsAlone l l' t → (own l k.name ≡ t → ⊥) → LiesWithOwner v' l' k.name s.object → IsSource v' l' u s
source_alone v v' l l' t u s k A ne place =
    source_kept v v' l l' u u s k (A.tree.owners k.name.task) (A.store k.name ne) place (A.tree.waits (own l k.name)) (ap (λ (h : Heap). h.worker) (A.heaps (own l k.name) ne)) (A.tree.paths (own l k.name) u ∙ k.above) k.below (A.tree.joins u ∙ k.live)
    (subst (λ (h : Heap). In h.snapshot k.name) (sym (A.heaps (own l k.name) ne)) k.snapshot)

module _ (l l' : Ledger) (E : l'.machine ≡ l.machine) where
  pub own_same : (n : Name) → own l' n ≡ own l n
  own_same n = ap (λ (m : MachineState). owner_of m.tasks n.task) E

  pub path_same : (a u : ℕ) → is_on_path l'.machine.tasks a u ≡ is_on_path l.machine.tasks a u
  path_same a u = ap (λ (m : MachineState). is_on_path m.tasks a u) E

  pub store_same : (n : Name) → object_at l'.machine.store n ≡ object_at l.machine.store n
  store_same n = ap (λ (m : MachineState). object_at m.store n) E

  -- a remembered field, if its object's heap has the same worker and the same snapshot
  pub source_same : (v v' : Memory) (u : ℕ) (s : RefField) (k : IsSource v l u s) → LiesWithOwner v' l' k.name s.object → (heap_of l' (own l k.name)).worker ≡ (heap_of l (own l k.name)).worker → In (heap_of l' (own l k.name)).snapshot k.name → IsSource v' l' u s
  source_same v v' u s k place worker kept =
      source_kept v v' l l' u u s k (own_same k.name) (store_same k.name) place (ap (λ (m : MachineState). is_waiting (slice_get m.tasks (own l k.name))) E) worker (path_same (own l k.name) u ∙ k.above) k.below (ap (λ (m : MachineState). is_joined (slice_get m.tasks u)) E ∙ k.live) kept

  -- what a field refers to stays above its object, or the field stays remembered
  pub remembered_same : (v v' : Memory) (u : ℕ) (n : Name) (s : RefField) → sources v' (own l n) ≡ sources v (own l n) → (is_on_path l.machine.tasks (own l n) u ≡ true) ⊎ In (sources v (own l n)) s → (is_on_path l'.machine.tasks (own l' n) u ≡ true) ⊎ In (sources v' (own l' n)) s
  remembered_same v v' u n s same (inl h) = inl (ap (λ k. is_on_path l'.machine.tasks k u) (own_same n) ∙ (path_same (own l n) u ∙ h))
  remembered_same v v' u n s same (inr i) = inr (subst (λ k. In (sources v' k) s) (sym (own_same n)) (subst (λ ss. In ss s) (sym same) i))

-- the worker of each task, if one heap changes
pub worker_same : (l l' : Ledger) (t : ℕ) → ChangesHeap l l' t → (u : ℕ) → (heap_of l' u).worker ≡ (heap_of l u).worker
worker_same l l' t L u = elim (cases_eq u t) [
  | inl e ↦ ap (λ z. (heap_of l' z).worker) e ∙ (L.worker ∙ ap (λ z. (heap_of l z).worker) (sym e))
  | inr ne ↦ ap (λ (h : Heap). h.worker) (L.others u ne)
]

pub rests_before : (l l' : Ledger) (t : ℕ) → ChangesHeap l l' t → (u : ℕ) → Rests l' u → Rests l u
rests_before l l' t L u r = sym (worker_same l l' t L u) ∙ r
