-- The roots of a waiting heap stay, whatever entry is made, or what they were was kept.
use Rattle.refinement.proofs.Common.{◌≡◌, ℕ, zero, suc, ◌+◌, Bool, true, false, cond, Option, Some, List, [], ◌∷◌, slice_get, inl, inr, refl, ap, sym, subst, ◌∙◌, option_map, list_any, both_ways, same_Some, Addr, Located, is_waiting, Ledger, heap_of, CallFrame, RefField, own, Rests, Memory, In, object_name, objects, sources, is_source, rewritten_refs, MemoryStands, IsRememberedRoot, advanced}
use Rattle.refinement.proofs.objects.Members.{lies_in}

-- THE TASK OF A ROOT

pub root_owner : (v : Memory) (l : Ledger) (V : MemoryStands v l) (u : ℕ) (b : Addr) (r : IsRememberedRoot v l u b) → own l (V.sources u r.source r.noted).name ≡ r.task
root_owner v l V u b r =
    let s = V.sources u r.source r.noted in
    same_Some (own l s.name) r.task (sym s.place.chunk ∙ (ap (λ (a : Addr). v.owner a.chunk) (sym r.at) ∙ lies_in v l V r.task r.object r.rests r.there))

-- it waits
pub root_waits : (v : Memory) (l : Ledger) → MemoryStands v l → (u : ℕ) (b : Addr) → (r : IsRememberedRoot v l u b) → is_waiting (slice_get l.machine.tasks r.task) ≡ true
root_waits v l V u b r = ap (λ z. is_waiting (slice_get l.machine.tasks z)) (sym (root_owner v l V u b r)) ∙ (V.sources u r.source r.noted).waits

pub root_apart : (v : Memory) (l : Ledger) → MemoryStands v l → (t : ℕ) → is_waiting (slice_get l.machine.tasks t) ≡ false → (u : ℕ) (b : Addr) (r : IsRememberedRoot v l u b) → r.task ≡ t → ⊥
root_apart v l V t idle u b r e = both_ways (is_waiting (slice_get l.machine.tasks t)) idle (ap (λ z. is_waiting (slice_get l.machine.tasks z)) (sym e) ∙ root_waits v l V u b r)

-- and its snapshot has the object
pub root_kept : (v : Memory) (l : Ledger) → MemoryStands v l → (u : ℕ) (b : Addr) → (r : IsRememberedRoot v l u b) → In (heap_of l r.task).snapshot (object_name r.object)
root_kept v l V u b r =
    let s = V.sources u r.source r.noted in
    let own_task = root_owner v l V u b r in
    let p = s.place.here s.rests in
    let p' : In (objects v r.task) p.0 = subst (λ z. In (objects v z) p.0) own_task p.1 in
    let same : r.object ≡ p.0 = (V.belongings r.task r.rests).once r.object p.0 r.there p' (r.at ∙ sym p.2.at) in
    let name : s.name ≡ object_name r.object = sym p.2.name ∙ ap object_name (sym same) in
    subst (In (heap_of l r.task).snapshot) name (subst (λ z. In (heap_of l z).snapshot s.name) own_task s.snapshot)

-- A ROOT STAYS if its object does, with the field
module _ (v v' : Memory) (l l' : Ledger) (u : ℕ) (noted : (s : RefField) → In (sources v u) s → In (sources v' u) s) (into : (k : ℕ) → v.owner k ≡ Some u → v'.owner k ≡ Some u) where
  pub root_by : (b : Addr) (r : IsRememberedRoot v l u b) → Rests l' r.task → (q : Located) → In (objects v' r.task) q → q.at ≡ r.object.at → slice_get q.refs r.source.field ≡ Some (Some b) → IsRememberedRoot v' l' u b
  root_by b r rests q i at holds = record { source = r.source; task = r.task; object = q; rests = rests; noted = noted r.source r.noted; there = i; at = at ∙ r.at; holds = holds; into = into b.chunk r.into }

  pub root_same : (b : Addr) (r : IsRememberedRoot v l u b) → Rests l' r.task → objects v' r.task ≡ objects v r.task → IsRememberedRoot v' l' u b
  root_same b r rests same = root_by b r rests r.object (subst (λ os. In os r.object) (sym same) r.there) refl r.holds

-- if the lists of sources are equal
pub noted_by : (v v' : Memory) (u : ℕ) → sources v' u ≡ sources v u → (s : RefField) → In (sources v u) s → In (sources v' u) s
noted_by v v' u e s i = subst (λ ss. In ss s) (sym e) i

-- the end of another task's collection updates only what points into that task's heap
pub rewritten_at : (f : Addr → Addr) (ss : List RefField) (a : Addr) (i : ℕ) (rs : List (Option Addr)) (k : ℕ) (b : Addr) → f b ≡ b → slice_get rs k ≡ Some (Some b) → slice_get (rewritten_refs f ss a i rs) k ≡ Some (Some b)
rewritten_at f ss a i [] k b e g = g
rewritten_at f ss a i (r ∷ rs) zero b e g = rewritten_at_by_cases (list_any (is_source a i) ss)
  where
    rewritten_at_here : r ≡ Some b
    rewritten_at_here = same_Some r (Some b) g

    rewritten_at_by_cases : (c : Bool) → ◌≡◌ {A = Option (Option Addr)} (Some (cond c (option_map f r) r)) (Some (Some b))
    rewritten_at_by_cases true = ap Some (ap (option_map f) rewritten_at_here ∙ ap Some e)
    rewritten_at_by_cases false = g
rewritten_at f ss a i (r ∷ rs) (suc k) b e g = rewritten_at f ss a (suc i) rs k b e g

-- a frame that goes on keeps its references
pub in_advanced : (fs : List CallFrame) (f : CallFrame) → In fs f → (g : CallFrame) × In (advanced fs) g × (g.refs ≡ f.refs)
in_advanced [] f i = absurd i
in_advanced (h ∷ fs) f (inl e) = (record h { next = h.next + 1 }, inl refl, ap (λ (x : CallFrame). x.refs) e)
in_advanced (h ∷ fs) f (inr i) = (f, inr i, refl)
