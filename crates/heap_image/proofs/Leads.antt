-- The references of an object of a sound picture are allowed.
use Rattle.heap_image.proofs.Common.{◌≡◌, ◌≤◌, ◌+◌, ℕ, suc, Bool, true, false, List, [], ◌∷◌, length, refl, ap, sym, ◌∙◌, inl, inr, arith, Option, Some, None, ◌==◌, ◌&&◌, ◌||◌, not, slice_get, is_some, list_any, or_left, or_right, In, in_got, ImageRemembered, Read, Whole, is_among, same_field, found, has, is_running, owner_at, is_astray, owner_runs, relation_to, is_apart, is_below, crosses, is_noted, is_forgotten, forgets, Picked, ImageData, ImageLeadsSomewhere, IsOwnedBy, IsSoundPicture}
use Rattle.heap_image.proofs.Family.{running, Stands, stands}
use Rattle.heap_image.proofs.Family.Stands.{own, up, down}
use Rattle.heap_image.proofs.Owners.{owner_found, owned_from}
use Rattle.heap_image.proofs.States.{objects_read}

-- some line says an object at a with n references
abbrev pub HasObject : Whole → ℕ → ℕ → Type 0
HasObject w a n = (m : ℕ) × (found w.objects a ≡ Some m) × (n ≤ m)

-- what the whole text says: all objects and fields of a picture
pub record HasAll (p : ImageData) (w : Whole) : Type 0 where
  pub objects : (o : Picked) → In p.objects o → HasObject w o.address (length o.references)
  pub fields : (f : ImageRemembered) → In p.fields f → is_among same_field w.fields (f.task, f.address, f.place) ≡ true

pub none_of : (test : ℕ → Bool) (vs : List ℕ) → ((v : ℕ) → In vs v → test v ≡ false) → list_any test vs ≡ false
none_of test [] h = refl
none_of test (v ∷ vs) h = rw (h v (inl refl)) (none_of test vs (λ u i. h u (inr i)))

none_forgotten : (w : Whole) (r : Read) (t a m : ℕ) (vs : List ℕ) → ((k v : ℕ) → slice_get vs k ≡ Some v → is_forgotten w r t a (m + k) (owner_at r.chunks v) ≡ false) → forgets w r t a m vs ≡ false
none_forgotten w r t a m [] h = refl
none_forgotten w r t a m (v ∷ vs) h =
    let e : is_forgotten w r t a m (owner_at r.chunks v) ≡ false = (let z : m + 0 ≡ m = omega arith in ap (λ k. is_forgotten w r t a k (owner_at r.chunks v)) (sym z) ∙ h 0 v refl) in
    ap (λ b. b || forgets w r t a (m + 1) vs) e
    ∙ none_forgotten w r t a (m + 1) vs (λ k u g. let z : (m + 1) + k ≡ m + suc k = omega arith in ap (λ i. is_forgotten w r t a i (owner_at r.chunks u)) z ∙ h (suc k) u g)

module _ (p : ImageData) (s : IsSoundPicture p) (w : Whole) (all : HasAll p w) (a : List Picked) where
  abbrev r : Read
  r = objects_read p a

  -- REF

  runs_there : (v u : ℕ) → IsOwnedBy p v u → is_running r.tasks u ≡ true → owner_runs r (owner_at r.chunks v) ≡ true
  runs_there v u owned run = ap (owner_runs r) (owner_found p s v u owned) ∙ run

  leads : (v : ℕ) → ImageLeadsSomewhere p v → ((v == 0) || (has w.objects v || owner_runs r (owner_at r.chunks v))) ≡ true
  leads v (inl e) = or_left (v == 0) (has w.objects v || owner_runs r (owner_at r.chunks v)) (let f : (0 == 0) ≡ true = grind arith in ap (λ x. x == 0) e ∙ f)
  leads v (inr (inl h)) =
      or_right (v == 0) (has w.objects v || owner_runs r (owner_at r.chunks v))
      (or_left (has w.objects v) (owner_runs r (owner_at r.chunks v)) (ap (has w.objects) (sym h.2) ∙ (let j = all.objects h.0 h.1 in ap is_some j.1)))
  leads v (inr (inr h)) =
      or_right (v == 0) (has w.objects v || owner_runs r (owner_at r.chunks v))
      (or_right (has w.objects v) (owner_runs r (owner_at r.chunks v)) (runs_there v h.0 h.1 (running p s h.0 h.2)))

  pub none_astray : (o : Picked) → In p.objects o → list_any (is_astray w r) o.references ≡ false
  none_astray o h = none_of (is_astray w r) o.references (λ v i. ap not (leads v (s.leads o v h i)))

  -- CROSS AND DOWN

  module _ (o : Picked) (h : In p.objects o) (t : ℕ) (owned : IsOwnedBy p o.address t) where
    noted : (k u : ℕ) → In p.fields (record { task = u; address = o.address; place = k }) → is_noted w o.address k (Some u) ≡ true
    noted k u i = all.fields (record { task = u; address = o.address; place = k }) i

    stays_by : (k u : ℕ) → Stands p s o.address k t u → is_apart (relation_to r.tasks t (Some u)) ≡ false
    stays_by k u (own e) = rw e refl
    stays_by k u (up e) = rw e refl
    stays_by k u (down e i) = rw e refl

    keeps_by : (k u : ℕ) → Stands p s o.address k t u → is_forgotten w r t o.address k (Some u) ≡ false
    keeps_by k u (own e) = rw e refl
    keeps_by k u (up e) = rw e refl
    keeps_by k u (down e i) = ap (λ x. is_below (Some x) && not (is_noted w o.address k (Some u))) e ∙ ap not (noted k u i)

    stands_at : (k v u : ℕ) → slice_get o.references k ≡ Some v → owner_at r.chunks v ≡ Some u → Stands p s o.address k t u
    stands_at k v u got e = stands p s o.address k t u (s.keeps o k v t u h got owned (owned_from p s v u e))

    stays_on : (k v : ℕ) (m : Option ℕ) → slice_get o.references k ≡ Some v → owner_at r.chunks v ≡ m → crosses r t v ≡ false
    stays_on k v None got e = ap (λ x. is_apart (relation_to r.tasks t x)) e
    stays_on k v (Some u) got e = ap (λ x. is_apart (relation_to r.tasks t x)) e ∙ stays_by k u (stands_at k v u got e)

    keeps_on : (k v : ℕ) (m : Option ℕ) → slice_get o.references k ≡ Some v → owner_at r.chunks v ≡ m → is_forgotten w r t o.address k (owner_at r.chunks v) ≡ false
    keeps_on k v None got e = ap (is_forgotten w r t o.address k) e
    keeps_on k v (Some u) got e = ap (is_forgotten w r t o.address k) e ∙ keeps_by k u (stands_at k v u got e)

    pub none_crosses : list_any (crosses r t) o.references ≡ false
    none_crosses = none_of (crosses r t) o.references (λ v i. let k = in_got o.references v i in stays_on k.0 v (owner_at r.chunks v) k.1 refl)

    pub none_left_out : forgets w r t o.address 0 o.references ≡ false
    none_left_out = none_forgotten w r t o.address 0 o.references (λ k v got. let z : 0 + k ≡ k = omega arith in ap (λ i. is_forgotten w r t o.address i (owner_at r.chunks v)) z ∙ keeps_on k v (owner_at r.chunks v) got refl)
