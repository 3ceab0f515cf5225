-- What a renaming leaves unchanged: whatever names only tasks that keep their numbers.
use Rattle.renaming_laws.proofs.Common.{◌≡◌, ℕ, ℤ, Option, Some, None, List, [], ◌∷◌, map, inl, inr, refl, ap, option_map, In, Name, Object, Frame, TaskStatus, Running, Waiting, Ended, Joined, Task, ref_to, object_to, frame_to, status_to, task_to}

module _ (f : ℕ → ℕ) where
  -- these references name tasks that keep their numbers
  abbrev pub Keeps : List (Option Name) → Type 0
  Keeps rs = (r : Name) → In rs (Some r) → f r.task ≡ r.task

  pub refs_fixed : (rs : List (Option Name)) → Keeps rs → map (ref_to f) rs ≡ rs
  refs_fixed [] h = refl
  refs_fixed (None ∷ rs) h = ap (λ w. None ∷ w) (refs_fixed rs (λ r i. h r (inr i)))
  refs_fixed (Some r ∷ rs) h =
      let rest : map (ref_to f) rs ≡ rs = refs_fixed rs (λ q i. h q (inr i)) in
      let here : f r.task ≡ r.task = h r (inl refl) in
      λ i. Some (record r { task = here i }) ∷ rest i

  pub frame_fixed : (x : Frame) → Keeps x.refs → frame_to f x ≡ x
  frame_fixed x h = ap (λ rs. record x { refs = rs }) (refs_fixed x.refs h)

  pub frames_fixed : (fs : List Frame) → ((x : Frame) → In fs x → Keeps x.refs) → map (frame_to f) fs ≡ fs
  frames_fixed [] h = refl
  frames_fixed (x ∷ fs) h =
      let here : frame_to f x ≡ x = frame_fixed x (h x (inl refl)) in
      let rest : map (frame_to f) fs ≡ fs = frames_fixed fs (λ y i. h y (inr i)) in
      λ i. here i ∷ rest i

  pub object_fixed : (o : Object) → f o.strand.task ≡ o.strand.task → Keeps o.refs → object_to f o ≡ o
  object_fixed o e h =
      let rs : map (ref_to f) o.refs ≡ o.refs = refs_fixed o.refs h in
      λ i. record o { strand = record o.strand { task = e i }; refs = rs i }

  pub row_fixed : (row : List Object) → ((o : Object) → In row o → (f o.strand.task ≡ o.strand.task) × Keeps o.refs) → map (object_to f) row ≡ row
  row_fixed [] h = refl
  row_fixed (o ∷ row) h =
      let k = h o (inl refl) in
      let here : object_to f o ≡ o = object_fixed o k.0 k.1 in
      let rest : map (object_to f) row ≡ row = row_fixed row (λ q i. h q (inr i)) in
      λ i. here i ∷ rest i

  -- all that a task's record names
  pub record KeepsTask (x : Task) : Type 0 where
    pub parent : (q : ℕ) → x.parent ≡ Some q → f q ≡ q
    pub result : (k : ℤ) (r : Name) → x.status ≡ Ended k (Some r) → f r.task ≡ r.task
    pub top : Keeps x.top.refs
    pub below : (y : Frame) → In x.below y → Keeps y.refs

  parent_fixed : (o : Option ℕ) → ((q : ℕ) → o ≡ Some q → f q ≡ q) → option_map f o ≡ o
  parent_fixed None h = refl
  parent_fixed (Some q) h = ap Some (h q refl)

  status_fixed : (s : TaskStatus) → ((k : ℤ) (r : Name) → s ≡ Ended k (Some r) → f r.task ≡ r.task) → status_to f s ≡ s
  status_fixed Running h = refl
  status_fixed Waiting h = refl
  status_fixed (Ended k None) h = refl
  status_fixed (Ended k (Some r)) h = let e : f r.task ≡ r.task = h k r refl in λ i. Ended k (Some (record r { task = e i }))
  status_fixed Joined h = refl

  pub task_fixed : (x : Task) → KeepsTask x → task_to f x ≡ x
  task_fixed x K =
      let parent : option_map f x.parent ≡ x.parent = parent_fixed x.parent K.parent in
      let status : status_to f x.status ≡ x.status = status_fixed x.status K.result in
      let top : frame_to f x.top ≡ x.top = frame_fixed x.top K.top in
      let below : map (frame_to f) x.below ≡ x.below = frames_fixed x.below K.below in
      λ i. record x { parent = parent i; status = status i; top = top i; below = below i }
