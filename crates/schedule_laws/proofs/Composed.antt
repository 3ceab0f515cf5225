-- One renaming after another.
use Rattle.schedule_laws.proofs.Common.{◌≡◌, ℕ, ◌≤◌, Option, Some, None, List, [], ◌∷◌, map, slice_get, refl, ap, ◌∙◌, arith, option_map, Name, Object, Frame, TaskStatus, Running, Waiting, Ended, Joined, Task, End, Done, Trapped, Entangled, MachineState, IsRenaming, edge_to, end_to, frame_to, object_to, ref_to, status_to, task_to, AreRenamed}

module _ (f h : ℕ → ℕ) where
  abbrev pub then : ℕ → ℕ
  then t = h (f t)

  none_twice : {A B C : Type 0} (k : A → B) (l : B → C) (j : A → C) → ((x : A) → l (k x) ≡ j x) → (o : Option A) → option_map l (option_map k o) ≡ option_map j o
  none_twice k l j each None = refl
  none_twice k l j each (Some x) = ap Some (each x)

  map_twice : {A B C : Type 0} (k : A → B) (l : B → C) (j : A → C) → ((x : A) → l (k x) ≡ j x) → (xs : List A) → map l (map k xs) ≡ map j xs
  map_twice k l j each [] = refl
  map_twice k l j each (x ∷ xs) = let a = each x in let b = map_twice k l j each xs in λ i. a i ∷ b i

  ref_twice : (r : Option Name) → ref_to h (ref_to f r) ≡ ref_to then r
  ref_twice None = refl
  ref_twice (Some r) = refl

  frame_twice : (x : Frame) → frame_to h (frame_to f x) ≡ frame_to then x
  frame_twice x = ap (λ rs. record x { refs = rs }) (map_twice (ref_to f) (ref_to h) (ref_to then) ref_twice x.refs)

  object_twice : (o : Object) → object_to h (object_to f o) ≡ object_to then o
  object_twice o = ap (λ rs. record o { strand = record o.strand { task = h (f o.strand.task) }; refs = rs }) (map_twice (ref_to f) (ref_to h) (ref_to then) ref_twice o.refs)

  status_twice : (s : TaskStatus) → status_to h (status_to f s) ≡ status_to then s
  status_twice Running = refl
  status_twice Waiting = refl
  status_twice (Ended k r) = ap (Ended k) (ref_twice r)
  status_twice Joined = refl

  task_twice : (x : Task) → task_to h (task_to f x) ≡ task_to then x
  task_twice x =
      let parent : option_map h (option_map f x.parent) ≡ option_map then x.parent = none_twice f h then (λ t. refl) x.parent in
      let status : status_to h (status_to f x.status) ≡ status_to then x.status = status_twice x.status in
      let top : frame_to h (frame_to f x.top) ≡ frame_to then x.top = frame_twice x.top in
      let below : map (frame_to h) (map (frame_to f) x.below) ≡ map (frame_to then) x.below = map_twice (frame_to f) (frame_to h) (frame_to then) frame_twice x.below in
      λ i. record x { parent = parent i; status = status i; top = top i; below = below i }

  end_twice : (e : End) → end_to h (end_to f e) ≡ end_to then e
  end_twice Done = refl
  end_twice (Trapped kind t line) = refl
  end_twice (Entangled reader owner) = refl

  pub alike_then : (a b c : MachineState) → AreRenamed f a b → AreRenamed h b c → AreRenamed then a c
  alike_then a b c A B = record {
    limit = B.limit ∙ A.limit;
    count = B.count ∙ A.count;
    tasks = λ t. B.tasks (f t) ∙ (ap (option_map (task_to h)) (A.tasks t) ∙ none_twice (task_to f) (task_to h) (task_to then) task_twice (slice_get a.tasks t));
    objects = λ t. B.objects (f t) ∙ (ap (option_map (map (object_to h))) (A.objects t) ∙ none_twice (map (object_to f)) (map (object_to h)) (map (object_to then)) (map_twice (object_to f) (object_to h) (object_to then) object_twice) (slice_get a.store t));
    edges = λ e. ((λ i. (A.edges e).0 ((B.edges (edge_to f e)).0 i)), (λ i. (B.edges (edge_to f e)).1 ((A.edges e).1 i)));
    end = B.end ∙ (ap (option_map (end_to h)) A.end ∙ none_twice (end_to f) (end_to h) (end_to then) end_twice a.end);
  }

pub renaming_then : (n k l : ℕ) (f g h j : ℕ → ℕ) → IsRenaming k f g → IsRenaming l h j → k ≤ n → l ≤ n → IsRenaming n (then f h) (then j g)
renaming_then n k l f g h j R S le le' = record {
  back = λ t. ap g (S.back (f t)) ∙ R.back t;
  forth = λ t. ap h (R.forth (j t)) ∙ S.forth t;
  root = ap h R.root ∙ S.root;
  beyond = λ t ge. ap h (R.beyond t (omega arith)) ∙ S.beyond t (omega arith);
  sides = λ t. S.sides (f t) ∙ R.sides t;
  siblings = λ t. S.siblings (f t) ∙ ap h (R.siblings t);
}
