-- A store of a number, into an object of the task or of an ancestor.
use Rattle.refinement.proofs.Common.{◌≡◌, ℕ, pos, true, unwrap_or, Some, None, List, ◌∷◌, slice_get, slice_set, ◌⊎◌, inl, inr, ap, ap₂, Addr, Name, Object, Task, ref_in, int_in, task_names, is_on_path, Ledger, SoundLedger, CallFrame, own, Rests, StoresNumber, ref_of, int_of, Memory, In, sources, FramesAreRead, TaskIsRead, LiesWithOwner, MemoryStands, StoresNumberAt, with_int_field}
use Rattle.refinement.proofs.changes.Target as target
use Rattle.refinement.proofs.changes.Write.{written}

module _ (v v' : Memory) (l l' : Ledger) (t : ℕ) (x : Task) (n : Name) (y : Object) (o w i : ℕ) (f : CallFrame) (fs : List CallFrame) (a : Addr) (S : SoundLedger l) (V : MemoryStands v l) (rests : Rests l t)
    (L : StoresNumber l l' t x n y o w i) (C : StoresNumberAt v v' t f fs a w i) (at_a : ref_of f o ≡ Some a) where
  frames : FramesAreRead (LiesWithOwner v l) (f ∷ fs) (x.top ∷ x.below)
  frames = target.frames v l t x n o f fs a S V rests L.task L.runs L.object L.waits C.frames at_a

  pub holds : (j : ℕ) (m : Name) → ref_in x.top j ≡ Some m → In (task_names x) m
  holds = target.holds v l t x n o f fs a S V rests L.task L.runs L.object L.waits C.frames at_a

  pub place : LiesWithOwner v l n a
  place = target.place v l t x n o f fs a S V rests L.task L.runs L.object L.waits C.frames at_a

  pub rests_n : Rests l (own l n)
  rests_n = target.rests_n v l t x n o f fs a S V rests L.task L.runs L.object L.waits C.frames at_a

  abbrev y' : Object
  y' = record y { ints = slice_set y.ints i (int_in x.top w) }

  minds : (j : ℕ) (r : Name) → slice_get y.refs j ≡ Some (Some r) → (is_on_path l.machine.tasks (own l r) (own l n) ≡ true) ⊎ In (sources v' (own l r)) (record { object = a; field = j })
  minds j r e = elim (target.minded v l t x n o f fs a S V rests L.task L.runs L.object L.waits C.frames at_a y j r L.writes.was e) [ inl p ↦ inl p | inr s ↦ inr (C.writes.noted (own l r) (record { object = a; field = j }) s) ]

  task : (z : Task) → Rests l t → slice_get l'.machine.tasks t ≡ Some z → TaskIsRead (LiesWithOwner v l) (v'.belongings t) z
  task z r e = target.task_on v l t x n o f fs a S V rests L.task L.runs L.object L.waits C.frames at_a v' l' None L.goes C.goes z e

  pub numbered : MemoryStands v' l'
  numbered = written v v' l l' t n a y y' (with_int_field i (int_of f w)) S V L.writes C.writes (record {
    place = place;
    rests = rests_n;
    mutable = L.mutable;
    still = L.mutable;
    reads = λ q k. record { mutable = k.mutable; refs = k.refs; ints = ap₂ (λ zs z. slice_set zs i z) k.ints (ap (λ zs. unwrap_or (slice_get zs w) (pos 0)) frames.0.ints) };
    minds = minds;
    sources = λ u s k. V.sources u s (C.only u s k);
    task = task;
  })
