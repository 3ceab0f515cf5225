-- What a value has for tasks that workers hold is irrelevant: two values that differ only there stand for the same
-- accounts, and the same parts fit them.
use Rattle.core_invariant.proofs.Common.{length, ◌≡◌, ℕ, true, not, Option, Some, None, slice_get, inl, inr, refl, ap, sym, subst, ◌∙◌, cases_eq, and_parts, ProgramText, Name, is_waiting, SettingsValue, Heap, Ledger, heap_of, SoundLedger, Addr, Located, Rests, own, StepsAlone, rested_worker, Begun, Belongings, In, Lies, Memory, objects, objects_of_chunks, shown_at, TaskIsRead, LiesWithOwner, MemoryStands, IsReachedAt, PartFits, FitsAt, Part, ahead, with_belongings, NotedAt, BegunBy, StandsFor, TreeCounts, WorkerFits, belongings_kept, object_kept, task_kept, gives_kept, notes_stay, same_whole, ahead_alone, root_same, source_same, at_belongings, off_belongings, aside_is}

-- the same value, with other belongings of the tasks that workers hold
module _ (v : Memory) (hs : ℕ → Belongings) (l : Ledger) (same : (u : ℕ) → Rests l u → hs u ≡ v.belongings u) where
  abbrev v' : Memory
  v' = record v { belongings = hs }

  place : (n : Name) (a : Addr) → LiesWithOwner v l n a → LiesWithOwner v' l n a
  place n a p = record { chunk = p.chunk; here = λ r. subst (λ (h : Belongings). Lies h.chunks n a) (sym (same (own l n) r)) (p.here r) }

  was : (u : ℕ) (o : Located) → Rests l u → In (objects v' u) o → In (objects v u) o
  was u o r i = subst (λ (h : Belongings). In (objects_of_chunks h.chunks) o) (same u r) i

  object_is_among : (u : ℕ) (o : Located) → Rests l u → In (objects v u) o → In (objects v' u) o
  object_is_among u o r i = subst (λ (h : Belongings). In (objects_of_chunks h.chunks) o) (sym (same u r)) i

  pub stands_held : MemoryStands v l → MemoryStands v' l
  stands_held V = record {
    made = V.made;
    belongings = λ u r. belongings_kept v v' l l u (same u r) (λ k e. e) refl refl refl (V.belongings u r);
    contents = λ u o r i. (let c = V.contents u o r (was u o r i) in (c.0, c.1, object_kept (LiesWithOwner v l) (LiesWithOwner v' l) o c.0 (λ n j. place n) c.2));
    tasks = λ u x r e. subst (λ (h : Belongings). TaskIsRead (LiesWithOwner v' l) h x) (sym (same u r)) (task_kept (LiesWithOwner v l) (LiesWithOwner v' l) (v.belongings u) x (λ n j. place n) (V.tasks u x r e));
    remembered = λ u o x i n r j e at. V.remembered u o x i n r (was u o r j) e at;
    sources = λ u s i. (let k = V.sources u s i in source_same l l refl v v' u s k (place k.name s.object k.place) refl k.snapshot);
    views = λ u r live z o up ne rz i. ap (λ (h : Belongings). shown_at h.view o.at) (same u r) ∙ V.views u r live z o up ne rz (was z o rz i);
    gives = λ u z r live up ne w rz. gives_kept v v' z u (ap (λ (h : Belongings). h.view) (same u r)) (ap (λ (h : Belongings). h.view) (same z rz)) (λ n o. o) (V.gives u z r live up ne w rz);
  }

  begun_held : (t : ℕ) → Rests l t → (b : Option Begun) → BegunBy v l t b → BegunBy v' l t b
  begun_held t r None B = B
  begun_held t r (Some b) B = record {
    few = B.few;
    once = B.once;
    owned = B.owned;
    apart = λ k c i j. B.apart k c i (subst (λ (h : Belongings). In h.chunks c) (same t r) j);
    survivors = λ o i.
        let s = B.survivors o (was t o r i) in (
          (λ e. s.0 (subst (λ (h : Belongings). IsReachedAt h b.roots o.at) (same t r) e)),
          (λ e. subst (λ (h : Belongings). IsReachedAt h b.roots o.at) (sym (same t r)) (s.1 e)),
        );
  }

  -- no worker holds a waiting task
  module _ (waits : (u : ℕ) → is_waiting (slice_get l.machine.tasks u) ≡ true → Rests l u) where
    noted : (c : TreeCounts) → StandsFor v c l → (t : ℕ) → Rests l t → NotedAt v' l t
    noted c S t r =
        notes_stay v v' l l t (record { keeps = refl; kept = refl; waits = refl; swept = refl; snapshot = refl; none_new = λ k e. e; frames = ap (λ (h : Belongings). h.frames) (same t r); rooted = λ b y. root_same v v' l l t (λ s i. i) (λ k e. e) b y y.rests (ap (λ (h : Belongings). objects_of_chunks h.chunks) (same y.task y.rests)) }) refl refl
        (same_whole v v' t (ap (λ (h : Belongings). objects_of_chunks h.chunks) (same t r)) (ap (λ (h : Belongings). length h.chunks) (same t r))) (record { keeps = S.keeps t; since = S.since t; marks = S.marks t })

    rest : (c : TreeCounts) → StandsFor v c l → (t : ℕ) → (v.noted t).keeps ≡ true → Rests l t
    rest c S t e = waits t (and_parts (is_waiting (slice_get l.machine.tasks t)) (not (heap_of l t).swept) (sym (S.keeps t) ∙ e)).0

    pub stands_for_held : (c : TreeCounts) → StandsFor v c l → StandsFor v' c l
    stands_for_held c S = record {
      belongings = stands_held S.belongings;
      tree_counts = S.tree_counts;
      begun = λ t r. begun_held t r (hs t).begun (subst (λ (h : Belongings). BegunBy v l t h.begun) (sym (same t r)) (S.begun t r));
      keeps = S.keeps;
      since = λ t e. (noted c S t (rest c S t e)).since e;
      marks = λ t e. (noted c S t (rest c S t e)).marks e;
    }

-- A PART
module _ (v : Memory) (hs : ℕ → Belongings) (l : Ledger) (same : (u : ℕ) → Rests l u → hs u ≡ v.belongings u) (p : ProgramText) (s : SettingsValue) (q : Part) (S : SoundLedger l) where
  abbrev w : Memory
  w = record v { belongings = hs }

  abbrev t : ℕ
  t = q.task

  abbrev K : Ledger
  K = ahead p q l

  -- its belongings beside its own
  module _ (A : StepsAlone l K t) where
    with_same : (u : ℕ) → Rests K u → (with_belongings w t q.belongings).belongings u ≡ (with_belongings v t q.belongings).belongings u
    with_same u r = elim (cases_eq u t) [
      | inl e ↦ ap (with_belongings w t q.belongings).belongings e ∙ (at_belongings w t q.belongings ∙ (sym (at_belongings v t q.belongings) ∙ ap (with_belongings v t q.belongings).belongings (sym e)))
      | inr ne ↦ off_belongings w t q.belongings u ne ∙ (same u (ap (λ (h : Heap). h.worker) (sym (A.heaps u ne)) ∙ r) ∙ sym (off_belongings v t q.belongings u ne))
    ]

    stands_part : MemoryStands (with_belongings v t q.belongings) K → MemoryStands (with_belongings w t q.belongings) K
    stands_part V = stands_held (with_belongings v t q.belongings) (with_belongings w t q.belongings).belongings K with_same V

    begun_part : BegunBy (with_belongings v t q.belongings) K t q.belongings.begun → BegunBy (with_belongings w t q.belongings) K t q.belongings.begun
    begun_part B = begun_held (with_belongings v t q.belongings) (with_belongings w t q.belongings).belongings K with_same t (rested_worker _ t) q.belongings.begun B

  pub fits_held : l.machine.end ≡ None → WorkerFits p s q v l → WorkerFits p s q w l
  fits_held going F =
      let P : PartFits p s q v l = subst (PartFits p s q v) (aside_is l going) F.part in
      let A : StepsAlone l K t = ahead_alone p s q l S F.steady P.fits.private in
      let fits : FitsAt p s q w l = record { worker = P.fits.worker; out = P.fits.out; few = P.fits.few; private = P.fits.private; stands = stands_part A P.fits.stands } in
      let Q : PartFits p s q w l = record { fits = fits; begun = begun_part A P.begun } in
      record { task = F.task; is = F.is; runs = F.runs; steady = F.steady; part = subst (PartFits p s q w) (sym (aside_is l going)) Q; leaf = F.leaf; fields = F.fields }
