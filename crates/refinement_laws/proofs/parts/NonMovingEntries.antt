-- Entries that move nothing, and those by which a worker takes a task, keep each part fitting.
use Rattle.refinement_laws.proofs.Common.{◌≡◌, ℕ, false, Some, None, length, slice_get, inl, inr, refl, ap, sym, subst, ◌∙◌, cases_eq, none_some, ProgramText, SettingsValue, MachineState, row_of, is_joined, is_waiting, Heap, Ledger, heap_of, or_fresh, task_steps, Sound, SoundLedger, Belongings, Memory, objects_of_chunks, Rests, aside, ArePrivate, StepsAlone, WorkerTakes, SameTasks, Halts, BelongingsStand, FitsAfterRun, Part, FitsAt, ahead, with_belongings, SameBut, SameObjects, IsSteady, SameOf, rested_worker, belongings_kept, released, renewed, at_belongings, off_belongings, steady_same}
use Rattle.refinement_laws.proofs.parts.Parts.{ahead_alone, ahead_same}

module _ (p : ProgramText) (s : SettingsValue) (q : Part) (v : Memory) (l l' : Ledger) (S : SoundLedger l) (S' : SoundLedger l') (c : IsSteady q l) (E : SameOf q.task l l') (F : FitsAt p s q v l) where
  abbrev u : ℕ
  u = q.task

  abbrev k : Ledger
  k = ahead p q l

  abbrev k' : Ledger
  k' = ahead p q l'

  then_ : ArePrivate p s l' u q.fresh × SameOf u k k'
  then_ = ahead_same p s q l l' E F.private

  steady' : IsSteady q l'
  steady' = steady_same q l l' E.heap c

  N : StepsAlone l k u
  N = ahead_alone p s q l S c F.private

  N' : StepsAlone l' k' u
  N' = ahead_alone p s q l' S' steady' then_.0

  -- the same for each heap, of u or of another task
  heap_too : {A : Type 0} (view : Heap → A) (z : ℕ) → view (heap_of l' z) ≡ view (heap_of l z) → view (heap_of k' z) ≡ view (heap_of k z)
  heap_too view z e = elim (cases_eq z u) [
    | inl f ↦ ap (λ j. view (heap_of k' j)) f ∙ (ap (λ o. view (or_fresh o)) then_.1.heap ∙ ap (λ j. view (heap_of k j)) (sym f))
    | inr ne ↦ ap view (N'.heaps z ne) ∙ (e ∙ ap view (sym (N.heaps z ne)))
  ]

  out' : (heap_of l' u).worker ≡ Some F.worker
  out' = ap (λ o. (or_fresh o).worker) E.heap ∙ F.out

  -- a worker takes another task
  pub fits_took : (v' : Memory) (t w : ℕ) → Rests l t → is_waiting (slice_get l.machine.tasks t) ≡ false → WorkerTakes l l' t w → SameBut v v' t → FitsAt p s q v' l'
  fits_took v' t w rests idle L C =
      let ne : t ≡ u → ⊥ = λ e. none_some (sym rests ∙ (ap (λ j. (heap_of l j).worker) e ∙ F.out)) in
      record {
        worker = F.worker;
        out = out';
        few = F.few;
        private = then_.0;
        stands = released (with_belongings v u q.belongings) (with_belongings v' u q.belongings) k k' t w F.stands (N.tree.waits t ∙ idle)
            (record { machine = then_.1.machine; worker = ap (λ (h : Heap). h.worker) (N'.heaps t ne) ∙ L.worker; heaps = λ z nz. heap_too (λ h. h) z (L.heaps z nz) })
            (record {
              belongings = λ z nz. elim (cases_eq z u) [
                | inl f ↦ ap (with_belongings v' u q.belongings).belongings f ∙ (at_belongings v' u q.belongings ∙ (sym (at_belongings v u q.belongings) ∙ ap (with_belongings v u q.belongings).belongings (sym f)))
                | inr nu ↦ off_belongings v' u q.belongings z nu ∙ (C.belongings z nz ∙ sym (off_belongings v u q.belongings z nu))
              ];
              owner = C.owner;
              sources = C.sources;
            });
      }

  -- nothing changes
  pub fits_same : l'.machine ≡ l.machine → ((z : ℕ) → heap_of l' z ≡ heap_of l z) → FitsAt p s q v l'
  fits_same m heaps = record {
    worker = F.worker;
    out = out';
    few = F.few;
    private = then_.0;
    stands = renewed (with_belongings v u q.belongings) (with_belongings v u q.belongings) k k' F.stands
        (record { machine = then_.1.machine; worker = λ z. heap_too (λ h. h.worker) z (ap (λ (h : Heap). h.worker) (heaps z)); snapshot = λ z. heap_too (λ h. h.snapshot) z (ap (λ (h : Heap). h.snapshot) (heaps z)) })
        (record {
          belongings = λ z r.
              let e : heap_of k' z ≡ heap_of k z = heap_too (λ h. h) z (heaps z) in
              belongings_kept (with_belongings v u q.belongings) (with_belongings v u q.belongings) k k' z refl (λ i e. e) e (ap (λ (m : MachineState). length (row_of (slice_get m.store z))) then_.1.machine) (ap (λ (m : MachineState). is_joined (slice_get m.tasks z)) then_.1.machine) (F.stands.belongings z (ap (λ (h : Heap). h.worker) (sym e) ∙ r));
          objects = λ z. refl;
          chunks = λ z e. refl;
          frames = λ z. refl;
          result = λ z. refl;
          view = λ z. refl;
          owner = λ i z e. e;
          taken = λ i z e. inl e;
          begun = λ z e. refl;
          sources = λ z. refl;
        });
  }

  -- nothing moves
  pub fits_quiet : (v' : Memory) → SameTasks l l' → SameObjects v v' l l' → FitsAt p s q v' l'
  fits_quiet v' L C = record {
    worker = F.worker;
    out = out';
    few = F.few;
    private = then_.0;
    stands = renewed (with_belongings v u q.belongings) (with_belongings v' u q.belongings) k k' F.stands
        (record { machine = then_.1.machine; worker = λ z. heap_too (λ h. h.worker) z (L.worker z); snapshot = λ z. heap_too (λ h. h.snapshot) z (L.snapshot z) })
        (record {
          belongings = belongings;
          objects = λ z. seen (λ h. objects_of_chunks h.chunks) z (C.objects z);
          chunks = λ z e. seen (λ h. length h.chunks) z (C.chunks z (sym (N.tree.waits z) ∙ e));
          frames = λ z. seen (λ h. h.frames) z (C.frames z);
          result = λ z. seen (λ h. h.result) z (C.result z);
          view = λ z. seen (λ h. h.view) z (C.view z);
          owner = C.owner;
          taken = λ i z e. elim (C.taken i z e) [ inl old ↦ inl old | inr new ↦ inr (N.tree.waits z ∙ new.0, N.tree.made z ∙ new.1) ];
          begun = begun;
          sources = C.sources;
        });
  }
    where
      seen : {A : Type 0} (view : Belongings → A) (z : ℕ) → view (v'.belongings z) ≡ view (v.belongings z) → view ((with_belongings v' u q.belongings).belongings z) ≡ view ((with_belongings v u q.belongings).belongings z)
      seen view z e = elim (cases_eq z u) [
        | inl f ↦ ap (λ j. view ((with_belongings v' u q.belongings).belongings j)) f ∙ (ap view (at_belongings v' u q.belongings) ∙ (ap view (sym (at_belongings v u q.belongings)) ∙ ap (λ j. view ((with_belongings v u q.belongings).belongings j)) (sym f)))
        | inr ne ↦ ap view (off_belongings v' u q.belongings z ne) ∙ (e ∙ ap view (sym (off_belongings v u q.belongings z ne)))
      ]

      begun : (z : ℕ) → (heap_of k' z).begun ≡ (heap_of k z).begun → ((with_belongings v' u q.belongings).belongings z).begun ≡ ((with_belongings v u q.belongings).belongings z).begun
      begun z e = elim (cases_eq z u) [
        | inl f ↦ ap (λ j. ((with_belongings v' u q.belongings).belongings j).begun) f ∙ (ap (λ (h : Belongings). h.begun) (at_belongings v' u q.belongings) ∙ (ap (λ (h : Belongings). h.begun) (sym (at_belongings v u q.belongings)) ∙ ap (λ j. ((with_belongings v u q.belongings).belongings j).begun) (sym f)))
        | inr ne ↦
            ap (λ (h : Belongings). h.begun) (off_belongings v' u q.belongings z ne)
            ∙ (C.begun z (ap (λ (h : Heap). h.begun) (sym (N'.heaps z ne)) ∙ (e ∙ ap (λ (h : Heap). h.begun) (N.heaps z ne))) ∙ ap (λ (h : Belongings). h.begun) (sym (off_belongings v u q.belongings z ne)))
      ]

      belongings : (z : ℕ) → Rests k' z → BelongingsStand (with_belongings v' u q.belongings) k' z
      belongings z r = elim (cases_eq z u) [
        | inl f ↦
            let rests : Rests k u = rested_worker (task_steps p l u q.fresh) u in
            subst (BelongingsStand (with_belongings v' u q.belongings) k') (sym f)
            (belongings_kept (with_belongings v u q.belongings) (with_belongings v' u q.belongings) k k' u (at_belongings v' u q.belongings ∙ sym (at_belongings v u q.belongings)) (λ i e. C.owner i u e) (ap or_fresh then_.1.heap)
            (ap (λ (m : MachineState). length (row_of (slice_get m.store u))) then_.1.machine) (ap (λ (m : MachineState). is_joined (slice_get m.tasks u)) then_.1.machine) (F.stands.belongings u rests))
        | inr ne ↦
            belongings_kept v' (with_belongings v' u q.belongings) l' k' z (off_belongings v' u q.belongings z ne) (λ i e. e) (N'.heaps z ne) (N'.rows z ne) (N'.tree.joins z) (C.belongings z (ap (λ (h : Heap). h.worker) (sym (N'.heaps z ne)) ∙ r))
      ]

-- THE RUN ENDS

pub aside_is : (l : Ledger) → l.machine.end ≡ None → aside l ≡ l
aside_is l e = λ i. record l { machine = record l.machine { end = sym e i } }

pub fits_halt : (p : ProgramText) (s : SettingsValue) (v : Memory) (l l' : Ledger) → SoundLedger l → l.machine.end ≡ None → Halts l l' → (r : Part) → IsSteady r l → FitsAt p s r v l → FitsAfterRun p s r v l'
fits_halt p s v l l' S on H r c F =
    let m : (aside l').machine ≡ l.machine = ap (λ (z : MachineState). record z { end = None }) H.machine ∙ ap (λ (z : Ledger). z.machine) (aside_is l on) in
    let S' : SoundLedger (aside l') =
    subst (λ (z : MachineState). Sound z.tasks z.edges z.store l'.heaps) (sym m) (subst (λ hs. Sound l.machine.tasks l.machine.edges l.machine.store hs) (sym H.heaps) S) in
    fits_same p s r v l (aside l') S S' c (record { machine = m; heap = ap (λ hs. slice_get hs r.task) H.heaps }) F m (λ z. ap (λ hs. or_fresh (slice_get hs z)) H.heaps)
