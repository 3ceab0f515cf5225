-- The belongings of a task that a worker takes fit.
use Rattle.refinement_laws.proofs.Common.{length, ◌≡◌, ℕ, Some, None, is_none, slice_get, inl, inr, refl, ap, sym, subst, ◌∙◌, and_parts, cases_eq, none_is, ProgramText, EntryValue, SettingsValue, Took, is_running, MachineState, runs_tell, Ledger, heap_of, or_fresh, after, is_ready, ledger_of, none_unless, entry_tells, legal_sound, accepted_on, heap_of_task, running_at, Rests, rested, heap_then, with_at, took_takes, rested_view, legal_alive, Belongings, Memory, objects_of_chunks, Part, FitsAt, part_for, ahead, with_belongings, SameBut, PartFits, StandsFor, belongings_kept, renewed, took_fits, at_belongings, off_belongings, TookFits}
use Rattle.refinement_laws.proofs.whole.HandedBack.{handed_on}
use Rattle.refinement_laws.proofs.whole.Past.{legal_rests, none_begun_by_ledger}
use Rattle.refinement_laws.proofs.parts.NonMovingEntries.{aside_is}
use Rattle.refinement_laws.proofs.whole.Together.{none_begun}

-- what the memory has in place of the part doesn't matter
module _ (p : ProgramText) (s : SettingsValue) (q : Part) (v v' : Memory) (l : Ledger) (C : SameBut v v' q.task) (F : FitsAt p s q v l) where
  abbrev k : Ledger
  k = ahead p q l

  same_belongings : (u : ℕ) → (with_belongings v' q.task q.belongings).belongings u ≡ (with_belongings v q.task q.belongings).belongings u
  same_belongings u = elim (cases_eq u q.task) [
    | inl e ↦ ap (with_belongings v' q.task q.belongings).belongings e ∙ (at_belongings v' q.task q.belongings ∙ (sym (at_belongings v q.task q.belongings) ∙ ap (with_belongings v q.task q.belongings).belongings (sym e)))
    | inr ne ↦ off_belongings v' q.task q.belongings u ne ∙ (C.belongings u ne ∙ sym (off_belongings v q.task q.belongings u ne))
  ]

  pub fits_beside : FitsAt p s q v' l
  fits_beside = record {
    worker = F.worker;
    out = F.out;
    few = F.few;
    private = F.private;
    stands = renewed (with_belongings v q.task q.belongings) (with_belongings v' q.task q.belongings) k k F.stands (record { machine = refl; worker = λ u. refl; snapshot = λ u. refl })
        (record {
          belongings = λ u r. belongings_kept (with_belongings v q.task q.belongings) (with_belongings v' q.task q.belongings) k k u (same_belongings u) (λ i e. C.owner i ∙ e) refl refl refl (F.stands.belongings u r);
          objects = λ u. ap (λ (z : Belongings). objects_of_chunks z.chunks) (same_belongings u);
          chunks = λ u e. ap (λ (z : Belongings). length z.chunks) (same_belongings u);
          frames = λ u. ap (λ (z : Belongings). z.frames) (same_belongings u);
          result = λ u. ap (λ (z : Belongings). z.result) (same_belongings u);
          view = λ u. ap (λ (z : Belongings). z.view) (same_belongings u);
          owner = λ i u e. C.owner i ∙ e;
          taken = λ i u e. inl (sym (C.owner i) ∙ e);
          begun = λ u e. ap (λ (z : Belongings). z.begun) (same_belongings u);
          sources = C.sources;
        });
  }

pub took_fits_then : TookFits
took_fits_then p s journal legal v v' c w t accepted handed C =
    let e : EntryValue = record { worker = w; kind = Took t } in
    let l : Ledger = ledger_of p s journal in
    let l' : Ledger = after p s l e in
    let q : Part = part_for s t (v.belongings t) 0 in
    let W : StandsFor v c l = subst (StandsFor v c) (handed_on l (accepted_on p s l e accepted)) handed in
    let ready = (none_unless (is_ready l t) _ _ (entry_tells p s l e (ap is_none accepted)).2).0 in
    let both = and_parts (is_running (slice_get l.machine.tasks t)) _ ready in
    let g = heap_of_task l t (legal_sound p s journal legal) both.0 in
    let x = running_at l.machine.tasks t (slice_get l.machine.tasks t) refl both.0 in
    let rests : Rests l t = none_is (heap_of l t).worker both.1 in
    let L = took_takes l t w g.0 g.1 in
    let on : l'.machine.end ≡ None = ap (λ (z : MachineState). z.end) L.machine ∙ legal_alive p s journal legal (accepted_on p s l e accepted) in
    let none = legal_rests p s journal legal t rests in
    let own : (v.belongings t).begun ≡ None = none_begun_by_ledger v l t (v.belongings t).begun (W.begun t rests) none in
    let heap : (heap_of l' t).begun ≡ None = ap (λ o. (or_fresh o).begun) (with_at l t (λ h. record h { worker = Some w }) ∙ ap (heap_then (λ h. record h { worker = Some w })) g.1) ∙ (ap (λ o. (or_fresh o).begun) (sym g.1) ∙ none) in
    let V : FitsAt p s q v' l' = fits_beside p s q v v' l' C (took_fits p s v l t w g.0 g.1 W.belongings rests (runs_tell (slice_get l.machine.tasks t) both.0).3) in
    let part : PartFits p s q v' l' = record { fits = V; begun = none_begun (with_belongings v' t (v.belongings t)) (rested l' t) t (v.belongings t).begun own (rested_view (λ z. z.begun) (λ z. refl) l' t ∙ heap) } in
    record { task = x.0; is = ap (λ (z : MachineState). slice_get z.tasks t) L.machine ∙ x.1; runs = x.2; steady = inl refl; part = subst (PartFits p s q v') (sym (aside_is l' on)) part; leaf = refl; fields = refl }
