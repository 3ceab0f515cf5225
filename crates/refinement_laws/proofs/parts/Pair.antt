-- Two parts that fit a memory fit it together.
use Rattle.refinement_laws.proofs.Common.{◌≡◌, ap, sym, ◌∙◌, ProgramText, SettingsValue, Task, MachineState, is_waiting, is_joined, running_tells, Ledger, let_go, task_steps, heap_machine, Memory, MemoryStands, Part, FitsAt, ahead, with_belongings, ArePrivate, StepsAlone, AlikeFor, LedgerIsKnown, IsSteady, RunsWithPart, Beside, with_off, alike_steps, steps_limit, steps_end, steps_off, steps_know, rested_knows, leaf_alone, steady_same}
use Rattle.refinement_laws.proofs.parts.Along.{rested_alike, alone_ahead, alike_alone}
use Rattle.refinement_laws.proofs.parts.Beside.{together}
use Rattle.refinement_laws.proofs.parts.Parts.{ahead_alone, ahead_sound}

pub knows_ahead : (p : ProgramText) (s : SettingsValue) (q : Part) (v : Memory) (l : Ledger) (x : Task) → LedgerIsKnown l → FitsAt p s q v l → RunsWithPart l q x → LedgerIsKnown (ahead p q l)
knows_ahead p s q v l x K F O = rested_knows (task_steps p l q.task q.fresh) q.task (steps_know p s q.task q.fresh l x K O.steady O.task O.runs O.can F.private)

module _ (p : ProgramText) (s : SettingsValue) (q r : Part) (v : Memory) (l : Ledger) (x y : Task) (K : LedgerIsKnown l) (F : FitsAt p s q v l) (G : FitsAt p s r v l) (O : RunsWithPart l q x) (P : RunsWithPart l r y) (ne : q.task ≡ r.task → ⊥) where
  abbrev lq : Ledger
  lq = ahead p q l

  abbrev lr : Ledger
  lr = ahead p r l

  -- both have taken their steps
  abbrev both : Ledger
  both = ahead p r lq

  pub knows : LedgerIsKnown lq
  knows = knows_ahead p s q v l x K F O

  pub N : StepsAlone l lq q.task
  N = ahead_alone p s q l K.sound O.steady F.private

  pub alike : AlikeFor r.task l lq
  alike =
      let e = heap_machine (task_steps p l q.task q.fresh) q.task let_go in
      alike_alone p s r l lq q.task ne
      (λ h. ne (leaf_alone l K.sound q.task r.task (ap is_waiting O.task ∙ (running_tells x.status O.runs).1) (ap is_joined P.task ∙ (running_tells y.status P.runs).0) h)) N (ap (λ (m : MachineState). m.field_limit) e ∙ steps_limit p s q.task q.fresh l F.private) (ap (λ (m : MachineState). m.end) e ∙ steps_end p s q.task q.fresh l F.private)
      (with_off (task_steps p l q.task q.fresh) q.task r.task let_go (λ h. ne (sym h)) ∙ steps_off p s q.task q.fresh l r.task (λ h. ne (sym h)) F.private)

  pub then_ : ArePrivate p s lq r.task r.fresh × AlikeFor r.task (task_steps p l r.task r.fresh) (task_steps p lq r.task r.fresh)
  then_ = alike_steps p s r.task r.fresh l lq y K knows P.steady alike P.task P.runs P.can G.private

  pub steady : IsSteady r lq
  steady = steady_same r l lq alike.heap P.steady

  pub more : StepsAlone lq both r.task
  more = ahead_alone p s r lq knows.sound steady then_.0

  pub beside : Beside lq lr both q.task r.task
  beside = record {
    apart = ne;
    sound_t = knows.sound;
    sound_u = ahead_sound p s r l K.sound P.steady;
    sound = ahead_sound p s r lq knows.sound steady;
    steps_t = more;
    steps_u = alone_ahead p s r l lq lr both q.task N (ahead_alone p s r l K.sound P.steady G.private) more (rested_alike p s r (task_steps p l r.task r.fresh) (task_steps p lq r.task r.fresh) then_.1);
    idle_t = more.tree.waits q.task ∙ (N.tree.waits q.task ∙ (ap is_waiting O.task ∙ (running_tells x.status O.runs).1));
    idle_u = more.tree.waits r.task ∙ (N.tree.waits r.task ∙ (ap is_waiting P.task ∙ (running_tells y.status P.runs).1));
    live_t = more.tree.joins q.task ∙ (N.tree.joins q.task ∙ (ap is_joined O.task ∙ (running_tells x.status O.runs).0));
    live_u = more.tree.joins r.task ∙ (N.tree.joins r.task ∙ (ap is_joined P.task ∙ (running_tells y.status P.runs).0));
  }

  -- so the memory with the belongings of both stands for the accounts with the steps of both
  pub fit_together : MemoryStands (with_belongings (with_belongings v q.task q.belongings) r.task r.belongings) both
  fit_together = together v lq lr both q.task r.task q.belongings r.belongings beside F.stands G.stands
