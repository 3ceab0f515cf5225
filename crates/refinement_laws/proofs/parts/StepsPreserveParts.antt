-- An entry of steps keeps the parts of others fitting.
use Rattle.refinement_laws.proofs.Common.{◌≡◌, ℕ, ℤ, pos, ◌+◌, Option, Some, None, length, slice_get, inl, inr, refl, ap, sym, subst, ◌∙◌, same_Some, Instr, Set, Mov, Movr, Nil as NilOf, Calc, Same, Jmp, Jz, Newm, Pack, Getr, Geti, Putr, Puti, Cntr, Cnti, Freeze, Cas, Call, Par, Ret, Out, ProgramText, SettingsValue, Task, MachineState, place_in, int_in, runs, is_running, Ledger, heap_of, let_go, task_steps, StepsAlone, LedgerIsKnown, Leaves, rested, StoresOne, WritesOther, Halts, LastKind, Private, Reading, Writing, Printing, Forking, Ending, Joining, Finishing, Halting, IsOfKind, GoesOn, Splits, RunsPrivateSteps, private_alone, with_off, steps_limit, steps_end, steps_off, worker_step, steps_worker, is_store, is_swap, is_number, root_alone, alone_along, Belongings, Memory, Part, FitsAt, FitsAfterRun, with_belongings, ahead, part_for, StoresAt, StoresNumberAt, RunsWithPart, IsSteady, AreOut, Stores, StoresInto, EntryMakes, taken_by, ran_fits, heap_machine, steady_same}
use Rattle.refinement.specs.below.hh_model.{End}
use Rattle.refinement_laws.proofs.parts.Along.{fits_alone}
use Rattle.refinement_laws.proofs.parts.Leave as leave
use Rattle.refinement_laws.proofs.parts.NonMovingEntries.{aside_is, fits_halt}
use Rattle.refinement.proofs.below.ledger_step_laws.BeforeLast as before_last

module _ (p : ProgramText) (s : SettingsValue) (v v' : Memory) (l l' : Ledger) (t w k : ℕ) (h : Belongings) (E : RunsPrivateSteps p s l l' t w k) (on : l'.machine.end ≡ None) where
  abbrev q : Part
  q = part_for s t h k

  module _ (r : Part) (y : Task) (P : RunsWithPart l r y) (ne : t ≡ r.task → ⊥) (G : FitsAt p s r v l) where
    abbrev m : Ledger
    m = task_steps p l t k

    abbrev S : Splits p s l l' t k
    S = E.splits

    pub out : AreOut l q r E.task y
    out = record { first = record { task = E.at; runs = E.runs; can = E.can; steady = inr E.collects }; second = P; apart = ne }

    pub left : Leaves r.task (ahead p q l) l'
    left = E.leaves r.task (λ e. ne (sym e)) (ap is_running P.task ∙ P.runs) on

    -- the accounts by l' and l
    pub limit : l'.machine.field_limit ≡ l.machine.field_limit
    limit = left.limit ∙ (ap (λ (z : MachineState). z.field_limit) (heap_machine m t let_go) ∙ steps_limit p s t k l S.private)

    pub end : l'.machine.end ≡ l.machine.end
    end = left.end ∙ (ap (λ (z : MachineState). z.end) (heap_machine m t let_go) ∙ steps_end p s t k l S.private)

    pub heap : slice_get l'.heaps r.task ≡ slice_get l.heaps r.task
    heap = left.heap ∙ (with_off m t r.task let_go (λ e. ne (sym e)) ∙ steps_off p s t k l r.task (λ e. ne (sym e)) S.private)

    -- the memory is unchanged, and the last step changes only what t owns
    stays : v' ≡ v → StepsAlone m l' t → (heap_of l' t).worker ≡ Some w → FitsAt p s r v' l'
    stays same A out' =
        subst (λ (z : Memory). FitsAt p s r z l') (sym same)
        (fits_alone p s r v l l' t w y ne (alone_along t l m l' (before_last.alone p s l l' t w k E) A) limit end heap (sym (steps_worker p s t k l S.private) ∙ E.out) out' (before_last.idle_first p s l l' t w k E) E.knows E.knows_then P.steady P.task P.runs P.can G)

    stores : FitsAt p s q v l → (W : WritesOther m l' t S.task S.line) (o i b : ℕ) (c : Option (ℕ × ℤ)) (L : (j : ℕ) × (place_in (length W.object.refs) (int_in S.task.top i) ≡ Some j) × StoresOne (rested m t) (rested l' t) t S.task W.name W.object o b j c)
        → StoresInto v v' m t h S.task W.object o i b c → FitsAt p s r v' l'
    stores F W o i b c L C =
        let same : C.1 ≡ L.0 = same_Some C.1 L.0 (sym C.5 ∙ L.1) in
        let held : (heap_of l' t).worker ≡ Some w = ap (λ (z : Ledger). (heap_of z t).worker) W.goes ∙ E.out in
        leave.stores p s q v v' l l' C.0 w S.task W.name W.object o b L.0 c C.2 C.3 C.4 E.knows E.knows_then F held L.2
        (subst (λ j. StoresAt (with_belongings v t h) (with_belongings v' t C.0) (rested m t) t C.2 C.3 C.4 b j c) same C.6) C.7 r E.task y out left G

    writes : FitsAt p s q v l → (W : WritesOther m l' t S.task S.line) (instr : Instr) → S.line.instr ≡ instr → Stores v v' m t h S.task W.object instr → FitsAt p s r v' l'
    writes F W (Putr o i b) is C = stores F W o i b None (is_store p m l' t S.task S.line E.idle S.at W o i b is) C
    writes F W (Cas d o i e b) is C =
        let L = is_swap p m l' t S.task S.line E.idle S.at W d o i e b is in
        stores F W o i b (Some (d, pos 1)) (L.0, L.1, L.3) C
    writes F W (Puti o i b) is C =
        let L = is_number p m l' t S.task S.line E.idle S.at W o i b is in
        let same : C.1 ≡ L.0 = same_Some C.1 L.0 (sym C.5 ∙ L.1) in
        let held : (heap_of l' t).worker ≡ Some w = ap (λ (z : Ledger). (heap_of z t).worker) W.goes ∙ E.out in
        leave.numbers p s q v v' l l' C.0 w S.task W.name W.object o b L.0 C.2 C.3 C.4 E.knows E.knows_then F held L.2
        (subst (StoresNumberAt (with_belongings v t h) (with_belongings v' t C.0) t C.2 C.3 C.4 b) same C.6) C.7 r E.task y out left G
    writes F W (Set d a) is C = absurd C
    writes F W (Mov d a) is C = absurd C
    writes F W (Movr d a) is C = absurd C
    writes F W (NilOf d) is C = absurd C
    writes F W (Calc op d a b) is C = absurd C
    writes F W (Same d a b) is C = absurd C
    writes F W (Jmp to) is C = absurd C
    writes F W (Jz a to) is C = absurd C
    writes F W (Newm d a b) is C = absurd C
    writes F W (Pack d a b) is C = absurd C
    writes F W (Getr d o i) is C = absurd C
    writes F W (Geti d o i) is C = absurd C
    writes F W (Cntr d o) is C = absurd C
    writes F W (Cnti d o) is C = absurd C
    writes F W (Freeze o) is C = absurd C
    writes F W (Call g) is C = absurd C
    writes F W (Par f g) is C = absurd C
    writes F W Ret is C = absurd C
    writes F W (Out a) is C = absurd C

    none_some : {A : Type 0} {e : End} → ◌≡◌ {A = Option End} None (Some e) → A
    none_some e = absurd cc

    preserved_by_kind : (kind : LastKind) (K : IsOfKind p m l' t S.task S.line kind) → FitsAt p s (part_for s t h (taken_by kind k)) v l → EntryMakes p v v' m l' t h S.task S.line kind K → FitsAt p s r v' l'
    preserved_by_kind Private private F C =
        stays C (subst (λ (z : Ledger). StepsAlone m z t) (sym S.after) (private_alone p m t private (before_last.known p s l l' t w k E).sound))
        (ap (λ (z : Ledger). (heap_of z t).worker) S.after ∙ (worker_step p s t m private ∙ E.out))
    preserved_by_kind Reading reads F C = stays C reads.alone (ap (λ (z : Ledger). (heap_of z t).worker) reads.goes ∙ E.out)
    preserved_by_kind Writing W F C = writes F W S.line.instr refl C
    preserved_by_kind Printing prints F C = stays C prints.alone (ap (λ (z : Ledger). (heap_of z t).worker) prints.goes ∙ E.out)
    preserved_by_kind Forking f F C =
        leave.forks p s q v v' l l' (length m.machine.tasks) (length m.machine.tasks + 1) f.left f.right S.task E.knows E.knows_then F S.at.runs f.forks C r E.task y out left G
    preserved_by_kind Ending e F C = leave.finishes p s q v v' l l' S.task C.0 C.1 E.knows E.knows_then F e.ends C.2 r E.task y out left G
    preserved_by_kind Joining j F C =
        leave.joins p s q v v' l l' j.parent j.left (j.left + 1) j.above j.left_result j.right_result C.0 C.1 E.knows E.knows_then F j.joins j.can C.2 C.3 C.4 r E.task y out left G
    preserved_by_kind Finishing d F C = none_some (sym on ∙ d.ended)
    preserved_by_kind Halting n F C = none_some (sym on ∙ ap (λ (z : MachineState). z.end) n.machine)

    pub ran_leaves : FitsAt p s (part_for s t h (taken_by S.kind k)) v l → EntryMakes p v v' m l' t h S.task S.line S.kind S.last → FitsAt p s r v' l'
    ran_leaves = preserved_by_kind S.kind S.last

-- ALSO IF THE RUN ENDS, ignoring the machine's end

module _ (p : ProgramText) (s : SettingsValue) (v v' : Memory) (l l' : Ledger) (t w k : ℕ) (h : Belongings) (E : RunsPrivateSteps p s l l' t w k) where
  abbrev mk : Ledger
  mk = task_steps p l t k

  abbrev T : Splits p s l l' t k
  T = E.splits

  abbrev going : mk.machine.end ≡ None
  going = before_last.going p s l l' t w k E

  abbrev known : LedgerIsKnown mk
  known = before_last.known p s l l' t w k E

  module _ (r : Part) (y : Task) (P : RunsWithPart l r y) (ne : t ≡ r.task → ⊥) (G : FitsAt p s r v l) where
    aside_fits : l'.machine.end ≡ None → FitsAt p s r v' l' → FitsAfterRun p s r v' l'
    aside_fits on fit = subst (FitsAt p s r v') (sym (aside_is l' on)) fit

    abbrev alone : StepsAlone l mk t
    alone = before_last.alone p s l l' t w k E

    steady : IsSteady r mk
    steady = steady_same r l mk (steps_off p s t k l r.task (λ i. ne (sym i)) T.private) P.steady

    -- it fits before the last step
    fits_then : FitsAt p s r v mk
    fits_then =
        fits_alone p s r v l mk t w y ne alone (steps_limit p s t k l T.private) (steps_end p s t k l T.private) (steps_off p s t k l r.task (λ e. ne (sym e)) T.private) (sym (steps_worker p s t k l T.private) ∙ E.out) E.out
        (before_last.idle_first p s l l' t w k E) E.knows known P.steady P.task P.runs P.can G

    all : (kind : LastKind) (K : IsOfKind p mk l' t T.task T.line kind) → (GoesOn kind → l'.machine.end ≡ None) → FitsAt p s (part_for s t h (taken_by kind k)) v l → EntryMakes p v v' mk l' t h T.task T.line kind K → FitsAfterRun p s r v' l'
    all Private K on F C = aside_fits (on tt) (preserved_by_kind p s v v' l l' t w k h E (on tt) r y P ne G Private K F C)
    all Reading K on F C = aside_fits (on tt) (preserved_by_kind p s v v' l l' t w k h E (on tt) r y P ne G Reading K F C)
    all Writing K on F C = aside_fits (on tt) (preserved_by_kind p s v v' l l' t w k h E (on tt) r y P ne G Writing K F C)
    all Printing K on F C = aside_fits (on tt) (preserved_by_kind p s v v' l l' t w k h E (on tt) r y P ne G Printing K F C)
    all Forking K on F C = aside_fits (on tt) (preserved_by_kind p s v v' l l' t w k h E (on tt) r y P ne G Forking K F C)
    all Ending K on F C = aside_fits (on tt) (preserved_by_kind p s v v' l l' t w k h E (on tt) r y P ne G Ending K F C)
    all Joining K on F C = aside_fits (on tt) (preserved_by_kind p s v v' l l' t w k h E (on tt) r y P ne G Joining K F C)
    -- if the root ends, no other task runs
    all Finishing d on F C =
        absurd (ne (sym (root_alone mk known.sound E.root t r.task T.task y T.at.task (ap runs T.at.runs) d.root (alone.tasks r.task (λ e. ne (sym e)) ∙ P.task) P.runs)))
    all Halting n on F C =
        subst (λ (z : Memory). FitsAfterRun p s r z l') (sym C) (fits_halt p s v mk l' known.sound going n r steady fits_then)

    pub ran_leaves_still : FitsAt p s (part_for s t h (taken_by T.kind k)) v l → EntryMakes p v v' mk l' t h T.task T.line T.kind T.last → FitsAfterRun p s r v' l'
    ran_leaves_still = all T.kind T.last T.on

  -- and the part of the task itself, if the run halts
  pub halt_fits : FitsAt p s (part_for s t h k) v l → Halts mk l' → FitsAfterRun p s (part_for s t h 0) v l'
  halt_fits F H = fits_halt p s v mk l' known.sound going H (part_for s t h 0) (inl refl) (ran_fits p s (part_for s t h k) v l w F E.out)
