-- An entry of steps leaves no begun collection among the belongings of a task at rest.
use Rattle.refinement_laws.proofs.Common.{◌≡◌, ℕ, ◌+◌, Some, None, List, length, slice_get, inl, inr, refl, ap, sym, subst, ◌∙◌, cases_eq, none_some, Instr, Set, Mov, Movr, Nil as NilOf, Calc, Same, Jmp, Jz, Newm, Pack, Getr, Geti, Putr, Puti, Cntr, Cnti, Freeze, Cas, Call, Par, Ret, Out, ProgramText, SettingsValue, Heap, Ledger, heap_of, or_fresh, let_go, task_steps, CallFrame, Rests, StepsAlone, rested, EndsTask, WritesOther, LastKind, Private, Reading, Writing, Printing, Forking, Ending, Joining, Finishing, Halting, IsOfKind, GoesOn, Splits, RunsPrivateSteps, private_alone, with_off, rested_view, worker_step, Belongings, Memory, with_belongings, EndsBelongings, Stores, EntryMakes, handed, at_belongings, off_belongings}
use Rattle.refinement.proofs.below.ledger_step_laws.BeforeLast as before_last
use Rattle.refinement_laws.proofs.whole.HandedBack.{alive_machine, handed_on, handed_halt, handed_done}
use Rattle.refinement_laws.proofs.whole.RunsOn.{ran_end}

module _ (p : ProgramText) (s : SettingsValue) (v v' : Memory) (l l' : Ledger) (t w k : ℕ) (h : Belongings) (E : RunsPrivateSteps p s l l' t w k) (alive : l.end ≡ None) (resting : (u : ℕ) → Rests l u → (v.belongings u).begun ≡ None) (own : h.begun ≡ None) (accounts : (u : ℕ) → Rests l' u → (heap_of l' u).begun ≡ None) (still : (heap_of (task_steps p l t k) t).begun ≡ None) where
  abbrev m : Ledger
  m = task_steps p l t k

  abbrev S : Splits p s l l' t k
  S = E.splits

  abbrev vt : Memory
  vt = with_belongings v t h

  abbrev Idle : Ledger → Type 0
  Idle n = (u : ℕ) → Rests n u → ((heap_of n u).begun ≡ None) × ((v'.belongings u).begun ≡ None)

  other : (u : ℕ) → (u ≡ t → ⊥) → Rests m u → (v.belongings u).begun ≡ None
  other u ne r = resting u (ap (λ (z : Heap). z.worker) (sym ((before_last.alone p s l l' t w k E).heaps u ne)) ∙ r)

  -- with the part's belongings
  before : (u : ℕ) → Rests (rested m t) u → (vt.belongings u).begun ≡ None
  before u r = elim (cases_eq u t) [
    | inl e ↦ ap (λ z. (vt.belongings z).begun) e ∙ (ap (λ (z : Belongings). z.begun) (at_belongings v t h) ∙ own)
    | inr ne ↦ ap (λ (z : Belongings). z.begun) (off_belongings v t h u ne) ∙ other u ne (ap (λ o. (or_fresh o).worker) (sym (with_off m t u let_go ne)) ∙ r)
  ]

  -- the worker goes on with the task
  held : (heap_of l' t).worker ≡ Some w → ((u : ℕ) → (u ≡ t → ⊥) → heap_of l' u ≡ heap_of m u) → ((u : ℕ) → (u ≡ t → ⊥) → (v'.belongings u).begun ≡ (v.belongings u).begun) → Idle l'
  held out heaps same u r = elim (cases_eq u t) [
    | inl e ↦ none_some (sym (subst (Rests l') e r) ∙ out)
    | inr ne ↦ (accounts u r, same u ne ∙ other u ne (ap (λ (z : Heap). z.worker) (sym (heaps u ne)) ∙ r))
  ]

  stays : v' ≡ v → (heap_of l' t).worker ≡ Some w → ((u : ℕ) → (u ≡ t → ⊥) → heap_of l' u ≡ heap_of m u) → Idle l'
  stays e out heaps = held out heaps (λ u ne. ap (λ (z : Memory). (z.belongings u).begun) e)

  goes : l'.machine.end ≡ None → Idle l' → Idle (handed l')
  goes on = subst Idle (sym (handed_on l' (ran_end p s l l' t w k E (alive_machine p s l l' t w k E) on ∙ alive)))

  -- it has ended
  ended : (n : Ledger) (f : CallFrame) (fs : List CallFrame) → EndsTask (rested m t) n t S.task → EndsBelongings vt v' t f fs → ((u : ℕ) → Rests n u → (heap_of n u).begun ≡ None) → Idle n
  ended n f fs L C at u r = (
    at u r,
    elim (cases_eq u t) [
      | inl e ↦ ap (λ z. (v'.belongings z).begun) e ∙ (C.begun ∙ (ap (λ (z : Belongings). z.begun) (at_belongings v t h) ∙ own))
      | inr ne ↦ ap (λ (z : Belongings). z.begun) (C.others u ne) ∙ before u (ap (λ (z : Heap). z.worker) (sym (L.alone.heaps u ne)) ∙ r)
    ],
  )

  wrote : (g : Belongings) (begun : (u : ℕ) → ((with_belongings v' t g).belongings u).begun ≡ (vt.belongings u).begun) (u : ℕ) → (u ≡ t → ⊥) → (v'.belongings u).begun ≡ (v.belongings u).begun
  wrote g begun u ne = ap (λ (z : Belongings). z.begun) (sym (off_belongings v' t g u ne)) ∙ (begun u ∙ ap (λ (z : Belongings). z.begun) (off_belongings v t h u ne))

  writes : (W : WritesOther m l' t S.task S.line) (instr : Instr) → Stores v v' m t h S.task W.object instr → (u : ℕ) → (u ≡ t → ⊥) → (v'.belongings u).begun ≡ (v.belongings u).begun
  writes W (Putr o i b) C = wrote C.0 C.6.writes.begun
  writes W (Cas d o i e b) C = wrote C.0 C.6.writes.begun
  writes W (Puti o i b) C = wrote C.0 C.6.writes.begun
  writes W (Set d a) C = absurd C
  writes W (Mov d a) C = absurd C
  writes W (Movr d a) C = absurd C
  writes W (NilOf d) C = absurd C
  writes W (Calc op d a b) C = absurd C
  writes W (Same d a b) C = absurd C
  writes W (Jmp to) C = absurd C
  writes W (Jz a to) C = absurd C
  writes W (Newm d a b) C = absurd C
  writes W (Pack d a b) C = absurd C
  writes W (Getr d o i) C = absurd C
  writes W (Geti d o i) C = absurd C
  writes W (Cntr d o) C = absurd C
  writes W (Cnti d o) C = absurd C
  writes W (Freeze o) C = absurd C
  writes W (Call g) C = absurd C
  writes W (Par f g) C = absurd C
  writes W Ret C = absurd C
  writes W (Out a) C = absurd C

  idle_by_kind : (kind : LastKind) (K : IsOfKind p m l' t S.task S.line kind) → (GoesOn kind → l'.machine.end ≡ None) → EntryMakes p v v' m l' t h S.task S.line kind K → Idle (handed l')
  idle_by_kind Private K on C =
      let A : StepsAlone m l' t = subst (λ (z : Ledger). StepsAlone m z t) (sym S.after) (private_alone p m t K (before_last.known p s l l' t w k E).sound) in
      goes (on tt) (stays C (ap (λ (z : Ledger). (heap_of z t).worker) S.after ∙ (worker_step p s t m K ∙ E.out)) A.heaps)
  idle_by_kind Reading K on C = goes (on tt) (stays C (ap (λ (z : Ledger). (heap_of z t).worker) K.goes ∙ E.out) K.alone.heaps)
  idle_by_kind Writing K on C = goes (on tt) (held (ap (λ (z : Ledger). (heap_of z t).worker) K.goes ∙ E.out) (λ u ne. ap (λ (z : Ledger). heap_of z u) K.goes) (writes K S.line.instr C))
  idle_by_kind Printing K on C = goes (on tt) (stays C (ap (λ (z : Ledger). (heap_of z t).worker) K.goes ∙ E.out) K.alone.heaps)
  idle_by_kind Forking K on C = goes (on tt) (λ u r. (accounts u r, forked u r))
    where
      forked : (u : ℕ) → Rests l' u → (v'.belongings u).begun ≡ None
      forked u r =
          let a : ℕ = length m.machine.tasks in
          elim (cases_eq u t) [
            | inl e ↦ ap (λ z. (v'.belongings z).begun) e ∙ (ap (λ (z : Belongings). z.begun) C.belongings ∙ (ap (λ (z : Belongings). z.begun) (at_belongings v t h) ∙ own))
            | inr nt ↦ elim (cases_eq u a) [
              | inl e ↦ ap (λ z. (v'.belongings z).begun) e ∙ ap (λ (z : Belongings). z.begun) C.left
              | inr na ↦ elim (cases_eq u (a + 1)) [
                | inl e ↦ ap (λ z. (v'.belongings z).begun) e ∙ ap (λ (z : Belongings). z.begun) C.right
                | inr nb ↦ ap (λ (z : Belongings). z.begun) (C.others u nt na nb) ∙ before u (ap (λ (z : Heap). z.worker) (sym (K.forks.heaps u nt na nb)) ∙ r)
              ]
            ]
          ]
  idle_by_kind Ending K on C = goes (on tt) (ended l' C.0 C.1 K.ends C.2 accounts)
  idle_by_kind Joining K on C = goes (on tt) (λ u r. (accounts u r, joined u r))
    where
      joined : (u : ℕ) → Rests l' u → (v'.belongings u).begun ≡ None
      joined u r = elim (cases_eq u K.parent) [
        | inl e ↦ ap (λ z. (v'.belongings z).begun) e ∙ (C.2.begun ∙ before K.parent K.can.rests)
        | inr np ↦ elim (cases_eq u K.left) [
          | inl e ↦ ap (λ z. (v'.belongings z).begun) e ∙ ap (λ (z : Belongings). z.begun) C.2.left
          | inr nl ↦ elim (cases_eq u (K.left + 1)) [
            | inl e ↦ ap (λ z. (v'.belongings z).begun) e ∙ ap (λ (z : Belongings). z.begun) C.2.right
            | inr nr ↦ ap (λ (z : Belongings). z.begun) (C.2.others u np nl nr) ∙ before u (ap (λ (z : Heap). z.worker) (sym (K.joins.heaps u np nl nr)) ∙ r)
          ]
        ]
      ]
  idle_by_kind Finishing K on C = subst Idle (sym (handed_done l l' t w k p s E K)) (ended (rested l' t) C.0 C.1 K.ends C.2 idle_by_kind_at)
    where
      idle_by_kind_at : (u : ℕ) → Rests (rested l' t) u → (heap_of (rested l' t) u).begun ≡ None
      idle_by_kind_at u r = elim (cases_eq u t) [
        | inl e ↦ ap (λ z. (heap_of (rested l' t) z).begun) e ∙ (rested_view (λ z. z.begun) (λ z. refl) l' t ∙ (ap (λ hs. (or_fresh (slice_get hs t)).begun) K.heaps ∙ still))
        | inr ne ↦ ap (λ o. (or_fresh o).begun) (with_off l' t u let_go ne) ∙ accounts u (ap (λ o. (or_fresh o).worker) (sym (with_off l' t u let_go ne)) ∙ r)
      ]
  idle_by_kind Halting K on C =
      subst Idle (sym (handed_halt m l' K)) (stays C (ap (λ hs. (or_fresh (slice_get hs t)).worker) K.heaps ∙ E.out) (λ u ne. ap (λ hs. or_fresh (slice_get hs u)) K.heaps))

  pub ran_idle : EntryMakes p v v' m l' t h S.task S.line S.kind S.last → Idle (handed l')
  ran_idle = idle_by_kind S.kind S.last S.on
