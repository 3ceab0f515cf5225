-- An entry of steps keeps the relation and the invariant of what is noted.
use Rattle.refinement_laws.proofs.Common.{◌≡◌, ℕ, ℤ, pos, ◌+◌, ◌&&◌, not, false, Option, Some, None, is_some, length, slice_get, inr, refl, ap, sym, subst, ◌∙◌, same_Some, Instr, Set, Mov, Movr, Nil as NilOf, Calc, Same, Jmp, Jz, Newm, Pack, Getr, Geti, Putr, Puti, Cntr, Cnti, Freeze, Cas, Call, Par, Ret, Out, ProgramText, SettingsValue, MachineState, place_in, int_in, object_at, row_of, is_waiting, is_joined, is_on_path, owner_of, Ledger, heap_of, or_fresh, let_go, task_steps, SoundLedger, heap_machine, StepsAlone, rested, StoresOne, WritesOther, Halts, LastKind, Private, Reading, Writing, Printing, Forking, Ending, Joining, Finishing, Halting, IsOfKind, GoesOn, Splits, RunsPrivateSteps, private_alone, rested_worker, rested_sound, worker_step, steps_worker, is_store, is_swap, is_number, waits_rest, alone_along, Belongings, Memory, MemoryStands, Part, FitsAt, with_belongings, part_for, StoresNumberAt, AllNoted, StoresNotes, Stores, StoresInto, EntryMakes, taken_by, StoreMarks, Marks, handed, steps_alone, finished, forked_stands, joined_stands, root_apart, ran_stands}
use Rattle.refinement.proofs.below.ledger_step_laws.BeforeLast as before_last
use Rattle.refinement_laws.proofs.whole.HandedBack.{alive_machine, handed_on, handed_halt, handed_done}
use Rattle.refinement_laws.proofs.whole.RunsOn.{ran_end}
use Rattle.refinement_laws.proofs.notes.AllNotes.{forks_note, joins_note, steps_note, stores_note, numbers_note}
use Rattle.refinement_laws.proofs.parts.Handed.{stores_fit, numbers_fit}
use Rattle.refinement_laws.proofs.notes.NotesAhead.{notes_ahead, notes_back}
use Rattle.refinement_laws.proofs.parts.Others.{result_read}

module _ (p : ProgramText) (s : SettingsValue) (v v' : Memory) (l l' : Ledger) (t w k : ℕ) (h : Belongings) (E : RunsPrivateSteps p s l l' t w k) (alive : l.end ≡ None) (V : MemoryStands v l) (N : AllNoted v l) where
  abbrev q : Part
  q = part_for s t h k

  abbrev m : Ledger
  m = task_steps p l t k

  abbrev S : Splits p s l l' t k
  S = E.splits

  -- the memory with the part's belongings in it, and its accounts
  abbrev vt : Memory
  vt = with_belongings v t h

  abbrev lt : Ledger
  lt = rested m t

  abbrev sound : SoundLedger lt
  sound = before_last.rested_stays_sound p s l l' t w k E

  rests : (heap_of lt t).worker ≡ None
  rests = rested_worker m t

  abbrev idle : is_waiting (slice_get l.machine.tasks t) ≡ false
  idle = before_last.idle_first p s l l' t w k E

  abbrev idle_t : is_waiting (slice_get lt.machine.tasks t) ≡ false
  idle_t = before_last.idle_rested p s l l' t w k E

  abbrev Both : Type 0
  Both = MemoryStands v' l' × AllNoted v' l'

  abbrev Handed : Type 0
  Handed = MemoryStands v' (handed l') × AllNoted v' (handed l')

  -- the memory is unchanged, and the last step changes only what t owns
  stays : v' ≡ v → StepsAlone m l' t → (heap_of l' t).worker ≡ Some w → Both
  stays same A out' =
      let AA = alone_along t l m l' (before_last.alone p s l l' t w k E) A in
      subst (λ (z : Memory). MemoryStands z l' × AllNoted z l') (sym same) (
        steps_alone v l l' t w E.knows.sound V AA (sym (steps_worker p s t k l S.private) ∙ E.out) out' idle,
        steps_note v v l l' t idle AA (λ u ne. refl) (λ i. refl) (λ u. refl) (root_apart v l V t idle) (record { none = (N t).keeps ∙ ap (λ b. b && not (heap_of l t).swept) idle; others = λ u ne. record { keeps = refl; kept = refl; marked = refl } }) N,
      )

  module _ (F : FitsAt p s q v l) where
    notes_t : AllNoted vt lt
    notes_t = notes_ahead p s q v l E.task E.knows F (record { task = E.at; runs = E.runs; can = E.can; steady = inr E.collects }) N

    stores : (W : WritesOther m l' t S.task S.line) (o i b : ℕ) (c : Option (ℕ × ℤ)) (L : (j : ℕ) × (place_in (length W.object.refs) (int_in S.task.top i) ≡ Some j) × StoresOne lt (rested l' t) t S.task W.name W.object o b j c)
        (C : StoresInto v v' m t h S.task W.object o i b c) → StoresNotes vt (with_belongings v' t C.0) t C.4 C.1 → Both
    stores W o i b c L C M =
        let same : L.0 ≡ C.1 = same_Some L.0 C.1 (sym L.1 ∙ C.5) in
        let L' : StoresOne lt (rested l' t) t S.task W.name W.object o b C.1 c = subst (λ j. StoresOne lt (rested l' t) t S.task W.name W.object o b j c) same L.2 in
        let held : (heap_of l' t).worker ≡ Some w = ap (λ (z : Ledger). (heap_of z t).worker) W.goes ∙ E.out in
        let idle' : is_waiting (slice_get l'.machine.tasks t) ≡ false = ap (λ (z : MachineState). is_waiting (slice_get z.tasks t)) (sym (heap_machine l' t let_go)) ∙ (L'.writes.tree.waits t ∙ idle_t) in
        let fits : FitsAt p s (part_for s t C.0 0) v' l' = stores_fit p s q v v' l l' C.0 w S.task W.name W.object o b C.1 c C.2 C.3 C.4 sound F held L' C.6 C.7 in (
          ran_stands p s (part_for s t C.0 0) v' l' w fits held idle',
          notes_back t C.0 v' l' idle' fits.stands (stores_note vt (with_belongings v' t C.0) lt (rested l' t) t S.task W.name W.object o b C.1 c C.2 C.3 C.4 sound F.stands rests L' C.6 C.7 M notes_t),
        )

    writes : (W : WritesOther m l' t S.task S.line) (instr : Instr) → S.line.instr ≡ instr → (C : Stores v v' m t h S.task W.object instr) → StoreMarks v v' m t h S.task W.object instr C → Both
    writes W (Putr o i b) is C M = stores W o i b None (is_store p m l' t S.task S.line E.idle S.at W o i b is) C M
    writes W (Cas d o i e b) is C M =
        let L = is_swap p m l' t S.task S.line E.idle S.at W d o i e b is in
        stores W o i b (Some (d, pos 1)) (L.0, L.1, L.3) C M
    writes W (Puti o i b) is C M =
        let L = is_number p m l' t S.task S.line E.idle S.at W o i b is in
        let same : C.1 ≡ L.0 = same_Some C.1 L.0 (sym C.5 ∙ L.1) in
        let C' : StoresNumberAt vt (with_belongings v' t C.0) t C.2 C.3 C.4 b L.0 = subst (StoresNumberAt vt (with_belongings v' t C.0) t C.2 C.3 C.4 b) same C.6 in
        let held : (heap_of l' t).worker ≡ Some w = ap (λ (z : Ledger). (heap_of z t).worker) W.goes ∙ E.out in
        let idle' : is_waiting (slice_get l'.machine.tasks t) ≡ false = ap (λ (z : MachineState). is_waiting (slice_get z.tasks t)) (sym (heap_machine l' t let_go)) ∙ (L.2.writes.tree.waits t ∙ idle_t) in
        let fits : FitsAt p s (part_for s t C.0 0) v' l' = numbers_fit p s q v v' l l' C.0 w S.task W.name W.object o b L.0 C.2 C.3 C.4 sound F held L.2 C' C.7 in (
          ran_stands p s (part_for s t C.0 0) v' l' w fits held idle',
          notes_back t C.0 v' l' idle' fits.stands (numbers_note vt (with_belongings v' t C.0) lt (rested l' t) t S.task W.name W.object o b L.0 C.2 C.3 C.4 L.2 C' M notes_t),
        )
    writes W (Set d a) is C M = absurd C
    writes W (Mov d a) is C M = absurd C
    writes W (Movr d a) is C M = absurd C
    writes W (NilOf d) is C M = absurd C
    writes W (Calc op d a b) is C M = absurd C
    writes W (Same d a b) is C M = absurd C
    writes W (Jmp to) is C M = absurd C
    writes W (Jz a to) is C M = absurd C
    writes W (Newm d a b) is C M = absurd C
    writes W (Pack d a b) is C M = absurd C
    writes W (Getr d o i) is C M = absurd C
    writes W (Geti d o i) is C M = absurd C
    writes W (Cntr d o) is C M = absurd C
    writes W (Cnti d o) is C M = absurd C
    writes W (Freeze o) is C M = absurd C
    writes W (Call g) is C M = absurd C
    writes W (Par f g) is C M = absurd C
    writes W Ret is C M = absurd C
    writes W (Out a) is C M = absurd C

  -- a step after which the run goes on
  goes : l'.machine.end ≡ None → Both → Handed
  goes on = subst (λ (z : Ledger). MemoryStands v' z × AllNoted v' z) (sym (handed_on l' (ran_end p s l l' t w k E (alive_machine p s l l' t w k E) on ∙ alive)))

  -- a halt changes nothing but the end
  halt_alone : Halts m l' → StepsAlone m l' t
  halt_alone H = record {
    tree = record {
      made = λ u. ap (λ (z : MachineState). is_some (slice_get z.tasks u)) H.machine;
      owners = λ a. ap (λ (z : MachineState). owner_of z.tasks a) H.machine;
      paths = λ a u. ap (λ (z : MachineState). is_on_path z.tasks a u) H.machine;
      waits = λ u. ap (λ (z : MachineState). is_waiting (slice_get z.tasks u)) H.machine;
      joins = λ u. ap (λ (z : MachineState). is_joined (slice_get z.tasks u)) H.machine;
    };
    tasks = λ u ne. ap (λ (z : MachineState). slice_get z.tasks u) H.machine;
    heaps = λ u ne. ap (λ hs. or_fresh (slice_get hs u)) H.heaps;
    rows = λ u ne. ap (λ (z : MachineState). length (row_of (slice_get z.store u))) H.machine;
    store = λ n ne. ap (λ (z : MachineState). object_at z.store n) H.machine;
  }

  keeps_by_kind : (kind : LastKind) (K : IsOfKind p m l' t S.task S.line kind) → (GoesOn kind → l'.machine.end ≡ None) → FitsAt p s (part_for s t h (taken_by kind k)) v l → (C : EntryMakes p v v' m l' t h S.task S.line kind K) → Marks p v v' m l' t h S.task S.line kind K C → Handed
  keeps_by_kind Private K on F C M = goes (on tt) (stays C (subst (λ (z : Ledger). StepsAlone m z t) (sym S.after) (private_alone p m t K (before_last.known p s l l' t w k E).sound)) (ap (λ (z : Ledger). (heap_of z t).worker) S.after ∙ (worker_step p s t m K ∙ E.out)))
  keeps_by_kind Reading K on F C M = goes (on tt) (stays C K.alone (ap (λ (z : Ledger). (heap_of z t).worker) K.goes ∙ E.out))
  keeps_by_kind Writing K on F C M = goes (on tt) (writes F K S.line.instr refl C M)
  keeps_by_kind Printing K on F C M = goes (on tt) (stays C K.alone (ap (λ (z : Ledger). (heap_of z t).worker) K.goes ∙ E.out))
  keeps_by_kind Forking K on F C M = goes (on tt) (
    forked_stands vt v' lt l' t (length m.machine.tasks) (length m.machine.tasks + 1) K.left K.right S.task sound F.stands S.at.runs rests K.forks C,
    forks_note vt v' lt l' t (length m.machine.tasks) (length m.machine.tasks + 1) K.left K.right S.task M.0 sound F.stands S.at.runs rests (waits_rest m t E.idle) K.forks C M.1 K.names M.2 (notes_t F),
  )
  keeps_by_kind Ending K on F C M = goes (on tt) (
    finished vt v' lt l' t S.task C.0 C.1 sound E.knows_then.sound F.stands rests K.ends C.2,
    steps_note vt v' lt l' t idle_t K.ends.alone C.2.others C.2.owner C.2.sources (root_apart vt lt F.stands t idle_t) M (notes_t F),
  )
  keeps_by_kind Joining K on F C M = goes (on tt) (
    joined_stands vt v' lt l' K.parent K.left (K.left + 1) K.above K.left_result K.right_result C.0 C.1 sound F.stands K.joins K.can C.2
        (result_read vt lt K.left K.left_result C.0 F.stands K.can.left_rests C.3) (result_read vt lt (K.left + 1) K.right_result C.1 F.stands K.can.right_rests C.4),
    joins_note vt v' lt l' K.parent K.left (K.left + 1) K.above K.left_result K.right_result C.0 C.1 F.stands K.joins K.can C.2 M (notes_t F),
  )
  -- the root is returned
  keeps_by_kind Finishing K on F C M =
      subst (λ (z : Ledger). MemoryStands v' z × AllNoted v' z) (sym (handed_done l l' t w k p s E K)) (
        finished vt v' lt (rested l' t) t S.task C.0 C.1 sound (rested_sound l' t E.knows_then.sound) F.stands rests K.ends C.2,
        steps_note vt v' lt (rested l' t) t idle_t K.ends.alone C.2.others C.2.owner C.2.sources (root_apart vt lt F.stands t idle_t) M (notes_t F),
      )
  keeps_by_kind Halting K on F C M =
      subst (λ (z : Ledger). MemoryStands v' z × AllNoted v' z) (sym (handed_halt m l' K)) (stays C (halt_alone K) (ap (λ hs. (or_fresh (slice_get hs t)).worker) K.heaps ∙ E.out))

  pub ran_keeps : FitsAt p s (part_for s t h (taken_by S.kind k)) v l → (C : EntryMakes p v v' m l' t h S.task S.line S.kind S.last) → Marks p v v' m l' t h S.task S.line S.kind S.last C → Handed
  ran_keeps = keeps_by_kind S.kind S.last S.on
