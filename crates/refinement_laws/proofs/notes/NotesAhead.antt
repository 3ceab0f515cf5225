-- The notes of a memory with a part's belongings in it, by the accounts with the part's steps, and back.
use Rattle.refinement_laws.proofs.Common.{◌≡◌, false, slice_get, refl, ap, sym, subst, ◌∙◌, ◌&&◌, not, MachineState, is_waiting, running_tells, heap_of, let_go, heap_machine, Rests, rested, with_belongings, root_apart, rested_back, off_belongings, none_some}
use Rattle.refinement_laws.proofs.parts.Statements.{NotesAhead, NotesBack}
use Rattle.refinement_laws.proofs.notes.AllNotes.{steps_note}
use Rattle.refinement_laws.proofs.parts.Parts.{ahead_alone}

pub notes_ahead : NotesAhead
notes_ahead p s q v l x K F O H =
    let idle : is_waiting (slice_get l.machine.tasks q.task) ≡ false = ap is_waiting O.task ∙ (running_tells x.status O.runs).1 in
    steps_note v _ l _ q.task idle (ahead_alone p s q l K.sound O.steady F.private) (λ u ne. off_belongings v q.task q.belongings u ne) (λ k. refl) (λ u. refl) (λ u b r e. none_some (sym (subst (Rests l) e r.rests) ∙ F.out))
    (record { none = (H q.task).keeps ∙ ap (λ b. b && not (heap_of l q.task).swept) idle; others = λ u ne. record { keeps = refl; kept = refl; marked = refl } }) H

pub notes_back : NotesBack
notes_back t g v l idle V H =
    let idle' : is_waiting (slice_get (rested l t).machine.tasks t) ≡ false = ap (λ (m : MachineState). is_waiting (slice_get m.tasks t)) (heap_machine l t let_go) ∙ idle in
    steps_note _ v (rested l t) l t idle' (rested_back l t) (λ u ne. sym (off_belongings v t g u ne)) (λ k. refl) (λ u. refl) (root_apart (with_belongings v t g) (rested l t) V t idle')
    (record { none = (H t).keeps ∙ ap (λ b. b && not (heap_of (rested l t) t).swept) idle'; others = λ u ne. record { keeps = refl; kept = refl; marked = refl } }) H
