-- After a worker's entry without steps, what it holds fits.
use Rattle.refinement_laws.proofs.Common.{◌≡◌, None, is_none, slice_get, inl, refl, ap, sym, subst, ◌∙◌, and_parts, none_of, EntryValue, End as EndOf, MachineState, is_running, runs_is, Ledger, after, is_out, ledger_of, none_unless, entry_tells, legal_sound, accepted_on, heap_of_task, running_at, end_changes, legal_alive, PartFits, part_for, QuietFits, EndsFit}
use Rattle.refinement_laws.proofs.parts.Handed.{quiet_fits}
use Rattle.refinement_laws.proofs.parts.NonMovingEntries.{aside_is}
use Rattle.refinement_laws.proofs.parts.QuietEntries.{quiet_by}
use Rattle.refinement_laws.proofs.whole.Together.{copies_end}
use Rattle.refinement_laws.proofs.parts.Workers.{part_now}

pub quiet_fits_then : QuietFits
quiet_fits_then p s journal legal v v' e t h g accepted quiet Q C B =
    let l : Ledger = ledger_of p s journal in
    let l' : Ledger = after p s l e in
    let alive : l.machine.end ≡ None = legal_alive p s journal legal (accepted_on p s l e accepted) in
    let same = (quiet_by p s l e.worker e.kind quiet).0 in
    let on : l'.machine.end ≡ None = ap (λ (z : MachineState). z.end) same.machine ∙ alive in
    let part : PartFits p s (part_for s t g 0) v' l' = record { fits = quiet_fits p s t h g v v' l l' same C (part_now p s (part_for s t h 0) v l alive Q).fits; begun = B } in
    record { task = Q.task; is = ap (λ (z : MachineState). slice_get z.tasks t) same.machine ∙ Q.is; runs = Q.runs; steady = inl refl; part = subst (PartFits p s (part_for s t g 0) v') (sym (aside_is l' on)) part; leaf = refl; fields = refl }

pub ends_fit_then : EndsFit
ends_fit_then p s journal legal v v' w t taken given left h h' f accepted K E none =
    let e : EntryValue = record { worker = w; kind = EndOf t taken given left } in
    let l : Ledger = ledger_of p s journal in
    let l' : Ledger = after p s l e in
    let tells = entry_tells p s l e (ap is_none accepted) in
    let held = none_unless (is_out l w t) _ _ tells.2 in
    let run = (and_parts (is_running (slice_get l.machine.tasks t)) _ held.0).0 in
    let S = legal_sound p s journal legal in
    let g = heap_of_task l t S run in
    let x = running_at l.machine.tasks t (slice_get l.machine.tasks t) refl run in
    let L = end_changes l t in
    let on : l'.machine.end ≡ None = ap (λ (z : MachineState). z.end) L.machine ∙ legal_alive p s journal legal (none_of l.end tells.0) in
    let part : PartFits p s (part_for s t h' 0) v' l' = (copies_end p s t h h' f v v' l x.0 g.0 S x.1 (runs_is x.0.status x.2) g.1 K E none).1 in
    record { task = x.0; is = ap (λ (z : MachineState). slice_get z.tasks t) L.machine ∙ x.1; runs = x.2; steady = inl refl; part = subst (PartFits p s (part_for s t h' 0) v') (sym (aside_is l' on)) part; leaf = refl; fields = refl }
