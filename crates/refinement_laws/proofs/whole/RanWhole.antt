-- The whole relation after an entry of steps.
use Rattle.refinement_laws.proofs.Common.{suc, ◌≡◌, ℕ, false, Option, Some, None, slice_get, refl, subst, ◌∙◌, none_of, EntryValue, Ran, Heap, Ledger, heap_of, or_fresh, task_steps, after, ledger_of, collecting, accepted_on, entries_use, task_steps_sound, rested_view, part_for, with_belongings, taken_by, StandsFor, RanStandsFor}
use Rattle.refinement_laws.proofs.whole.HandedBack.{handed_on}
use Rattle.refinement_laws.proofs.whole.HandedBack.{alive_machine}
use Rattle.refinement_laws.proofs.parts.Workers.{part_now}
use Rattle.refinement_laws.proofs.whole.Past.{legal_rests, none_begun_by_ledger, rests_then}
use Rattle.refinement_laws.proofs.notes.RanBegun.{ran_idle}
use Rattle.refinement_laws.proofs.whole.RanCounts.{ran_counts}
use Rattle.refinement_laws.proofs.whole.RanPast.{ran_keeps}
use Rattle.refinement_laws.proofs.whole.Together.{whole_stands, whole_notes}

pub none_collects : (o : Option Heap) → collecting o ≡ false → (or_fresh o).begun ≡ None
none_collects None h = refl
none_collects (Some h) e = none_of h.begun e

pub ran_stands_for : RanStandsFor
ran_stands_for p s journal program legal v v' c c' w t k h accepted E handed Q C M N =
    let l : Ledger = ledger_of p s journal in
    let e : EntryValue = record { worker = w; kind = Ran t (suc k) } in
    let alive : l.end ≡ None = accepted_on p s l e accepted in
    let W : StandsFor v c l = subst (StandsFor v c) (handed_on l alive) handed in
    let F = part_now p s (part_for s t h (taken_by E.splits.kind k)) v l (alive_machine p s l (after p s l e) t w k E) Q in
    let both = ran_keeps p s v v' l (after p s l e) t w k h E alive W.belongings (whole_notes v c l W) F.fits C M in
    let counts = ran_counts p s l (after p s l e) t w k E c c' W.tree_counts alive (entries_use p s journal e program legal accepted) N in
    let still : (j : ℕ) → (heap_of (task_steps p l t j) t).begun ≡ None = λ j. none_collects (slice_get (task_steps p l t j).heaps t) (task_steps_sound p j l t (E.knows.sound, E.collects)).1 in
    let n : ℕ = taken_by E.splits.kind k in
    let own : h.begun ≡ None = none_begun_by_ledger (with_belongings v t h) _ t h.begun F.begun (rested_view (λ z. z.begun) (λ z. refl) (task_steps p l t n) t ∙ still n) in
    let idle = ran_idle p s v v' l (after p s l e) t w k h E alive (λ u r. none_begun_by_ledger v l u (v.belongings u).begun (W.begun u r) (legal_rests p s journal legal u r)) own (rests_then p s journal program legal v v' c c' e accepted) (still k) C in
    whole_stands v' c' _ both.0 counts (λ u r. (idle u r).0) (λ u r. (idle u r).1) both.1
