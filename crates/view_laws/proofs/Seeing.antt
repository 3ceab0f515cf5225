-- The laws of what tasks see.
use Rattle.std.proofs.Common.{◌≡◌, ℕ, false, Some, List, [], ◌∷◌, ◌⊎◌, inl, inr, slice_get, ap, sym, subst, ◌∙◌}
use Rattle.std.proofs.lemmas.Option.{same_Some}
use Rattle.core_invariant.specs.below.plain_vec.{In as InList}
use Rattle.core_invariant.specs.below.hh_lang.{ProgramText}
use Rattle.core_invariant.specs.below.hh_model.{Name, MachineState, object_at, refs_of, start}
use Rattle.core_invariant.proofs.below.hh_model.{named_from_in, run_on}
use Rattle.core_invariant.proofs.below.path_laws.{objects_stay}
use Rattle.core_invariant.specs.below.run_ledger.{Ledger, ledger_of, SomeHeapHas, SoundLedger, collecting, task_steps}
use Rattle.core_invariant.proofs.below.run_ledger.{task_steps_sound}
use Rattle.core_invariant.proofs.below.ledger_step_laws.{legal_knows}
use Rattle.core_invariant.specs.below.task_machine.{RunsSteps}
use Rattle.core_invariant.proofs.PartFitsMachine as link
use Rattle.view_laws.specs.Laws.{FrozenStay, LeadTo, ReadsStay, SeenNamesAreHeld}

-- ---- IMMUTABLE OBJECTS

pub frozen_stay : FrozenStay
frozen_stay p limit ts more n o is frozen =
    let r = objects_stay p limit ts more n o is in
    ap (λ (m : MachineState). object_at m.store n) (run_on p ts more (start p limit)) ∙ (r.1 ∙ ap Some (r.2.frozen frozen))

-- ---- HELD NAMES

led_held : (l : Ledger) → SoundLedger l → (by : List Name) (n m : Name) → SomeHeapHas l.heaps n → LeadTo l.machine.store n by m → SomeHeapHas l.heaps m
led_held l S [] n m k e = subst (SomeHeapHas l.heaps) e k
led_held l S (x ∷ by) n m k d = led_held l S by x m (S.all.of_object n x k (subst (λ w. InList (refs_of w) x) (sym d.1) (named_from_in d.0.refs x d.2))) d.3

steps_sound : (p : ProgramText) (l : Ledger) (t k : ℕ) → SoundLedger l → (k ≡ 0) ⊎ (collecting (slice_get l.heaps t) ≡ false) → SoundLedger (task_steps p l t k)
steps_sound p l t k S (inl e) = subst (λ j. SoundLedger (task_steps p l t j)) (sym e) S
steps_sound p l t k S (inr c) = (task_steps_sound p k l t (S, c)).0

pub seen_names_are_held : SeenNamesAreHeld
seen_names_are_held p s journal t k legal c x n m by is i leads =
    let S : SoundLedger (task_steps p (ledger_of p s journal) t k) = steps_sound p (ledger_of p s journal) t k (legal_knows p s journal legal).sound c in
    led_held (task_steps p (ledger_of p s journal) t k) S by n m (S.all.of_task t x n is i) leads

-- ---- LEVELS

-- ---- READS

pub reads_stay : ReadsStay
reads_stay w after k other p q n I J on goes same others ne F R = (
  R _ _ (link.second_gives_first w k p I F on),
  subst (λ (z : ProgramText). RunsSteps z p n q) (sym same) R _ _ (link.second_gives_first after k p J (others k p ne F) goes),
)
