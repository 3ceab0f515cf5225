-- Every whole run keeps what is reachable, decides its reads by precedence, and returns exactly what is held.
use Rattle.command_answers.proofs.Common.{◌≡◌, ◌∙◌, ◌++◌, ◌∷◌, ℕ, List, Option, Some, true, refl, sym, ap, subst, contains_from_in, in_from_contains, IsProgram, ProgramText, MachineState, object_at, run, reads_are_decided, can_going, EntryValue, SettingsValue, field_limit, Ledger, heap_of, held_in, IsPrefix, is_legal, ledger_of, tasks_of, journals_can_be_cut, nothing_reachable_is_freed, held_is_undropped, Rests, BelongingsStand, In, Memory, object_name, handed, held_object, object_held, IsSharedValue, SharedValue, accounts, value_of, without_journal, handed_held, same_machine, ReturnsRun, FreesNoReachable, HeapIsHeld, HeapsAreHeld, RunsHoldTheHeadline, StopsUnordered}
use Rattle.command_answers.proofs.Taken.{step_taken}

-- THE HEAPS of a value that represents its journal
module _ (w : SharedValue) (I : IsSharedValue w) (t : ℕ) (R : Rests (handed (accounts w)) t) where
  abbrev l : Ledger
  l = accounts w

  abbrev v : Memory
  v = value_of w

  H : BelongingsStand v (handed l) t
  H = I.stands.belongings.belongings t R

  heap_is_held : HeapIsHeld v l t
  heap_is_held = record {
    each = λ o i.
        contains_from_in (held_in (heap_of l t)) (object_name o) (subst (λ ns. In ns (object_name o)) (handed_held l t) (object_held (v.belongings t).chunks (heap_of (handed l) t) H.names o i));
    all = λ n c. held_object (v.belongings t).chunks (heap_of (handed l) t) H.names n (subst (λ ns. In ns n) (sym (handed_held l t)) (in_from_contains (held_in (heap_of l t)) n c));
    once = H.named;
    contents = λ o i. let x = I.stands.belongings.contents t o R i in (x.0, ap (λ (m : MachineState). object_at m.store (object_name o)) (sym (same_machine w I)) ∙ x.1, x.2);
  }

heaps_are_held : (w : SharedValue) (I : IsSharedValue w) → HeapsAreHeld (Some (without_journal w)) (accounts w)
heaps_are_held w I = record { value = without_journal w; is = refl; heaps = heap_is_held w I }

-- THE JOURNAL
frees : (p : ProgramText) (s : SettingsValue) (journal first : List EntryValue) → is_legal p s journal ≡ true → IsPrefix first journal → FreesNoReachable p s first
frees p s journal first legal f =
    let now = ((journals_can_be_cut p s first f.0).legal.0 (subst (λ j. is_legal p s j ≡ true) f.1 legal)).0 in
    record { reachable = nothing_reachable_is_freed p s first now; undropped = held_is_undropped p s first now }

held : (p : ProgramText) (s : SettingsValue) (journal : List EntryValue) (shared : Option SharedValue) → ReturnsRun p s journal shared → HeapsAreHeld shared (ledger_of p s journal)
held p s journal shared B =
    let items = B.whole.journal.items in
    let same : accounts B.whole ≡ ledger_of p s journal =
    ap (λ q. ledger_of q B.whole.settings items) B.program ∙ (ap (λ z. ledger_of p z items) B.settings ∙ ap (ledger_of p s) (sym B.moved)) in
    subst (λ z. HeapsAreHeld z (ledger_of p s journal)) (sym B.remains) (subst (HeapsAreHeld (Some (without_journal B.whole))) same (heaps_are_held B.whole B.stands))

-- THE STEPS
stops : (p : ProgramText) (s : SettingsValue) (journal : List EntryValue) (shared : Option SharedValue) → ReturnsRun p s journal shared → (before later : List ℕ) (t : ℕ) → tasks_of journal ≡ before ++ t ∷ later → StopsUnordered p (run p (field_limit s.version) before) t
stops p s journal shared B before later t e =
    let taken = step_taken p s journal before later t (subst IsProgram B.program B.stands.form) B.legal e in
    record { taken = taken; reads = λ x d n o next. reads_are_decided p (field_limit s.version) before t x d n o (can_going (run p (field_limit s.version) before) t taken) next }

pub runs_hold_the_headline : RunsHoldTheHeadline
runs_hold_the_headline p s extras a W = record {
  frees = λ first f. frees p s a.journal first W.back.legal f;
  stops = stops p s a.journal a.shared W.back;
  held = held p s a.journal a.shared W.back;
}
