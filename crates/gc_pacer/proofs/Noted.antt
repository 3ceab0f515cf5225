-- An entry that pays keeps the invariant of a paced value.
use Rattle.gc_pacer.proofs.Common.{◌≡◌, ◌≢◌, ◌⊎◌, ℕ, zero, suc, ◌<◌, ◌≤◌, true, Option, Some, None, List, [], ◌∷◌, ◌++◌, length, slice_get, slice_set, inl, inr, refl, ap, sym, subst, ◌∙◌, arith, length-set, is_some, cases_eq, OnErr, OnOk, Result, Ok, Err, got_other, got_within, ProgramText, Kind, Fuel, Mark, Ran, EntryValue, SettingsValue, Ledger, WorkerPace, after, is_fuel, heap_of, after_all, opening, is_paced, pace_noted, or_idle, pace_after, pace_after_all, pace_at_end, pace_of, pace_opening, Refused, pace_goes_on, length_opening, pace_same, refusal_of_result, refused, Enters, IsSharedValue, SharedValue, accounts, entry_on, Pace, Other, Fork, IsForkOf, KeepsPace, previous_of, mark_kept, steps_kept, entered_accounts, paces_stay, Pays, worker_pace, KeepsNoted, KeepsPaces, NotesAt, NotesOther}
use Rattle.run_statistics.specs.below.run_ledger.{Other as OtherEntry}

-- WHAT IS RECORDED after one more entry
module _ (p : ProgramText) (s : SettingsValue) where
  all_then : (first : List EntryValue) (l : Ledger) (pace : List WorkerPace) (e : EntryValue) → pace_after_all p s l pace (first ++ e ∷ []) ≡ pace_after (after p s (after_all p s l first) e) (pace_after_all p s l pace first) e
  all_then [] l pace e = refl
  all_then (f ∷ first) l pace e = all_then first (after p s l f) (pace_after (after p s l f) pace f) e

  all_length : (journal : List EntryValue) (l : Ledger) (pace : List WorkerPace) → length (pace_after_all p s l pace journal) ≡ length pace
  all_length [] l pace = refl
  all_length (e ∷ journal) l pace = all_length journal (after p s l e) (pace_after (after p s l e) pace e) ∙ length-set pace e.worker _

paces_many : (w : SharedValue) → length (pace_at_end w.program w.settings w.journal.items) ≡ w.settings.workers
paces_many w = all_length w.program w.settings w.journal.items (opening w.program w.settings) (pace_opening w.settings) ∙ length_opening w.settings.workers

module _ (w w' : SharedValue) (e : EntryValue) (E : Enters w w' e) where
  paces_then : pace_at_end w'.program w'.settings w'.journal.items ≡ pace_after (accounts w') (pace_at_end w.program w.settings w.journal.items) e
  paces_then =
      ap (λ p. pace_at_end p w'.settings w'.journal.items) E.program
      ∙ (ap (λ s. pace_at_end w.program s w'.journal.items) E.settings
      ∙ (ap (λ j. pace_at_end w.program w.settings j) E.journal
      ∙ (all_then w.program w.settings w.journal.items (opening w.program w.settings) (pace_opening w.settings) e
      ∙ ap (λ l. pace_after l (pace_at_end w.program w.settings w.journal.items) e) (sym (entered_accounts w w' e E)))))

  noted_own : e.worker < w.settings.workers → worker_pace w' e.worker ≡ pace_noted (accounts w') (worker_pace w e.worker) e.kind
  noted_own lt =
      ap (λ paces. pace_of paces e.worker) paces_then
      ∙ pace_same (pace_at_end w.program w.settings w.journal.items) e.worker (pace_noted (accounts w') (worker_pace w e.worker) e.kind) (let n : length (pace_at_end w.program w.settings w.journal.items) ≡ w.settings.workers = paces_many w in omega arith)

  noted_other : (k : ℕ) → k ≢ e.worker → worker_pace w' k ≡ worker_pace w k
  noted_other k ne =
      ap (λ paces. pace_of paces k) paces_then ∙ ap or_idle (got_other (pace_at_end w.program w.settings w.journal.items) e.worker k (pace_noted (accounts w') (worker_pace w e.worker) e.kind) ne)

-- KEPT
pub paced_then : (w w' : SharedValue) (e : EntryValue) (old new : List Pace) → IsSharedValue w → KeepsPaces w old → Enters w w' e → refused w e ≡ None → (is_fuel e.kind ≡ true) ⊎ Pays w e → length new ≡ length old
    → ((accounts w').end ≡ None → NotesAt old new e.worker (KeepsNoted (accounts w') e.kind)) → KeepsPaces w' new
paced_then w w' e old new I K E free pays many notes = record {
  paced =
      ap (λ p. is_paced p w'.settings w'.journal.items) E.program
      ∙ (ap (λ s. is_paced w.program s w'.journal.items) E.settings
      ∙ (ap (λ j. is_paced w.program w.settings j) E.journal ∙ pace_goes_on w.program w.settings w.journal.items e K.paced pays));
  workers = many ∙ (K.workers ∙ sym (ap (λ (s : SettingsValue). s.workers) E.settings));
  keeps = keeps;
}
  where
    before : (k : ℕ) (q : Pace) → slice_get old k ≡ Some q → KeepsPace (accounts w') q (worker_pace w k)
    before k q at = paces_stay w w' e q (worker_pace w k) I E free (K.keeps (entry_on w e free) k q at)

    keeps : (accounts w').end ≡ None → (k : ℕ) (q : Pace) → slice_get new k ≡ Some q → KeepsPace (accounts w') q (worker_pace w' k)
    keeps on k q at = elim (cases_eq k e.worker) [
      | inl same ↦
          let o = (notes on).own q (ap (slice_get new) (sym same) ∙ at) in
          let lt : k < length new = got_within new k q at in
          let n : length new ≡ w.settings.workers = many ∙ K.workers in
          let below : e.worker < w.settings.workers = omega arith in
          subst (λ x. KeepsPace (accounts w') q x) (sym (ap (worker_pace w') same ∙ noted_own w w' e E below)) (o.2 (worker_pace w e.worker) (before e.worker o.0 o.1))
      | inr ne ↦ subst (λ x. KeepsPace (accounts w') q x) (sym (noted_other w w' e E k ne)) (before k q (sym ((notes on).others k ne) ∙ at))
    ]

-- an entry that is neither steps nor the beginning of a marking
pub other_noted : (l : Ledger) (kind : Kind) (old new : List Pace) (k : ℕ) → ((x : WorkerPace) → pace_noted l x kind ≡ record x { previous = OtherEntry }) → NotesAt old new k NotesOther → NotesAt old new k (KeepsNoted l kind)
other_noted l kind old new k plain N = record {
  many = N.many;
  others = N.others;
  own = λ q at. let o = N.own q at in (o.0, o.1, λ x K. subst (λ y. KeepsPace l q y) (sym (plain x)) (subst (λ (z : Pace). KeepsPace l z (record x { previous = OtherEntry })) (sym o.2) (record { previous = tt; marks = K.marks })));
}

pub other_then : (w w' : SharedValue) (e : EntryValue) (old new : List Pace) → IsSharedValue w → KeepsPaces w old → Enters w w' e → refused w e ≡ None → Pays w e → ((x : WorkerPace) → pace_noted (accounts w') x e.kind ≡ record x { previous = OtherEntry })
    → NotesAt old new e.worker NotesOther → KeepsPaces w' new
other_then w w' e old new I K E free pays plain N = paced_then w w' e old new I K E free (inr pays) N.many (λ on. other_noted (accounts w') e.kind old new e.worker plain N)

-- the end without fuel: nothing is owed after it
pub fuel_then : (w w' : SharedValue) (k : ℕ) (paces : List Pace) → IsSharedValue w → KeepsPaces w paces → Enters w w' (record { worker = k; kind = Fuel }) → refused w (record { worker = k; kind = Fuel }) ≡ None → KeepsPaces w' paces
fuel_then w w' k paces I K E free =
    paced_then w w' (record { worker = k; kind = Fuel }) paces paces I K E free (inl refl) refl (λ on. absurd (ended (ap (λ (l : Ledger). l.end) (sym (entered_accounts w w' (record { worker = k; kind = Fuel }) E)) ∙ on)))
  where
    ended : {A : Type 0} {x : A} → Some x ≡ None → ⊥
    ended e = cc

pub fuel_kept : {A : Type 0} (w w' : SharedValue) (k : ℕ) (paces : List Pace) (r : Result A Refused) → IsSharedValue w → KeepsPaces w paces → refusal_of_result r ≡ refused w (record { worker = k; kind = Fuel }) → OnErr r (w' ≡ w) → OnOk r (Enters w w' (record { worker = k; kind = Fuel }))
    → KeepsPaces w' paces
fuel_kept w w' k paces (Ok x) I K cause same E = fuel_then w w' k paces I K E (sym cause)
fuel_kept w w' k paces (Err c) I K cause same E = subst (λ z. KeepsPaces z paces) (sym same) K

-- STEPS, for one worker's record
pub steps_noted : (l : Ledger) (t k : ℕ) (fork : Option Fork) (q q' : Pace) (x : WorkerPace) → IsForkOf l t fork (slice_get l.machine.tasks t) → q' ≡ record q { previous = previous_of fork } → KeepsPace l q x → KeepsPace l q' (pace_noted l x (Ran t k))
steps_noted l t k fork q q' x F e K =
    subst (λ z. KeepsPace l z (pace_noted l x (Ran t k))) (sym e) (record { previous = steps_kept l t fork (slice_get l.machine.tasks t) F; marks = K.marks })

-- THE BEGINNING OF A MARKING
pub mark_noted : (l : Ledger) (t room : ℕ) (f : Fork) (q q' : Pace) (x : WorkerPace) → IsForkOf l t (Some f) (slice_get l.machine.tasks t) → is_some (heap_of l t).marked ≡ true
    → q' ≡ record { previous = Other; marks = record { items = q.marks.items ++ f ∷ []; room = room } } → KeepsPace l q x → KeepsPace l q' (pace_noted l x (Mark t))
mark_noted l t room f q q' x F m e K =
    subst (λ z. KeepsPace l z (pace_noted l x (Mark t))) (sym e) (record { previous = tt; marks = mark_kept l t f (slice_get l.machine.tasks t) q.marks.items x.marks F m K.marks })

-- a list without such a worker
pub out_notes : (old : List Pace) (k : ℕ) (changes : Pace → Pace → Type 0) → length old ≤ k → NotesAt old old k changes
out_notes old k changes le = record {
  many = refl;
  others = λ j ne. refl;
  own = λ q at. absurd (let lt : k < length old = got_within old k q at in omega arith);
}

-- an item of a list is replaced
pub set_notes : (old : List Pace) (k : ℕ) (before q : Pace) (changes : Pace → Pace → Type 0) → slice_get old k ≡ Some before → changes before q → NotesAt old (slice_set old k q) k changes
set_notes old k before q changes at C = record {
  many = length-set old k q;
  others = λ j ne. got_other old k j q ne;
  own = λ q' at'. (before, at, subst (λ z. changes before z) (same_in old k before q q' at at') C);
}
  where
    same_in : (xs : List Pace) (k : ℕ) (x y z : Pace) → slice_get xs k ≡ Some x → slice_get (slice_set xs k y) k ≡ Some z → y ≡ z
    same_in [] k x y z a b = absurd cc
    same_in (v ∷ xs) zero x y z a b = cc
    same_in (v ∷ xs) (suc k) x y z a b = same_in xs k x y z a b
