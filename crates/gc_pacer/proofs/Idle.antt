-- The records before the first entry, and if no entry is made.
use Rattle.gc_pacer.proofs.Common.{◌≡◌, ℕ, List, [], slice_get, inl, inr, ap, sym, subst, ◌∙◌, cases_eq, SettingsValue, ledger_of, idle, is_paced, pace_at_end, pace_of, Ledger, idle_at, NotEntered, NoMemory, Refuses, SharedValue, accounts, IsUnchanged, Pace, Other, KeepsPace, KeepsPrevious, keeps_items, worker_pace, AreIdle, KeepsPaces, NotesAt, SameMarks, Pacer}

idle_kept : (l : Ledger) (q : Pace) → q.previous ≡ Other → q.marks.items ≡ [] → KeepsPace l q idle
idle_kept l q p m = record { previous = subst (λ a. KeepsPrevious l a idle.previous) (sym p) tt; marks = m }

-- BEFORE THE FIRST ENTRY
pub opening_kept : (w : SharedValue) (paces : List Pace) → w.journal.items ≡ [] → AreIdle paces w.settings.workers → KeepsPaces w paces
opening_kept w paces none I = record {
  paced = ap (is_paced w.program w.settings) none;
  workers = I.many;
  keeps = λ on k q at. subst (λ x. KeepsPace (accounts w) q x) (sym (ap (λ j. pace_of (pace_at_end w.program w.settings j) k) none ∙ idle_at w.settings.workers k)) (idle_kept (accounts w) q (I.each k q at).0 (I.each k q at).1);
}

-- WITHOUT AN ENTRY
pub same_kept : (w w' : SharedValue) (paces : List Pace) → w'.program ≡ w.program → w'.settings ≡ w.settings → w'.journal.items ≡ w.journal.items → KeepsPaces w paces → KeepsPaces w' paces
same_kept w w' paces ep es ej K =
    let ledger : accounts w' ≡ accounts w = ap (λ p. ledger_of p w'.settings w'.journal.items) ep ∙ (ap (λ s. ledger_of w.program s w'.journal.items) es ∙ ap (ledger_of w.program w.settings) ej) in
    let paces_at : pace_at_end w'.program w'.settings w'.journal.items ≡ pace_at_end w.program w.settings w.journal.items =
    ap (λ p. pace_at_end p w'.settings w'.journal.items) ep ∙ (ap (λ s. pace_at_end w.program s w'.journal.items) es ∙ ap (pace_at_end w.program w.settings) ej) in
    record {
      paced = ap (λ p. is_paced p w'.settings w'.journal.items) ep ∙ (ap (λ s. is_paced w.program s w'.journal.items) es ∙ (ap (is_paced w.program w.settings) ej ∙ K.paced));
      workers = K.workers ∙ ap (λ (s : SettingsValue). s.workers) (sym es);
      keeps = λ on k q at.
          subst (λ l. KeepsPace l q (worker_pace w' k)) (sym ledger)
          (subst (λ ps. KeepsPace (accounts w) q (pace_of ps k)) (sym paces_at) (K.keeps (ap (λ (l : Ledger). l.end) (sym ledger) ∙ on) k q at));
    }

-- of what its box lends
pub lent_kept : (lent boxed : Pacer) → lent ≡ boxed → KeepsPaces boxed.counted boxed.paces → KeepsPaces lent.counted lent.paces
lent_kept lent boxed same K = subst (λ (z : Pacer). KeepsPaces z.counted z.paces) (sym same) K

-- with more capacity in one of the lists
pub marks_kept : (w : SharedValue) (old new : List Pace) (j : ℕ) → NotesAt old new j SameMarks → KeepsPaces w old → KeepsPaces w new
marks_kept w old new j N K = record {
  paced = K.paced;
  workers = N.many ∙ K.workers;
  keeps = λ on k q at. elim (cases_eq k j) [
    | inl e ↦ let o = N.own q (ap (slice_get new) (sym e) ∙ at) in keeps_items (accounts w) o.0 q (worker_pace w k) o.2.0 o.2.1 (K.keeps on k o.0 (ap (slice_get old) e ∙ o.1))
    | inr ne ↦ K.keeps on k q (sym (N.others k ne) ∙ at)
  ];
}

-- if an entry is refused, or an allocation failed
pub unchanged_kept : (w w' : SharedValue) (cause : NotEntered) (paces : List Pace) → IsUnchanged cause w w' → KeepsPaces w paces → KeepsPaces w' paces
unchanged_kept w w' (Refuses why) paces same K = subst (λ (z : SharedValue). KeepsPaces z paces) (sym same) K
unchanged_kept w w' NoMemory paces S K = same_kept w w' paces (ap (λ (z : SharedValue). z.program) S.rest) (ap (λ (z : SharedValue). z.settings) S.rest) (ap (λ (z : SharedValue). z.journal.items) S.rest) K
