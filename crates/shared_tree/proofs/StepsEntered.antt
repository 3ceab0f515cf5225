-- What follows from the entry of a part's fresh steps and its next one.
use Rattle.shared_tree.proofs.Common.{◌≡◌, ℕ, ◌+◌, ◌-◌, ◌++◌, [], ◌∷◌, sym, subst, ReservedVecValue, EntryValue, Private, SharedValue, alone_entry, journal_by}

-- the journal with that entry
abbrev pub entered : SharedValue → ℕ → Private → ReservedVecValue EntryValue
entered w k p = record { items = w.journal.items ++ alone_entry k p ∷ []; room = w.journal.room - 1 }

-- what holds of the steps and the journal after it holds of what they are equal to
pub along : (w : SharedValue) (k : ℕ) (p held : Private) → held ≡ p → (e : EntryValue) (j : ReservedVecValue EntryValue) → e ≡ alone_entry k held → j ≡ record { items = w.journal.items ++ e ∷ []; room = w.journal.room - 1 }
    → (P : ℕ → ReservedVecValue EntryValue → Type 0) → P (w.steps + (p.fresh + 1)) (entered w k p) → P (w.steps + (held.fresh + 1)) j
along w k p held same e j is pushed P h =
    subst (P (w.steps + (held.fresh + 1))) (sym (journal_by w.journal j e (alone_entry k held) is pushed))
    (subst (λ (r : Private). P (w.steps + (r.fresh + 1)) (entered w k r)) (sym same) h)
