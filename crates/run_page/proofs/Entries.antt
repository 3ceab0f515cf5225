-- One entry more of a page's data.
use Rattle.run_page.proofs.Common.{◌≡◌, ◌<◌, ◌+◌, ◌++◌, ℕ, suc, List, ◌∷◌, length, drop, get_or, arith, ap, ap₂, sym, ◌∙◌, append_assoc, drop-cons, ProgramText, EntryValue, SettingsValue, Ledger, after, entry, entries_from}

module _ (p : ProgramText) (s : SettingsValue) (journal : List EntryValue) (i : ℕ) (e : EntryValue) (lt : i < length journal) (is : e ≡ get_or journal i e) where
  cut : drop i journal ≡ e ∷ drop (i + 1) journal
  cut = drop-cons journal i e lt ∙ ap₂ (λ x k. x ∷ drop k journal) (sym is) (let q : suc i ≡ i + 1 = omega arith in q)

  pub one_more : (first text more : List ℕ) (l next : Ledger) → next ≡ after p s l e → more ≡ text ++ entry p l e next
      → text ++ entries_from p s l (drop i journal) ≡ first → more ++ entries_from p s next (drop (i + 1) journal) ≡ first
  one_more first text more l next entered added held =
      ap₂ (λ t (q : Ledger). t ++ entries_from p s q (drop (i + 1) journal)) (added ∙ ap (λ (q : Ledger). text ++ entry p l e q) entered) entered
      ∙ append_assoc text (entry p l e (after p s l e)) (entries_from p s (after p s l e) (drop (i + 1) journal))
      ∙ ap (λ es. text ++ entries_from p s l es) (sym cut)
      ∙ held
