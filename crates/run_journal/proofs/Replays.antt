-- The next entry of a replay.
use Rattle.run_journal.proofs.Common.{◌≡◌, ℕ, ◌+◌, ◌<◌, suc, None, List, ◌∷◌, length, drop, get_or, ap, ap₂, sym, ◌∙◌, arith, drop-cons, EntryValue, SettingsValue, ProgramText, Ledger, refusal, after, after_all, first_refused_from, refused_or}

module _ (p : ProgramText) (s : SettingsValue) (l : Ledger) (n : ℕ) (journal : List EntryValue) (i : ℕ) (e : EntryValue) (lt : i < length journal) (is : e ≡ get_or journal i e) where
  pub cut : drop i journal ≡ e ∷ drop (i + 1) journal
  cut = drop-cons journal i e lt ∙ ap₂ (λ x k. x ∷ drop k journal) (sym is) (let q : suc i ≡ i + 1 = omega arith in q)

  pub refused_next : refusal p s l e ≡ None → first_refused_from p s l n (drop i journal) ≡ first_refused_from p s (after p s l e) (n + 1) (drop (i + 1) journal)
  refused_next h = ap (first_refused_from p s l n) cut ∙ ap (λ o. refused_or o n (first_refused_from p s (after p s l e) (n + 1) (drop (i + 1) journal))) h

  pub accounts_next : after_all p s l (drop i journal) ≡ after_all p s (after p s l e) (drop (i + 1) journal)
  accounts_next = ap (after_all p s l) cut
