-- Lines of more entries and more steps.
use Rattle.run_log.proofs.Common.{◌≡◌, ◌<◌, ◌+◌, ◌++◌, ℕ, suc, List, ◌∷◌, length, drop, get_or, arith, ap, ap₂, sym, ◌∙◌, append_assoc, drop-cons, flat_map-append, ProgramText, MachineState, EntryValue, stepped, machine_after, LogLine, written, all_written, step_lines, steps_lines, entry_lines, lines_from}

-- lines behind others
pub written_both : (text : List ℕ) (xs ys : List LogLine) → (text ++ all_written xs) ++ all_written ys ≡ text ++ all_written (xs ++ ys)
written_both text xs ys = append_assoc text (all_written xs) (all_written ys) ∙ ap (λ zs. text ++ zs) (sym (flat_map-append written xs ys))

-- one step more of a task
module _ (p : ProgramText) (m : MachineState) (t i : ℕ) where
  counted : suc i ≡ i + 1
  counted = omega arith

  pub one_step : (before after : MachineState) → before ≡ stepped p m t i → after ≡ stepped p before t 1 → after ≡ stepped p m t (i + 1)
  one_step before after was now = now ∙ ap (λ (q : MachineState). stepped p q t 1) was ∙ ap (stepped p m t) counted

  pub one_step_written : (first text more : List ℕ) (before : MachineState) → before ≡ stepped p m t i
      → text ≡ first ++ all_written (steps_lines p m t i) → more ≡ text ++ all_written (step_lines p before t)
      → more ≡ first ++ all_written (steps_lines p m t (i + 1))
  one_step_written first text more before was held added =
      added
      ∙ ap₂ (λ xs (q : MachineState). xs ++ all_written (step_lines p q t)) held was
      ∙ written_both first (steps_lines p m t i) (step_lines p (stepped p m t i) t)
      ∙ ap (λ k. first ++ all_written (steps_lines p m t k)) counted

module _ (p : ProgramText) (journal : List EntryValue) (i : ℕ) (e : EntryValue) (lt : i < length journal) (is : e ≡ get_or journal i e) where
  cut : drop i journal ≡ e ∷ drop (i + 1) journal
  cut = drop-cons journal i e lt ∙ ap₂ (λ x k. x ∷ drop k journal) (sym is) (let q : suc i ≡ i + 1 = omega arith in q)

  pub one_more : (first text more : List ℕ) (m next : MachineState) → next ≡ machine_after p m e.kind → more ≡ text ++ all_written (entry_lines p m e.kind)
      → text ++ all_written (lines_from p m (drop i journal)) ≡ first → more ++ all_written (lines_from p next (drop (i + 1) journal)) ≡ first
  one_more first text more m next moved added held =
      ap₂ (λ t (q : MachineState). t ++ all_written (lines_from p q (drop (i + 1) journal))) added moved
      ∙ written_both text (entry_lines p m e.kind) (lines_from p (machine_after p m e.kind) (drop (i + 1) journal))
      ∙ ap (λ es. text ++ all_written (lines_from p m es)) (sym cut)
      ∙ held
