-- Entries that give what is owed.
use Rattle.turn_entries.proofs.Common.{◌≡◌, ℕ, ◌==◌, ◌&&◌, Bool, true, false, Option, None, refl, ap, sym, subst, ◌∙◌, eq-eqb, arith, Kind, Mark, More, Sweep, Nothing, Refused, Left, CanBeGiven, kind_refusal, refused_unless, heap_of, left_in, marked_in, sweep_number, gives, owed_can_be_given, IsSharedValue, SharedValue, accounts, marking_cause, marks_refuse, or_none, Pays, owed_by}
use Rattle.entry_calls.specs.below.run_ledger.{Mark as OwesMark, More as OwesMore, Sweep as OwesSweep}

module _ (w : SharedValue) (k : ℕ) where
  pub pays_nothing : (kind : Kind) → owed_by w k ≡ Nothing → Pays w (record { worker = k; kind = kind })
  pays_nothing kind owes = subst (λ o. gives o kind ≡ true) (sym owes) refl

  pub pays_mark : (t : ℕ) → owed_by w k ≡ OwesMark t → Pays w (record { worker = k; kind = Mark t })
  pays_mark t owes = subst (λ o. gives o (Mark t) ≡ true) (sym owes) (eq-eqb t t refl)

  pub pays_more : (t : ℕ) → owed_by w k ≡ OwesMore t → Pays w (record { worker = k; kind = More t 64 })
  pays_more t owes = subst (λ o. gives o (More t 64) ≡ true) (sym owes) (ap (λ b. b && (64 == 64)) (eq-eqb t t refl))

  pub pays_sweep : (t given : ℕ) → owed_by w k ≡ OwesSweep t → Pays w (record { worker = k; kind = Sweep t given })
  pays_sweep t given owes = subst (λ o. gives o (Sweep t given) ≡ true) (sym owes) (eq-eqb t t refl)

-- a heap whose sweep is owed is being marked, and nothing of it is left to mark
none_unless : (n : ℕ) (cause : Refused) (rest : Option Refused) → refused_unless (n == 0) cause rest ≡ None → n ≡ 0
none_unless n cause rest e = none_unless_by_cases (n == 0) refl e
  where
    none_unless_by_cases : (b : Bool) → (n == 0) ≡ b → refused_unless b cause rest ≡ None → n ≡ 0
    none_unless_by_cases true is e = grind (arith, is)
    none_unless_by_cases false is e = absurd cc

pub sweep_is_owed : (w : SharedValue) (k t : ℕ) → IsSharedValue w → (accounts w).end ≡ None → owed_by w k ≡ OwesSweep t → (marking_cause w t ≡ None) × (left_in (heap_of (accounts w) t) ≡ 0)
sweep_is_owed w k t I on owes =
    let h = heap_of (accounts w) t in
    let number = sweep_number (accounts w).machine h in
    let can : kind_refusal w.program w.settings (accounts w) k (Sweep t number) ≡ None =
    subst (CanBeGiven w.program w.settings (accounts w) k) owes (owed_can_be_given w.program w.settings w.journal.items k I.legal) in
    let both = or_none (marking_cause w t) _ (sym ((marks_refuse w k t I on).sweep number) ∙ can) in
    (both.0, none_unless (left_in h) (Left (marked_in h)) _ both.1)
