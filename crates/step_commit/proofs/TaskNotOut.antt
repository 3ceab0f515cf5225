-- An entry for a task that its worker doesn't hold is refused.
use Rattle.step_commit.proofs.Common.{◌≡◌, ◌≢◌, ℕ, ◌⊎◌, Bool, true, false, Option, Some, None, slice_get, refl, ap, sym, ◌∙◌, inl, inr, same_Some, and_right, is_running, Kind, Took, Begin, PutOff, More, Sweep, Fuel, RunEnd, Refused, NotOut, heap_of, is_fuel, is_out, kind_refusal, refused_unless, option_is, held_is, SharedValue, accounts, IsSharedValue, first_cause, or_else, task_asked, refused, refused_is}
use Rattle.core_invariant.specs.below.run_trace.{Ran, Chunk, End, Mark}

pub unless_false : (b : Bool) (c : Refused) (rest : Option Refused) → b ≡ false → refused_unless b c rest ≡ Some c
unless_false false c rest e = refl
unless_false true c rest e = absurd cc

module _ (w : SharedValue) (I : IsSharedValue w) (k t : ℕ) where
  not_out : (heap_of (accounts w) t).worker ≢ Some k → is_out (accounts w) k t ≡ false
  not_out apart = and_right (is_running (slice_get (accounts w).machine.tasks t)) (option_is (heap_of (accounts w) t).worker k) (not_out_by_cases (option_is (heap_of (accounts w) t).worker k) refl)
    where
      not_out_by_cases : (b : Bool) → option_is (heap_of (accounts w) t).worker k ≡ b → b ≡ false
      not_out_by_cases false e = refl
      not_out_by_cases true e = absurd (apart (held_is (heap_of (accounts w) t).worker k e))

  kind_is : (kind : Kind) → task_asked kind ≡ Some t → is_out (accounts w) k t ≡ false → kind_refusal w.program w.settings (accounts w) k kind ≡ Some NotOut
  kind_is (Took u) e out = absurd cc
  kind_is (Ran u n) e out = unless_false (is_out (accounts w) k u) NotOut _ (ap (is_out (accounts w) k) (same_Some u t e) ∙ out)
  kind_is (Chunk u) e out = unless_false (is_out (accounts w) k u) NotOut _ (ap (is_out (accounts w) k) (same_Some u t e) ∙ out)
  kind_is (Begin u) e out = unless_false (is_out (accounts w) k u) NotOut _ (ap (is_out (accounts w) k) (same_Some u t e) ∙ out)
  kind_is (End u a b c) e out = unless_false (is_out (accounts w) k u) NotOut _ (ap (is_out (accounts w) k) (same_Some u t e) ∙ out)
  kind_is (PutOff u) e out = unless_false (is_out (accounts w) k u) NotOut _ (ap (is_out (accounts w) k) (same_Some u t e) ∙ out)
  kind_is (Mark u) e out = absurd cc
  kind_is (More u n) e out = absurd cc
  kind_is (Sweep u n) e out = absurd cc
  kind_is Fuel e out = absurd cc

  no_fuel : (kind : Kind) → task_asked kind ≡ Some t → is_fuel kind ≡ false
  no_fuel (Took u) e = refl
  no_fuel (Ran u n) e = refl
  no_fuel (Chunk u) e = refl
  no_fuel (Begin u) e = refl
  no_fuel (End u a b c) e = refl
  no_fuel (PutOff u) e = refl
  no_fuel (Mark u) e = refl
  no_fuel (More u n) e = refl
  no_fuel (Sweep u n) e = refl
  no_fuel Fuel e = absurd cc

  goes_by : w.end ≡ None ⊎ (first_cause w.end w.steps w.settings k false ≡ None → ⊥)
  goes_by = goes_by_cases w.end refl
    where
      goes_by_cases : (o : Option RunEnd) → w.end ≡ o → w.end ≡ None ⊎ (first_cause w.end w.steps w.settings k false ≡ None → ⊥)
      goes_by_cases None e = inl e
      goes_by_cases (Some x) e = inr (λ h. over (sym (ap (λ z. first_cause z w.steps w.settings k false) e) ∙ h))
        where
          over : {c : Refused} → ◌≡◌ {A = Option Refused} (Some c) None → ⊥
          over q = cc

  -- the causes that precede come first
  pub apart_cause : (kind : Kind) → task_asked kind ≡ Some t → (w.end ≡ None → (heap_of (accounts w) t).worker ≢ Some k) → refused w (record { worker = k; kind = kind }) ≡ or_else (first_cause w.end w.steps w.settings k false) (Some NotOut)
  apart_cause kind held apart =
      refused_is w I (record { worker = k; kind = kind })
      ∙ (ap (λ b. or_else (first_cause w.end w.steps w.settings k b) (kind_refusal w.program w.settings (accounts w) k kind)) (no_fuel kind held)
      ∙ elim goes_by [
        | inl goes ↦ ap (or_else (first_cause w.end w.steps w.settings k false)) (kind_is kind held (not_out (apart goes)))
        | inr over ↦ apart_cause_by_cases (first_cause w.end w.steps w.settings k false) (kind_refusal w.program w.settings (accounts w) k kind) over
      ])
    where
      apart_cause_by_cases : (o rest : Option Refused) → (o ≡ None → ⊥) → or_else o rest ≡ or_else o (Some NotOut)
      apart_cause_by_cases None rest h = absurd (h refl)
      apart_cause_by_cases (Some c) rest h = refl
