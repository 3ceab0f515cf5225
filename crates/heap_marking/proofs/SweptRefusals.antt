-- Why a sweep is refused.
use Rattle.heap_marking.proofs.Common.{◌≡◌, ◌==◌, ℕ, false, Option, None, is_some, ap, ◌∙◌, none_of, Sweep, Refused, Left, kind_refusal, refused_unless, heap_of, left_in, marked_in, sweep_number, first_cause, or_else, refused, IsSharedValue, SharedValue, accounts, on_is, refused_is, marking_cause, unless_wrong_number}
use Rattle.heap_marking.proofs.MarkCauses.{marks_refuse}

-- of a heap that is being marked
abbrev pub sweep_cause : SharedValue → ℕ → ℕ → Option Refused
sweep_cause w t given =
    refused_unless (left_in (heap_of (accounts w) t) == 0) (Left (marked_in (heap_of (accounts w) t))) (unless_wrong_number given (sweep_number (accounts w).machine (heap_of (accounts w) t)) None)

-- if no cause precedes those of its kind
pub sweep_answer : (w : SharedValue) (k t given : ℕ) → IsSharedValue w → is_some (first_cause w.end w.steps w.settings k false) ≡ false → refused w (record { worker = k; kind = Sweep t given }) ≡ or_else (marking_cause w t) (sweep_cause w t given)
sweep_answer w k t given I h =
    refused_is w I (record { worker = k; kind = Sweep t given })
    ∙ (ap (λ o. or_else o (kind_refusal w.program w.settings (accounts w) k (Sweep t given))) (none_of (first_cause w.end w.steps w.settings k false) h) ∙ (marks_refuse w k t I (on_is w I k false h)).sweep given)
