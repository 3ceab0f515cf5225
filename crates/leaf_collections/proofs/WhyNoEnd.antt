-- Why the end of a part's leaf collection is refused: only for causes that precede those of its kind.
use Rattle.leaf_collections.proofs.Common.{◌≡◌, ℕ, ◌==◌, ◌&&◌, Bool, true, false, Option, Some, None, is_some, slice_get, refl, ap, ap₂, sym, ◌∙◌, eq-eqb, false≢true, is_running, End, Ledger, Refused, Count, NotCollecting, NotOut, ends_as, is_out, kind_refusal, refused_unless, end_numbers, heap_of, option_is, tasks_are_out_once, Moved, Private, SharedValue, accounts, IsSharedValue, first_cause, or_else, refused, on_is, refused_is, FitsCopied, end_entry, unless_wrong_number}
use Rattle.leaf_collections.proofs.WhyNoChunk.{first_answer}

-- WHY IT IS REFUSED
pub unless_true : (b : Bool) (c : Refused) (rest : Option Refused) → b ≡ true → refused_unless b c rest ≡ rest
unless_true true c rest e = refl
unless_true false c rest e = absurd (false≢true e)

said_so : (n m q : ℕ) → ends_as (n, m, q) (n, m, q) ≡ None
said_so n m q =
    unless_true (n == n) (Count n n) (unless_wrong_number m m (unless_wrong_number q q None)) (eq-eqb n n refl)
    ∙ (unless_true (m == m) (Count m m) (unless_wrong_number q q None) (eq-eqb m m refl) ∙ unless_true (q == q) (Count q q) None (eq-eqb q q refl))

pub end_answer : (w : SharedValue) (k : ℕ) (p : Private) (moved : Moved) → IsSharedValue w → FitsCopied w k p moved → refused w (end_entry k p moved) ≡ first_cause w.end w.steps w.settings k false
end_answer w k p moved I F = end_answer_by_cases (is_some (first_cause w.end w.steps w.settings k false)) refl
  where
    l : Ledger
    l = accounts w

    behind : (o rest : Option Refused) → rest ≡ None → or_else o rest ≡ o
    behind None rest e = e
    behind (Some c) rest e = refl

    end_answer_by_cases : (b : Bool) → is_some (first_cause w.end w.steps w.settings k false) ≡ b → refused w (end_entry k p moved) ≡ first_cause w.end w.steps w.settings k false
    end_answer_by_cases true h = first_answer w I (end_entry k p moved) h
    end_answer_by_cases false h =
        let on : (accounts w).end ≡ None = on_is w I k false h in
        let runs' : is_running (slice_get (accounts w).machine.tasks p.task) ≡ true = (tasks_are_out_once w.program w.settings w.journal.items I.legal).runs on p.task k F.out in
        let held' : option_is (heap_of (accounts w) p.task).worker k ≡ true = ap (λ o. option_is o k) F.out ∙ eq-eqb k k refl in
        let begun : is_some (heap_of (accounts w) p.task).begun ≡ true = F.copy.collects in
        refused_is w I (end_entry k p moved)
        ∙ behind (first_cause w.end w.steps w.settings k false) (kind_refusal w.program w.settings (accounts w) k (End p.task moved.taken moved.given moved.left))
        (unless_true (is_out (accounts w) k p.task) NotOut (refused_unless (is_some (heap_of (accounts w) p.task).begun) NotCollecting (ends_as (moved.taken, moved.given, moved.left) (end_numbers (accounts w).machine (heap_of (accounts w) p.task))))
        (ap₂ (λ x y. x && y) runs' held')
        ∙ (unless_true (is_some (heap_of (accounts w) p.task).begun) NotCollecting (ends_as (moved.taken, moved.given, moved.left) (end_numbers (accounts w).machine (heap_of (accounts w) p.task))) begun
        ∙ (ap (λ z. ends_as (moved.taken, moved.given, moved.left) z) (sym F.numbers) ∙ said_so moved.taken moved.given moved.left)))

-- if no cause precedes it, nothing refuses it
pub end_free : (w : SharedValue) (k : ℕ) (p : Private) (moved : Moved) → IsSharedValue w → first_cause w.end w.steps w.settings k false ≡ None → FitsCopied w k p moved → refused w (end_entry k p moved) ≡ None
end_free w k p moved I free F = end_answer w k p moved I F ∙ free
