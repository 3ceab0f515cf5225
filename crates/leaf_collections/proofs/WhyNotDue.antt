-- Why a leaf collection of a part neither begins nor is put off.
use Rattle.leaf_collections.proofs.Common.{◌≡◌, ℕ, true, false, Bool, Option, None, is_some, nat_le, refl, ap, ap₂, sym, ◌∙◌, none_of, Kind, Ledger, Refused, Collecting, NotDue, heap_of, in_use, is_due, on_asked, is_fuel, kind_refusal, on_due, on_running, refused_if, refused_unless, units_in_use, Private, is_part_due, SharedValue, accounts, IsSharedValue, WorkerPartFits, part_asks, first_cause, or_else, due_cause, refused, asks_is, since_is, at_part, used_now, on_is, refused_is}

in_turn : (a b : Bool) (x y : Refused) (rest : Option Refused) → refused_if a x (refused_unless b y rest) ≡ or_else (refused_if a x (refused_unless b y None)) rest
in_turn true b x y rest = refl
in_turn false true x y rest = refl
in_turn false false x y rest = refl

module _ (w : SharedValue) (k : ℕ) (p : Private) (I : IsSharedValue w) (F : WorkerPartFits w k (record p { fresh = 0 })) (on : (accounts w).end ≡ None) where
  abbrev P : Private
  P = record p { fresh = 0 }

  abbrev l : Ledger
  l = accounts w

  abbrev t : ℕ
  t = p.task

  due_same : is_due w.settings w.program l t ≡ is_part_due p (part_asks w.program p)
  due_same =
      ap (λ o. on_asked o (λ n. nat_le w.settings.leaf (heap_of l t).since)) (asks_is w k P I F on)
      ∙ ap₂ (λ a b. on_asked (part_asks w.program p) (λ n. nat_le a b)) (sym F.leaf_limit) (sym (since_is w k P I F on))

  pub due_is : (rest : Option Refused) → on_running l k t (on_due w.settings w.program l t rest) ≡ or_else (due_cause p (part_asks w.program p)) rest
  due_is rest =
      at_part w k P F on (on_due w.settings w.program l t rest)
      ∙ (ap₂ (λ b n. refused_if (is_some p.begun) Collecting (refused_unless b (NotDue n) rest)) due_same (sym (since_is w k P I F on))
      ∙ in_turn (is_some p.begun) (is_part_due p (part_asks w.program p)) Collecting (NotDue p.heap.since) rest)

-- an entry of a kind that needs a due collection, if no cause precedes those of its kind; the rest depends on the units
-- in use
pub due_answer : (w : SharedValue) (k : ℕ) (p : Private) → IsSharedValue w → WorkerPartFits w k (record p { fresh = 0 }) → (kind : Kind) (rest : ℕ → Option Refused)
    → kind_refusal w.program w.settings (accounts w) k kind ≡ on_running (accounts w) k p.task (on_due w.settings w.program (accounts w) p.task (rest (in_use (accounts w)))) → is_some (first_cause w.end w.steps w.settings k (is_fuel kind)) ≡ false
    → refused w (record { worker = k; kind = kind }) ≡ or_else (due_cause p (part_asks w.program p)) (rest (units_in_use w.pool))
due_answer w k p I F kind rest says h =
    refused_is w I (record { worker = k; kind = kind })
    ∙ (ap (λ o. or_else o (kind_refusal w.program w.settings (accounts w) k kind)) (none_of (first_cause w.end w.steps w.settings k (is_fuel kind)) h)
    ∙ (says ∙ (due_is w k p I F (on_is w I k (is_fuel kind) h) (rest (in_use (accounts w))) ∙ ap (λ n. or_else (due_cause p (part_asks w.program p)) (rest n)) (sym (used_now w I)))))
