-- For lemmas of several entries: refusals, the small number of allocations, and good results.
use Rattle.journal_replay.proofs.Common.{◌≡◌, ℕ, ◌+◌, ◌<◌, ◌≤◌, Result, Ok, Err, length, slice_get, refl, ap, ◌∙◌, arith, IfOk, MachineState, row_of, Ledger, steps_are_bounded, journals_are_counted, Private, steps, unended, SharedValue, accounts, IsSharedValue, beyond, FitsFirst, beyond_machine}

-- ---- REFUSALS

-- ---- ALLOCATIONS are far fewer than 2^32

pub few_allocations : (w : SharedValue) (part : Private) (n : ℕ) → IsSharedValue w → part.fresh ≡ 0 → FitsFirst w part → n ≤ 257 → part.allocations + n < 4294967296
few_allocations w part n I fresh F few =
    let l : Ledger = accounts w in
    let is : (beyond w.program l part).machine ≡ unended l.machine = beyond_machine w.program l part ∙ ap (steps w.program (unended l.machine) part.task) fresh in
    let count : part.allocations ≡ length (row_of (slice_get l.machine.store part.task)) = F.count ∙ ap (λ (m : MachineState). length (row_of (slice_get m.store part.task))) is in
    let most : length (row_of (slice_get l.machine.store part.task)) ≤ l.steps = (journals_are_counted w.program w.settings w.journal.items).counts.objects part.task in
    let bound : l.steps ≤ w.settings.fuel + 256 = steps_are_bounded w.program w.settings w.journal.items I.legal in
    let fuel = I.settings.fuel.1 in
    omega (arith, count, most, bound, fuel, few)

-- ---- GOOD RESULTS

pub if_ok : {A E : Type 0} (r : Result A E) (P : A → Type 0) → ((x : A) → r ≡ Ok x → P x) → IfOk r P
if_ok (Ok x) P h = h x refl
if_ok (Err e) P h = tt
