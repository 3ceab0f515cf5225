-- Entries that aren't refused, if the worker may make one.
use Rattle.turn_entries.proofs.Common.{◌≡◌, ℕ, ◌<◌, ◌&&◌, true, false, Bool, Option, Some, None, is_none, is_some, nat_le, nat_lt, refl, ap, sym, subst, ◌∙◌, arith, false≢true, asked, Ran, Chunk, Begin, PutOff, Fuel, Mark, More, Sweep, SettingsValue, Refused, Collecting, NoWorker, NotDue, NotNeeded, NotSpent, Over, PoolEnough, PoolShort, RunEnd, CanBeGiven, is_pool_enough, kind_refusal, refused_if, refused_unless, heap_of, sweep_number, on_asked, owed_can_be_given, not_refused, units_in_use, place_for, room_of, Private, Due, NeedChunk, is_part_due, lacks_place, NotEntered, NoMemory, Refuses, first_cause, need_cause, or_else, due_cause, IsCaused, refused, WorkerPartFits, part_asks, IsSharedValue, SharedValue, accounts, asked_same, end_now, steps_now, refused_is, ran_answer, machine_after, begin_answer, chunk_answer, put_off_answer, without_fresh, owed_by, IsPaused}
use Rattle.entry_calls.specs.below.run_ledger.{Mark as OwesMark, More as OwesMore, Sweep as OwesSweep, Due as DueCause, Spent}
use Rattle.turn_entries.proofs.Stepping.{first}

-- ---- CAUSES

-- what isn't refused fails only if an allocation does
pub only_memory : (e : NotEntered) (why : Option Refused) → why ≡ None → IsCaused e why → e ≡ NoMemory
only_memory (Refuses cause) why none h = not_refused why cause none h
only_memory NoMemory why none h = refl

-- ---- PARTS

module _ (w : SharedValue) (k : ℕ) (part : Private) (I : IsSharedValue w) (free : first_cause w.end w.steps w.settings k false ≡ None) (F : WorkerPartFits w k part) where
  none_first : is_some (first_cause w.end w.steps w.settings k false) ≡ false
  none_first = ap is_some free

  pub private_free : 0 < part.fresh → refused w (record { worker = k; kind = Ran part.task part.fresh }) ≡ None
  private_free some = ran_answer w k part I F some ∙ free

  module _ (idle : part.begun ≡ None) where
    module _ (fresh : part.fresh ≡ 0) (on : (accounts w).end ≡ None) where
      asks : asked w.program (machine_after w part) part.task ≡ part_asks w.program part
      asks = asked_same w.program part (machine_after w part) _ (first w k part I on F)

      need_none : (o : Option ℕ) → on_asked o (λ n. nat_le part.leaf_limit part.heap.since) ≡ false → on_asked o (lacks_place part.heap) ≡ true → need_cause part o ≡ None
      need_none None due need = absurd (false≢true need)
      need_none (Some words) due need = ap (λ b. refused_if b (DueCause part.heap.since) (refused_if (is_some (place_for part.heap words)) (NotNeeded (room_of part.heap)) None)) due ∙ need_none_by_cases (place_for part.heap words) need
        where
          need_none_by_cases : {A : Type 0} (o : Option A) → is_none o ≡ true → refused_if (is_some o) (NotNeeded (room_of part.heap)) None ≡ None
          need_none_by_cases None h = refl
          need_none_by_cases (Some x) h = absurd (false≢true h)

      pub chunk_free : IsPaused w k part NeedChunk → refused w (record { worker = k; kind = Chunk part.task }) ≡ None
      chunk_free P =
          chunk_answer w k part I (without_fresh w k part F fresh) none_first
          ∙ (ap (λ b. refused_if (is_some b) Collecting (need_cause part (part_asks w.program part))) idle
          ∙ need_none (part_asks w.program part) (ap (λ o. on_asked o (λ n. nat_le part.leaf_limit part.heap.since)) (sym asks) ∙ P.next.1) (ap (λ o. on_asked o (lacks_place part.heap)) (sym asks) ∙ P.next.2))

      due_none : IsPaused w k part Due → due_cause part (part_asks w.program part) ≡ None
      due_none P =
          ap (λ b. refused_if (is_some b) Collecting (refused_unless (is_part_due part (part_asks w.program part)) (NotDue part.heap.since) None)) idle
          ∙ ap (λ b. refused_unless b (NotDue part.heap.since) None) (ap (λ o. on_asked o (λ n. nat_le part.leaf_limit part.heap.since)) (sym asks) ∙ P.next.1)

      pub begin_free : IsPaused w k part Due → is_pool_enough w.settings (accounts w) part.task ≡ true → refused w (record { worker = k; kind = Begin part.task }) ≡ None
      begin_free P enough =
          begin_answer w k part I (without_fresh w k part F fresh) none_first
          ∙ (ap (λ o. or_else o (refused_unless (is_pool_enough w.settings (accounts w) part.task) (PoolShort (units_in_use w.pool)) None)) (due_none P) ∙ ap (λ b. refused_unless b (PoolShort (units_in_use w.pool)) None) enough)

      pub put_off_free : IsPaused w k part Due → is_pool_enough w.settings (accounts w) part.task ≡ false → refused w (record { worker = k; kind = PutOff part.task }) ≡ None
      put_off_free P short =
          put_off_answer w k part I (without_fresh w k part F fresh) none_first
          ∙ (ap (λ o. or_else o (refused_if (is_pool_enough w.settings (accounts w) part.task) (PoolEnough (units_in_use w.pool)) None)) (due_none P) ∙ ap (λ b. refused_if b (PoolEnough (units_in_use w.pool)) None) short)

-- ---- WHAT IS OWED

or_none : (o rest : Option Refused) → o ≡ None → rest ≡ None → or_else o rest ≡ None
or_none None rest a b = b
or_none (Some cause) rest a b = absurd cc

module _ (w : SharedValue) (k t : ℕ) (I : IsSharedValue w) (free : first_cause w.end w.steps w.settings k false ≡ None) where
  pub mark_free : owed_by w k ≡ OwesMark t → refused w (record { worker = k; kind = Mark t }) ≡ None
  mark_free owes =
      refused_is w I (record { worker = k; kind = Mark t })
      ∙ or_none _ _ free (subst (CanBeGiven w.program w.settings (accounts w) k) owes (owed_can_be_given w.program w.settings w.journal.items k I.legal))

  pub more_free : owed_by w k ≡ OwesMore t → refused w (record { worker = k; kind = More t 64 }) ≡ None
  more_free owes =
      refused_is w I (record { worker = k; kind = More t 64 })
      ∙ or_none _ _ free (subst (CanBeGiven w.program w.settings (accounts w) k) owes (owed_can_be_given w.program w.settings w.journal.items k I.legal))

  pub sweep_free : (given : ℕ) → owed_by w k ≡ OwesSweep t → given ≡ sweep_number (accounts w).machine (heap_of (accounts w) t) → refused w (record { worker = k; kind = Sweep t given }) ≡ None
  sweep_free given owes is =
      refused_is w I (record { worker = k; kind = Sweep t given })
      ∙ or_none _ _ free (ap (λ (n : ℕ). kind_refusal w.program w.settings (accounts w) k (Sweep t n)) is ∙ subst (CanBeGiven w.program w.settings (accounts w) k) owes (owed_can_be_given w.program w.settings w.journal.items k I.legal))

-- ---- THE END WITHOUT FUEL

fuel_by : (end : Option RunEnd) (steps settled : ℕ) (s : SettingsValue) (k : ℕ) → end ≡ None → steps ≡ settled → k < s.workers → is_some (first_cause end steps s k false) ≡ true
    → or_else (first_cause end steps s k true) (refused_unless (nat_le s.fuel settled) (NotSpent settled) None) ≡ None
fuel_by end steps settled s k none same below spent = fuel_by_cases end (nat_le s.fuel steps) (nat_le s.fuel settled) (nat_lt k s.workers) none (ap (nat_le s.fuel) same) (grind (arith, below)) spent
  where
    fuel_by_cases : (e : Option RunEnd) (over over' hired : Bool) → e ≡ None → over ≡ over' → hired ≡ true → is_some (refused_if (is_some e) Over (refused_if (over && true) (Spent steps) (refused_unless hired NoWorker None))) ≡ true
        → or_else (refused_if (is_some e) Over (refused_if (over && false) (Spent steps) (refused_unless hired NoWorker None))) (refused_unless over' (NotSpent settled) None) ≡ None
    fuel_by_cases (Some x) over over' hired a b d h = absurd cc
    fuel_by_cases None over over' false a b d h = absurd (false≢true d)
    fuel_by_cases None true true true a b d h = refl
    fuel_by_cases None true false true a b d h = absurd (false≢true (sym b))
    fuel_by_cases None false over' true a b d h = absurd (false≢true h)

pub fuel_free : (w : SharedValue) (k : ℕ) → IsSharedValue w → (accounts w).end ≡ None → k < w.settings.workers → is_some (first_cause w.end w.steps w.settings k false) ≡ true → refused w (record { worker = k; kind = Fuel }) ≡ None
fuel_free w k I goes below spent = refused_is w I (record { worker = k; kind = Fuel }) ∙ fuel_by w.end w.steps (accounts w).steps w.settings k (end_now w I ∙ goes) (steps_now w I) below spent

spent_by : (end : Option RunEnd) (steps settled : ℕ) (s : SettingsValue) (k : ℕ) → end ≡ None → steps ≡ settled → k < s.workers → nat_le s.fuel settled ≡ is_some (first_cause end steps s k false)
spent_by end steps settled s k none same below = spent_by_cases end (nat_le s.fuel steps) (nat_le s.fuel settled) (nat_lt k s.workers) none (ap (nat_le s.fuel) same) (grind (arith, below))
  where
    spent_by_cases : (e : Option RunEnd) (over over' hired : Bool) → e ≡ None → over ≡ over' → hired ≡ true → over' ≡ is_some (refused_if (is_some e) Over (refused_if (over && true) (Spent steps) (refused_unless hired NoWorker None)))
    spent_by_cases (Some x) over over' hired a b d = absurd cc
    spent_by_cases None over over' false a b d = absurd (false≢true d)
    spent_by_cases None true true true a b d = refl
    spent_by_cases None true false true a b d = absurd (false≢true (sym b))
    spent_by_cases None false true true a b d = absurd (false≢true b)
    spent_by_cases None false false true a b d = refl

-- the fuel is used up if and only if that is the first cause that refuses the worker's entries
pub spent_is : (w : SharedValue) (k : ℕ) → IsSharedValue w → (accounts w).end ≡ None → k < w.settings.workers → nat_le w.settings.fuel (accounts w).steps ≡ is_some (first_cause w.end w.steps w.settings k false)
spent_is w k I goes below = spent_by w.end w.steps (accounts w).steps w.settings k (end_now w I ∙ goes) (steps_now w I) below
