-- How many of a part's next steps fit in one entry: its private steps, and one more that isn't private.
use Rattle.journal_replay.proofs.Common.{◌≡◌, ◌≢◌, ℕ, zero, suc, ◌+◌, ◌-◌, ◌<◌, ◌≤◌, ◌||◌, true, false, cond, min, nat_le, Option, Some, None, is_some, inl, inr, refl, ap, ap₂, sym, ◌∙◌, arith, cases_lt, cond-false, cond-true, false≢true, or_left, or_right, ProgramText, MachineState, asked, Ran, SettingsValue, private_limit, Ledger, Collecting, Long, long_at, refused_if, heap_of, lacks_room, is_due, is_in_need, is_private, most_steps, on_asked, standing, task_step, task_steps, ArePrivate, Paused, Shared, NeedChunk, Spent, Private, is_part_due, is_part_in_need, lacks_place, lacks_same, first_cause, refused, WorkerPartFits, next_line, IsSharedValue, SharedValue, accounts, asks_is, asks_two, counted_is, since_is, at_part, fits_now, IsShared, machine_after, PausesNext, standing_by}
use Rattle.heap_reading.specs.below.task_machine.{Due}
use Rattle.step_commit.proofs.LastSteps as last
use Rattle.journal_replay.proofs.HoldingCauses.{behind, on}

-- ---- AFTER PRIVATE STEPS

pub standing_then : (p : ProgramText) (s : SettingsValue) (t n x m : ℕ) (l : Ledger) → x ≡ n + m → ArePrivate p s l t n → standing s p l t x ≡ n + standing s p (task_steps p l t n) t m
standing_then p s t zero x m l e h =
    let is : x ≡ m = omega (arith, e) in
    ap (standing s p l t) is ∙ (let z : standing s p l t m ≡ 0 + standing s p l t m = omega arith in z)
standing_then p s t (suc n) zero m l e h = absurd (omega (arith, e))
standing_then p s t (suc n) (suc x) m l e h =
    let k : Ledger = task_step p l t in
    cond-false (is_due s p l t || is_in_need p l t) 0 (cond (is_private p l.machine t) (suc (standing s p k t x)) 1) (ap₂ (λ a b. a || b) h.0 h.1)
    ∙ (cond-true (is_private p l.machine t) (suc (standing s p k t x)) 1 h.2
    ∙ (ap suc (standing_then p s t n x m k (omega (arith, e)) h.3) ∙ (let z : suc (n + standing s p (task_steps p k t n) t m) ≡ suc n + standing s p (task_steps p k t n) t m = omega arith in z)))

-- no step that is due or in need fits in an entry, and one that isn't private fits as the last
none_stands : (p : ProgramText) (s : SettingsValue) (t m : ℕ) (l : Ledger) → (is_due s p l t || is_in_need p l t) ≡ true → standing s p l t (suc m) ≡ 0
none_stands p s t m l e = cond-true (is_due s p l t || is_in_need p l t) 0 (cond (is_private p l.machine t) (suc (standing s p (task_step p l t) t m)) 1) e

one_stands : (p : ProgramText) (s : SettingsValue) (t m : ℕ) (l : Ledger) → is_due s p l t ≡ false → is_in_need p l t ≡ false → is_private p l.machine t ≡ false → standing s p l t (suc m) ≡ 1
one_stands p s t m l due need shared =
    cond-false (is_due s p l t || is_in_need p l t) 0 (cond (is_private p l.machine t) (suc (standing s p (task_step p l t) t m)) 1) (ap₂ (λ a b. a || b) due need)
    ∙ cond-false (is_private p l.machine t) (suc (standing s p (task_step p l t) t m)) 1 shared

-- ---- A PART, before the run's end

module _ (w : SharedValue) (k : ℕ) (p : Private) (I : IsSharedValue w) (F : WorkerPartFits w k p) (going : (accounts w).end ≡ None) where
  abbrev t : ℕ
  t = p.task

  abbrev l : Ledger
  l = accounts w

  abbrev M : Ledger
  M = task_steps w.program l t p.fresh

  due_by : is_part_due p (asked w.program (machine_after w p) t) ≡ true → is_due w.settings w.program M t ≡ true
  due_by h =
      ap₂ (λ a n. on_asked (asked w.program M.machine t) (λ words. nat_le a n)) (sym F.leaf_limit) (sym (since_is w k p I F going))
      ∙ (ap (λ (m : MachineState). on_asked (asked w.program m t) (λ words. nat_le p.leaf_limit p.heap.since)) (sym (last.machine_same w k p I F going)) ∙ h)

  need_by : is_part_in_need w.program p (machine_after w p) ≡ true → is_in_need w.program M t ≡ true
  need_by h = need_by_cases (asked w.program M.machine t) refl (ap (λ (m : MachineState). on_asked (asked w.program m t) (lacks_place p.heap)) (sym (last.machine_same w k p I F going)) ∙ h)
    where
      need_by_cases : (o : Option ℕ) → asked w.program M.machine t ≡ o → on_asked (asked w.program M.machine t) (lacks_place p.heap) ≡ true → is_in_need w.program M t ≡ true
      need_by_cases None e q = absurd (false≢true (sym (ap (λ z. on_asked z (lacks_place p.heap)) e) ∙ q))
      need_by_cases (Some words) e q =
          ap (λ z. on_asked z (lacks_room (heap_of M t))) e
          ∙ (sym (lacks_same p.heap (heap_of M t) F.form.shaped (counted_is w k p I F going) words (asks_two p.field_limit p.frames.top (next_line w.program p) words (sym (asks_is w k p I F going) ∙ e)))
          ∙ (sym (ap (λ z. on_asked z (lacks_place p.heap)) e) ∙ q))

  -- how many of further steps fit
  stands : (why : Paused) → PausesNext w p why → why ≢ Spent → (m : ℕ) → p.fresh ≤ private_limit → standing w.settings w.program l t (p.fresh + suc m) ≡ standing_by p why
  stands why next more m few = standing_then w.program w.settings t p.fresh (p.fresh + suc m) (suc m) l refl (fits_now w k p F going).private ∙ stands_by_cases why next more
    where
      stands_by_cases : (why : Paused) → PausesNext w p why → why ≢ Spent → p.fresh + standing w.settings w.program M t (suc m) ≡ standing_by p why
      stands_by_cases Shared next more =
          let S : IsShared w p = record { last = next; few = few } in
          ap (λ n. p.fresh + n) (one_stands w.program w.settings t m M (last.not_due w k p I F S going) (last.not_in_need w k p I F S going) (last.shared_now w k p I F S going))
      stands_by_cases Due next more = ap (λ n. p.fresh + n) (none_stands w.program w.settings t m M (or_left (is_due w.settings w.program M t) (is_in_need w.program M t) (due_by next.1))) ∙ omega arith
      stands_by_cases NeedChunk next more = ap (λ n. p.fresh + n) (none_stands w.program w.settings t m M (or_right (is_due w.settings w.program M t) (is_in_need w.program M t) (need_by next.2))) ∙ omega arith
      stands_by_cases Spent next more = absurd (more refl)

-- at most one step more than the private ones fits, and if it does, it comes next
module _ (p : Private) where
  standing_most : (why : Paused) → standing_by p why ≤ p.fresh + 1
  standing_most Shared = omega arith
  standing_most Due = omega arith
  standing_most NeedChunk = omega arith
  standing_most Spent = omega arith

long_by : (n m s : ℕ) → s ≡ m → m < n → n ≤ 257 → long_at n (min most_steps s) ≡ Some (Long m)
long_by n m s e lt le =
    let is : min most_steps s ≡ m = omega (arith, e, lt, le) in
    let over : nat_le n (min most_steps s) ≡ false = (let h : min most_steps s < n = omega (arith, is, lt) in grind (arith, h)) in
    rw over (ap (λ z. Some (Long z)) is)

less_by : (a b : ℕ) → a ≤ b → a ≢ b → a < b
less_by a b le ne = elim (cases_lt a b) [ inl lt ↦ lt | inr ge ↦ absurd (ne (omega (arith, le, ge))) ]

-- IF FEWER STEPS FIT, the entry is too long
pub too_long : (w : SharedValue) (k : ℕ) (p : Private) (why : Paused) (n : ℕ) → IsSharedValue w → WorkerPartFits w k p → p.begun ≡ None → first_cause w.end w.steps w.settings k false ≡ None → PausesNext w p why → (why ≡ Spent → p.fresh ≡ n) → p.fresh ≤ n → p.fresh ≢ n → standing_by p why ≢ n → n ≤ 257
    → refused w (record { worker = k; kind = Ran p.task n }) ≡ Some (Long (standing_by p why))
too_long w k p why n I F idle first next spent within off not_all few =
    let l : Ledger = accounts w in
    let more : why ≢ Spent = (λ e. off (spent e)) in
    let fresh : p.fresh < n = less_by p.fresh n within off in
    let most : standing_by p why ≤ p.fresh + 1 = standing_most p why in
    let less : standing_by p why < n = less_by (standing_by p why) n (omega (arith, most, fresh)) not_all in
    let going : l.end ≡ None = on w k I first in
    let m : ℕ = n - (p.fresh + 1) in
    let is : n ≡ p.fresh + suc m = omega (arith, fresh) in
    let s : standing w.settings w.program l p.task n ≡ standing_by p why = ap (standing w.settings w.program l p.task) is ∙ stands w k p I F going why next more m (omega (arith, fresh, few)) in
    behind w k I first (Ran p.task n) refl
    ∙ (at_part w k p F going (long_at n (min most_steps (standing w.settings w.program l p.task n)))
    ∙ (ap (λ b. refused_if (is_some b) Collecting (long_at n (min most_steps (standing w.settings w.program l p.task n)))) idle ∙ long_by n (standing_by p why) (standing w.settings w.program l p.task n) s less few))
