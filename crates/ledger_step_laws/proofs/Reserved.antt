-- A chunk is reserved only for a task whose next step allocates.
use Rattle.ledger_step_laws.proofs.Common.{◌≡◌, ℕ, zero, suc, ◌<◌, ◌≤◌, ◌||◌, cond, arith, Option, Some, None, slice_get, ◌⊎◌, inl, inr, refl, ap₂, sym, ◌∙◌, cases_lt, none-some, ProgramText, SettingsValue, Heap, Ledger, or_fresh, standing, task_step, BookedLedger, ArePrivate, OnlyAskersReserve}

pub booked_askers : (p : ProgramText) (s : SettingsValue) (l : Ledger) → BookedLedger p s l → OnlyAskersReserve p l
booked_askers p s l B u none = booked_askers_by_cases (slice_get l.heaps u) refl
  where
    zero_is : (h : Heap) → slice_get l.heaps u ≡ Some h → (0 < h.reserved) ⊎ (h.reserved ≤ 0) → h.reserved ≡ 0
    zero_is h e (inl lt) = let q = (B.each u h e).reserved lt in absurd (none-some _ (sym none ∙ q.1))
    zero_is h e (inr le) = omega arith

    booked_askers_by_cases : (o : Option Heap) → slice_get l.heaps u ≡ o → (or_fresh o).reserved ≡ 0
    booked_askers_by_cases None e = refl
    booked_askers_by_cases (Some h) e = zero_is h e (cases_lt 0 h.reserved)

-- private steps that are neither due nor in need fit in one entry
pub private_stand : (p : ProgramText) (s : SettingsValue) (t k : ℕ) (l : Ledger) → ArePrivate p s l t k → k ≤ standing s p l t k
private_stand p s t zero l h = omega arith
private_stand p s t (suc k) l h =
    let more : k ≤ standing s p (task_step p l t) t k = private_stand p s t k (task_step p l t) h.3 in
    let e : standing s p l t (suc k) ≡ suc (standing s p (task_step p l t) t k) =
    ap₂ (λ a b. cond a 0 (cond b (suc (standing s p (task_step p l t) t k)) 1)) (ap₂ (λ a b. a || b) h.0 h.1) h.2 in
    omega arith
