-- If an entry isn't refused, the same entry with fewer steps isn't either.
use Rattle.journal_laws.proofs.Common.{◌≡◌, ℕ, zero, suc, ◌≤◌, ◌&&◌, ◌||◌, not, min, Bool, true, false, cond, Option, None, nat_le, nat_lt, ap, sym, ◌∙◌, is_some, is_none, arith, le-leb, none_is, Ran, SettingsValue, ProgramText, Ledger, Refused, Over, Spent, NoWorker, NotOut, Collecting, Long, heap_of, task_step, is_due, is_in_need, is_private, most_steps, standing, refused_if, refused_unless, is_out, long_at, FewerStepsAreLegal, ran_tells, entry_tells, out_tells}

fewer_by : (j k : ℕ) (a b : Bool) (rest rest' : ℕ) → j ≤ k → (j ≤ k → k ≤ rest → j ≤ rest') → suc k ≤ cond a 0 (cond b (suc rest) 1) → suc j ≤ cond a 0 (cond b (suc rest') 1)
fewer_by j k true b rest rest' le more h = absurd (omega arith)
fewer_by j k false true rest rest' le more h = let q : j ≤ rest' = more le (omega arith) in omega arith
fewer_by j k false false rest rest' le more h = omega arith

fewer_stand : (s : SettingsValue) (p : ProgramText) (t j k : ℕ) (l : Ledger) → j ≤ k → k ≤ standing s p l t k → j ≤ standing s p l t j
fewer_stand s p t zero k l le h = omega arith
fewer_stand s p t (suc j) zero l le h = absurd (omega arith)
fewer_stand s p t (suc j) (suc k) l le h =
    fewer_by j k (is_due s p l t || is_in_need p l t) (is_private p l.machine t) (standing s p (task_step p l t) t k) (standing s p (task_step p l t) t j) (omega arith)
    (λ q r. fewer_stand s p t j k (task_step p l t) q r) h

pub long_none : (k m : ℕ) → k ≤ m → long_at k m ≡ None
long_none k m le = ap (λ b. refused_unless b (Long m) None) (le-leb k m le)

pub fewer_steps_are_legal : FewerStepsAreLegal
fewer_steps_are_legal p s l w t j k le h =
    let a = entry_tells p s l (record { worker = w; kind = Ran t k }) (ap is_none h) in
    let b = out_tells l w t _ a.2 in
    let c : long_at k (min most_steps (standing s p l t k)) ≡ None = none_is (long_at k (min most_steps (standing s p l t k))) b.2 in
    let r = ran_tells p s l w t k (ap is_none h) in
    let few : k ≤ 257 = r.0 in
    let d : j ≤ standing s p l t j = fewer_stand s p t j k l le r.1 in
    let e : long_at j (min most_steps (standing s p l t j)) ≡ None = long_none j (min most_steps (standing s p l t j)) (omega arith) in
    ap (around l) (e ∙ sym c) ∙ h
  where
    around : Ledger → Option Refused → Option Refused
    around l rest =
        refused_if (is_some l.end) Over (refused_if (nat_le s.fuel l.steps && not false) (Spent l.steps) (refused_unless (nat_lt w s.workers) NoWorker (
        refused_unless (is_out l w t) NotOut (refused_if (is_some (heap_of l t).begun) Collecting rest))))
