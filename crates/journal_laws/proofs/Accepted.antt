-- An entry is accepted if and only if its conditions hold.
use Rattle.journal_laws.proofs.Common.{◌≡◌, ℕ, zero, suc, ◌+◌, ◌<◌, ◌≤◌, ◌==◌, ◌&&◌, not, min, Bool, true, false, cond, Option, Some, None, List, [], ◌∷◌, slice_get, nat_le, nat_lt, ◌⊎◌, inl, inr, refl, ap, sym, ◌∙◌, is_none, is_some, arith, eqb-true, eq-eqb, ne_eqb, false≢true, and_parts, and_from, eqb-false, leb-true, leb-false, le-leb, lt-leb, ltb-true, lt-ltb, and-false, none_is, none_of, some_none, Kind, Took, Ran, Chunk, Begin, End as EndOf, PutOff, Mark, More, Sweep, Fuel, SettingsValue, ProgramText, is_running, is_waiting, Heap, Ledger, Refused, end_numbers, heap_of, in_use, left_in, take_of, words_in, is_due, is_in_need, most_steps, standing, unless_wrong_number, out_from, is_fuel, is_out, is_pool_enough, is_ready, kind_refusal, long_at, on_due, on_running, on_waiting, refused_holding, refused_if, refused_unless, option_is, held_is, is_held, holding_none, worker_of, worker_at, Allows, AcceptedIsAllowed, IsOutAt, WorkerHoldsTask, IsUnswept}
use Rattle.journal_laws.proofs.Fewer.{long_none}

-- nothing is both refused and accepted
pub not_refused : {A : Type 0} (o : Option Refused) (cause : Refused) → o ≡ None → o ≡ Some cause → A
not_refused o cause none some = absurd cc

-- TESTS

if_in : (b : Bool) (c : Refused) (rest : Option Refused) → refused_if b c rest ≡ None → (b ≡ false) × (rest ≡ None)
if_in true c rest h = some_none h
if_in false c rest h = (refl, h)

unless_in : (b : Bool) (c : Refused) (rest : Option Refused) → refused_unless b c rest ≡ None → (b ≡ true) × (rest ≡ None)
unless_in true c rest h = (refl, h)
unless_in false c rest h = some_none h

if_of : (b : Bool) (c : Refused) (rest : Option Refused) → b ≡ false → rest ≡ None → refused_if b c rest ≡ None
if_of b c rest e h = ap (λ v. refused_if v c rest) e ∙ h

unless_of : (b : Bool) (c : Refused) (rest : Option Refused) → b ≡ true → rest ≡ None → refused_unless b c rest ≡ None
unless_of b c rest e h = ap (λ v. refused_unless v c rest) e ∙ h

-- WHERE A WORKER IS

out_in : (l : Ledger) (w t : ℕ) → is_out l w t ≡ true → WorkerHoldsTask l w t
out_in l w t h =
    let both = and_parts (is_running (slice_get l.machine.tasks t)) (option_is (heap_of l t).worker w) h in
    record { runs = both.0; out = held_is (heap_of l t).worker w both.1 }

out_of : (l : Ledger) (w t : ℕ) → WorkerHoldsTask l w t → is_out l w t ≡ true
out_of l w t O = and_from (is_running (slice_get l.machine.tasks t)) (option_is (heap_of l t).worker w) O.runs (is_held (heap_of l t).worker w O.out)

at_in : (l : Ledger) (w t : ℕ) (rest : Option Refused) → on_running l w t rest ≡ None → IsOutAt l w t × (rest ≡ None)
at_in l w t rest h =
    let a = unless_in (is_out l w t) _ _ h in
    let b = if_in (is_some (heap_of l t).begun) _ _ a.1 in
    (record { out = out_in l w t a.0; idle = b.0 }, b.1)

at_of : (l : Ledger) (w t : ℕ) (rest : Option Refused) → IsOutAt l w t → rest ≡ None → on_running l w t rest ≡ None
at_of l w t rest A h = unless_of (is_out l w t) _ _ (out_of l w t A.out) (if_of (is_some (heap_of l t).begun) _ _ A.idle h)

waits_in : (l : Ledger) (t : ℕ) (rest : Option Refused) → on_waiting l t rest ≡ None → IsUnswept l t × (rest ≡ None)
waits_in l t rest h =
    let a = unless_in (is_waiting (slice_get l.machine.tasks t)) _ _ h in
    let b = if_in (heap_of l t).swept _ _ a.1 in
    (record { waits = a.0; unswept = b.0 }, b.1)

waits_of : (l : Ledger) (t : ℕ) (rest : Option Refused) → IsUnswept l t → rest ≡ None → on_waiting l t rest ≡ None
waits_of l t rest U h = unless_of (is_waiting (slice_get l.machine.tasks t)) _ _ U.waits (if_of (heap_of l t).swept _ _ U.unswept h)

-- a worker that holds no task isn't found to hold one
none_held : (w t : ℕ) (heaps : List Heap) → ((u : ℕ) → worker_at (slice_get heaps u) ≡ Some w → ⊥) → out_from w t heaps ≡ None
none_held w t [] h = refl
none_held w t (g ∷ heaps) h = none_held_by_cases (option_is g.worker w) refl (none_held w (t + 1) heaps (λ u. h (suc u)))
  where
    none_held_by_cases : (v : Bool) → option_is g.worker w ≡ v → out_from w (t + 1) heaps ≡ None → cond v (Some t) (out_from w (t + 1) heaps) ≡ None
    none_held_by_cases true e rest = absurd (h zero (held_is g.worker w e))
    none_held_by_cases false e rest = rest

free_in : (l : Ledger) (w : ℕ) → refused_holding (out_from w 0 l.heaps) None ≡ None → (u : ℕ) → (heap_of l u).worker ≡ Some w → ⊥
free_in l w h u e = holding_none w 0 l.heaps (free_in_by_cases (out_from w 0 l.heaps) h) u (sym (worker_of l u) ∙ e)
  where
    free_in_by_cases : (o : Option ℕ) → refused_holding o None ≡ None → o ≡ None
    free_in_by_cases None q = refl
    free_in_by_cases (Some t) q = some_none q

free_out : (l : Ledger) (w : ℕ) → ((u : ℕ) → (heap_of l u).worker ≡ Some w → ⊥) → refused_holding (out_from w 0 l.heaps) None ≡ None
free_out l w h = ap (λ o. refused_holding o None) (none_held w 0 l.heaps (λ u e. h u (worker_of l u ∙ e)))

-- NUMBERS

counted_in : (said is : ℕ) (rest : Option Refused) → unless_wrong_number said is rest ≡ None → (said ≡ is) × (rest ≡ None)
counted_in said is rest h = let a = unless_in (said == is) _ _ h in (eqb-true said is a.0, a.1)

counted_of : (said is : ℕ) (rest : Option Refused) → said ≡ is → rest ≡ None → unless_wrong_number said is rest ≡ None
counted_of said is rest e h = unless_of (said == is) _ _ (eq-eqb said is e) h

three : (a b c : ℕ) (n : ℕ × ℕ × ℕ) → a ≡ n.0 → b ≡ n.1 → c ≡ n.2 → (a, b, c) ≡ n
three a b c n ea eb ec = λ i. (ea i, eb i, ec i)

long_in : (k m : ℕ) → long_at k m ≡ None → k ≤ m
long_in k m h = leb-true k m (unless_in (nat_le k m) _ _ h).0

-- EACH KIND

module _ (p : ProgramText) (s : SettingsValue) (l : Ledger) (w : ℕ) where
  due_in : (t : ℕ) (rest : Option Refused) → on_due s p l t rest ≡ None → (is_due s p l t ≡ true) × (rest ≡ None)
  due_in t rest h = unless_in (is_due s p l t) _ _ h

  allows : (kind : Kind) → kind_refusal p s l w kind ≡ None → Allows p s l w kind
  allows (Took t) h =
      let a = unless_in (is_ready l t) _ _ h in
      let b = and_parts (is_running (slice_get l.machine.tasks t)) (is_none (heap_of l t).worker) a.0 in
      (b.0, none_is (heap_of l t).worker b.1, free_in l w a.1)
  allows (Ran t k) h =
      let a = at_in l w t _ h in
      let le : k ≤ min most_steps (standing s p l t k) = long_in k (min most_steps (standing s p l t k)) a.1 in
      (a.0, omega arith, omega arith)
  allows (Chunk t) h =
      let a = at_in l w t _ h in
      let b = if_in (is_due s p l t) _ _ a.1 in
      let c = unless_in (is_in_need p l t) _ _ b.1 in
      (a.0, b.0, c.0)
  allows (Begin t) h =
      let a = at_in l w t _ h in
      let b = due_in t _ a.1 in
      let c = unless_in (is_pool_enough s l t) _ _ b.1 in
      (a.0, b.0, leb-true (in_use l + take_of l.machine (heap_of l t)) s.chunks c.0)
  allows (EndOf t x g n) h =
      let a = unless_in (is_out l w t) _ _ h in
      let b = unless_in (is_some (heap_of l t).begun) _ _ a.1 in
      let c = counted_in x _ _ b.1 in
      let d = counted_in g _ _ c.1 in
      let e = counted_in n _ _ d.1 in
      (out_in l w t a.0, b.0, three x g n (end_numbers l.machine (heap_of l t)) c.0 d.0 e.0)
  allows (PutOff t) h =
      let a = at_in l w t _ h in
      let b = due_in t _ a.1 in
      let c = if_in (is_pool_enough s l t) _ _ b.1 in
      (a.0, b.0, leb-false (in_use l + take_of l.machine (heap_of l t)) s.chunks c.0)
  allows (Mark t) h =
      let a = waits_in l t _ h in
      let b = if_in (is_some (heap_of l t).marked) _ _ a.1 in
      let c = unless_in (nat_le s.inner (words_in l.machine (heap_of l t))) _ _ b.1 in
      (a.0, b.0, leb-true s.inner (words_in l.machine (heap_of l t)) c.0)
  allows (More t n) h =
      let a = waits_in l t _ h in
      let b = unless_in (is_some (heap_of l t).marked) _ _ a.1 in
      let c = if_in (left_in (heap_of l t) == 0) _ _ b.1 in
      let d : left_in (heap_of l t) ≡ 0 → ⊥ = eqb-false (left_in (heap_of l t)) 0 c.0 in
      (a.0, b.0, omega arith)
  allows (Sweep t g) h =
      let a = waits_in l t _ h in
      let b = unless_in (is_some (heap_of l t).marked) _ _ a.1 in
      let c = unless_in (left_in (heap_of l t) == 0) _ _ b.1 in
      let d = counted_in g _ _ c.1 in
      (a.0, b.0, eqb-true (left_in (heap_of l t)) 0 c.0, d.0)
  allows Fuel h = leb-true s.fuel l.steps (unless_in (nat_le s.fuel l.steps) _ _ h).0

  allowed : (kind : Kind) → Allows p s l w kind → kind_refusal p s l w kind ≡ None
  allowed (Took t) A =
      unless_of (is_ready l t) _ _ (and_from (is_running (slice_get l.machine.tasks t)) (is_none (heap_of l t).worker) A.0 (ap is_none A.1)) (free_out l w A.2)
  allowed (Ran t k) A = let a = A.1 in let b = A.2 in at_of l w t _ A.0 (long_none k (min most_steps (standing s p l t k)) (omega arith))
  allowed (Chunk t) A = at_of l w t _ A.0 (if_of (is_due s p l t) _ _ A.1 (unless_of (is_in_need p l t) _ _ A.2 refl))
  allowed (Begin t) A = at_of l w t _ A.0 (unless_of (is_due s p l t) _ _ A.1 (unless_of (is_pool_enough s l t) _ _ (le-leb (in_use l + take_of l.machine (heap_of l t)) s.chunks A.2) refl))
  allowed (EndOf t x g n) A =
      unless_of (is_out l w t) _ _ (out_of l w t A.0) (unless_of (is_some (heap_of l t).begun) _ _ A.1
      (counted_of x _ _ (ap (λ (q : ℕ × ℕ × ℕ). q.0) A.2) (counted_of g _ _ (ap (λ (q : ℕ × ℕ × ℕ). q.1) A.2) (counted_of n _ _ (ap (λ (q : ℕ × ℕ × ℕ). q.2) A.2) refl))))
  allowed (PutOff t) A = at_of l w t _ A.0 (unless_of (is_due s p l t) _ _ A.1 (if_of (is_pool_enough s l t) _ _ (lt-leb (in_use l + take_of l.machine (heap_of l t)) s.chunks A.2) refl))
  allowed (Mark t) A = waits_of l t _ A.0 (if_of (is_some (heap_of l t).marked) _ _ A.1 (unless_of (nat_le s.inner (words_in l.machine (heap_of l t))) _ _ (le-leb s.inner (words_in l.machine (heap_of l t)) A.2) refl))
  allowed (More t n) A =
      let some : 0 < left_in (heap_of l t) = A.2 in
      waits_of l t _ A.0 (unless_of (is_some (heap_of l t).marked) _ _ A.1 (if_of (left_in (heap_of l t) == 0) _ _ (ne_eqb (left_in (heap_of l t)) 0 (λ e. omega arith)) refl))
  allowed (Sweep t g) A =
      waits_of l t _ A.0 (unless_of (is_some (heap_of l t).marked) _ _ A.1 (unless_of (left_in (heap_of l t) == 0) _ _ (eq-eqb (left_in (heap_of l t)) 0 A.2) (counted_of g _ _ A.3 refl)))
  allowed Fuel A = unless_of (nat_le s.fuel l.steps) _ _ (le-leb s.fuel l.steps A) refl

fuel_in : (a b : Bool) → (a && not b) ≡ false → (b ≡ true) ⊎ (a ≡ false)
fuel_in true true h = inl refl
fuel_in true false h = absurd (false≢true (sym h))
fuel_in false b h = inr refl

fuel_of : (a b : Bool) → (b ≡ true) ⊎ (a ≡ false) → (a && not b) ≡ false
fuel_of a b (inl e) = ap (λ v. a && not v) e ∙ and-false a
fuel_of a b (inr e) = ap (λ v. v && not b) e

pub accepted_is_allowed : AcceptedIsAllowed
accepted_is_allowed p s l e = (
  λ h.
      let a = if_in (is_some l.end) _ _ h in
      let b = if_in (nat_le s.fuel l.steps && not (is_fuel e.kind)) _ _ a.1 in
      let c = unless_in (nat_lt e.worker s.workers) _ _ b.1 in
      record {
        on = none_of l.end a.0;
        fuel = elim (fuel_in (nat_le s.fuel l.steps) (is_fuel e.kind) b.0) [ inl f ↦ inl f | inr lt ↦ inr (leb-false s.fuel l.steps lt) ];
        worker = ltb-true e.worker s.workers c.0;
        allows = allows p s l e.worker e.kind c.1;
      },
  λ A.
      if_of (is_some l.end) _ _ (ap is_some A.on)
      (if_of (nat_le s.fuel l.steps && not (is_fuel e.kind)) _ _
      (fuel_of (nat_le s.fuel l.steps) (is_fuel e.kind) (elim (A.fuel) [ inl f ↦ inl f | inr lt ↦ inr (lt-leb s.fuel l.steps lt) ]))
      (unless_of (nat_lt e.worker s.workers) _ _ (lt-ltb e.worker s.workers A.worker) (allowed p s l e.worker e.kind A.allows))),
)
