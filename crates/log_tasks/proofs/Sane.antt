-- What holds of the events of a log without a faulty line.
use Rattle.log_tasks.proofs.Common.{◌≡◌, ◌<◌, ◌+◌, ◌++◌, ◌∷◌, ℕ, Bool, true, false, List, [], refl, sym, subst, Some, None, arith, append_assoc, append-nil, nat_lt, if◌then◌else◌, nat_tests, Act, strand_limit, GraphStrand, Event, event, events_of, spawns, is_spawned, turn_fault, claim_fault, log_fault, TurnsWithin, EventsAreWithin, SpawnsOnce, AreSane}
use Rattle.log_lines.specs.declared.cause.LogCause.TheVariants as causes
use Rattle.log_lines.specs.declared.line.Act.TheVariants as acts
use Rattle.log_form.specs.declared.fault.LogFault.TheVariants as faults
use Rattle.log_tasks.proofs.Accepted.{no_some, not_true, kept_log}

-- NUMBERS

small_by : (u : GraphStrand) (b : Bool) → nat_lt (u.index + 1) strand_limit ≡ b → (if b then None else Some (faults.NoLine causes.OverLimit)) ≡ None → u.index + 1 < strand_limit
small_by u true t e = grind (arith, nat_tests, t)
small_by u false t e = absurd (no_some _ e)

next_small : (u : GraphStrand) → turn_fault u ≡ None → u.index + 1 < strand_limit
next_small u e = small_by u (nat_lt (u.index + 1) strand_limit) refl e

-- ONE EVENT MORE

pub within_more : (events : List Event) (e : Event) → EventsAreWithin events → TurnsWithin e → EventsAreWithin (events ++ e ∷ [])
within_more [] e h lt = (lt, tt)
within_more (x ∷ xs) e h lt = (h.0, within_more xs e h.1 lt)

once_more : (before events : List Event) (e : Event) → SpawnsOnce before events → ((c : ℕ) → spawns c e.act ≡ true → is_spawned (before ++ events) c ≡ false) → SpawnsOnce before (events ++ e ∷ [])
once_more before [] e h new = (subst (λ (es : List Event). (c : ℕ) → spawns c e.act ≡ true → is_spawned es c ≡ false) (append-nil before) new, tt)
once_more before (x ∷ xs) e h new =
    (h.0, once_more (before ++ x ∷ []) xs e h.1 (subst (λ (es : List Event). (c : ℕ) → spawns c e.act ≡ true → is_spawned es c ≡ false) (sym (append_assoc before (x ∷ []) xs)) new))

-- only a spawn spawns, and one that may be
new_child : (before : List Event) (u : GraphStrand) (act : Act) (c : ℕ) → claim_fault before u act ≡ None → spawns c act ≡ true → is_spawned before c ≡ false
new_child before u (acts.Spawn d) c e s =
    let same : d ≡ c = grind (arith, nat_tests, s) in
    subst (λ (n : ℕ). is_spawned before n ≡ false) same (not_true (is_spawned before d) faults.SpawnedTwice (turn_fault u) e).0
new_child before u (acts.Access a) c e s = absurd (cc)
new_child before u (acts.Yield r) c e s = absurd (cc)
new_child before u (acts.Store r) c e s = absurd (cc)
new_child before u (acts.Birth b l) c e s = absurd (cc)
new_child before u (acts.Release b) c e s = absurd (cc)
new_child before u (acts.Work n) c e s = absurd (cc)
new_child before u (acts.Join d) c e s = absurd (cc)
new_child before u acts.Finish c e s = absurd (cc)

-- a turn is within the limit
turns_within : (before : List Event) (u : GraphStrand) (act : Act) → claim_fault before u act ≡ None → TurnsWithin (event u act)
turns_within before u (acts.Spawn d) e turn h = next_small u (not_true (is_spawned before d) faults.SpawnedTwice (turn_fault u) e).1
turns_within before u (acts.Join d) e turn h = next_small u e
turns_within before u (acts.Access a) e turn h = absurd (cc)
turns_within before u (acts.Yield r) e turn h = absurd (cc)
turns_within before u (acts.Store r) e turn h = absurd (cc)
turns_within before u (acts.Birth b l) e turn h = absurd (cc)
turns_within before u (acts.Release b) e turn h = absurd (cc)
turns_within before u (acts.Work n) e turn h = absurd (cc)
turns_within before u acts.Finish e turn h = absurd (cc)

pub sane_log : (texts : List (List ℕ)) → log_fault texts ≡ None → AreSane (events_of texts)
sane_log texts e =
    kept_log AreSane
    (λ before u act claim s. record {
      within = within_more before (event u act) s.within (turns_within before u act claim);
      once = once_more [] before (event u act) s.once (λ c t. new_child before u act c claim t);
    })
    texts e (record { within = tt; once = tt })
