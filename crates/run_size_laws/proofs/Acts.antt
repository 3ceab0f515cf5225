-- The acts of a run are small: an access has one location, and a block at most 1,000,000 words.
use Rattle.run_size_laws.proofs.Common.{◌≡◌, ◌≤◌, ◌^◌, ℕ, true, Option, Some, None, IfSome, List, [], ◌∷◌, ◌++◌, length, refl, subst, arith, inl, inr, slice_get, AllByRecursion, in_append_cases, each_in, object_at, can_step, fetched, is_running, run, start, step, MachineState, Name, Task, TaskStatus, Running, Waiting, Ended, Joined, run_push, limit_stays, sizes_are_bounded, EntryValue, GraphStrand, Line, ProgramText, count_fits, small_limit, events_told, spot_after, Event, event, Act, Deed, deed, is_legal, field_count, act_of_deed, lines_of, moved_lines, SettingsValue, field_limit, act_told, on_strand, step_act, strand_now, told_along, turn_events, legal_ready, spot, AreSmallActs, IsSmallAct}
use Rattle.run_turn_laws.specs.below.log_lines as acts
use Rattle.run_turn_laws.specs.below.run_deltas as deeds

both_small : (xs ys : List Event) → AreSmallActs xs → AreSmallActs ys → AreSmallActs (xs ++ ys)
both_small xs ys first second e i = elim (in_append_cases xs ys e i) [ inl j ↦ first e j | inr j ↦ second e j ]

none_small : AreSmallActs []
none_small e i = absurd i

one_small : (d : Event) (ds : List Event) → IsSmallAct d.act → AreSmallActs ds → AreSmallActs (d ∷ ds)
one_small d ds small rest e (inl same) = subst (λ (c : Event). IsSmallAct c.act) same small
one_small d ds small rest e (inr i) = rest e i

abbrev IsSmall : Event → Type 0
IsSmall e = IsSmallAct e.act

-- TURNS

module _ (u : GraphStrand) (made : ℕ) (m : MachineState) (t : ℕ) where
  abbrev turns : Option Task → List Event
  turns o = (spot_after (spot (Some u) []) (moved_lines made m t o)).events

  by_status : (parent : Option ℕ) (status : TaskStatus) (x : Task) → x.parent ≡ parent → x.status ≡ status → AllByRecursion IsSmall (turns (Some x))
  by_status parent Running x p s = rw s tt
  by_status parent Waiting x p s = rw s (tt, (tt, tt))
  by_status parent (Ended k n) x p s = rw s (tt, tt)
  by_status None Joined x p s = rw (s, p) (tt, tt)
  by_status (Some q) Joined x p s = rw (s, p) (tt, (tt, (tt, tt)))

  turns_each : (o : Option Task) → AllByRecursion IsSmall (turns o)
  turns_each None = tt
  turns_each (Some x) = by_status x.parent x.status x refl refl

  turns_small : (o : Option Task) → AreSmallActs (turns o)
  turns_small o e i = each_in IsSmall (turns o) e (turns_each o) i

-- STEPS

module _ (m : MachineState) (size : (n : Name) → field_count (object_at m.store n) ≤ 2 ^ 32) where
  deed_small : (line : ℕ) (d : Deed) → IfSome (act_of_deed m line d) IsSmallAct
  deed_small line (deeds.Allocates n) = size n
  deed_small line (deeds.Reads n at (deeds.Reference r)) = tt
  deed_small line (deeds.Reads n at (deeds.Number k)) = (refl, refl)
  deed_small line (deeds.Counts n) = tt
  deed_small line (deeds.Writes n at (deeds.Reference r)) = tt
  deed_small line (deeds.Writes n at (deeds.Number k)) = (refl, refl)
  deed_small line (deeds.Swaps n at r swapped) = (refl, refl)
  deed_small line (deeds.Freezes n) = tt
  deed_small line (deeds.Prints k) = tt

  told_small : (line : ℕ) (o : Option Deed) → IfSome (act_told m line o) IsSmallAct
  told_small line None = tt
  told_small line (Some d) = deed_small line d

on_small : (u : GraphStrand) (o : Option Act) → IfSome o IsSmallAct → AreSmallActs (on_strand u o)
on_small u None small = none_small
on_small u (Some a) small = one_small (event u a) [] small none_small

-- A RUN

module _ (p : ProgramText) (limit : ℕ) (small : limit ≤ 1000000) where
  abbrev Q : List ℕ → List Event → Type 0
  Q ts events = AreSmallActs events

  sizes : (ts : List ℕ) (t : ℕ) (n : Name) → field_count (object_at (step p (run p limit ts) t).store n) ≤ 2 ^ 32
  sizes ts t n =
      let m = run p limit (ts ++ t ∷ []) in
      let few = count_fits m (sizes_are_bounded p limit (ts ++ t ∷ [])) (let same = limit_stays p limit (ts ++ t ∷ []) in omega (arith, same, small)) n in
      subst (λ (q : MachineState). field_count (object_at q.store n) ≤ 2 ^ 32) (run_push p (start p limit) ts t) (omega (arith, few))

  takes : (ts : List ℕ) (t : ℕ) (x : Task) (line : Line) (events : List Event) → can_step (run p limit ts) t ≡ true → slice_get (run p limit ts).tasks t ≡ Some x → fetched p x.top ≡ Some line → Q ts events
      → Q (ts ++ t ∷ []) ((events ++ on_strand (strand_now (run p limit ts) t) (step_act p (run p limit ts) t x line)) ++ turn_events (run p limit ts) (step p (run p limit ts) t) t)
  takes ts t x line events can is at all =
      let m = run p limit ts in
      let m' = step p m t in
      both_small (events ++ on_strand (strand_now m t) (step_act p m t x line)) (turn_events m m' t)
      (both_small events (on_strand (strand_now m t) (step_act p m t x line)) all (on_small (strand_now m t) (step_act p m t x line) (told_small m' (sizes ts t) line.number (deed m t x.top line.instr))))
      (turns_small (strand_now m t) (length m.tasks) m' t (slice_get m'.tasks t))

  work : (ts : List ℕ) (t k : ℕ) (events : List Event) → is_running (slice_get (run p limit ts).tasks t) ≡ true → Q ts events → Q ts (events ++ event (strand_now (run p limit ts) t) (acts.Work k) ∷ [])
  work ts t k events running all = both_small events (event (strand_now (run p limit ts) t) (acts.Work k) ∷ []) all (one_small (event (strand_now (run p limit ts) t) (acts.Work k)) [] tt none_small)

pub run_acts_are_small : (p : ProgramText) (s : SettingsValue) (journal : List EntryValue) → is_legal p s journal ≡ true → AreSmallActs (events_told (lines_of p s journal))
run_acts_are_small p s journal legal =
    let limit = field_limit s.version in
    (told_along p limit (Q p limit (small_limit s.version)) (work p limit (small_limit s.version)) (λ ts t events none same all. all) (takes p limit (small_limit s.version)) journal none_small (legal_ready p s journal legal)).1
