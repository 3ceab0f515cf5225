-- Where the accesses of a log come from.
use Rattle.told_race_laws.proofs.Common.{◌≡◌, ◌+◌, ◌==◌, ℕ, zero, suc, Bool, true, false, Option, Some, None, List, [], ◌∷◌, slice_get, inl, inr, refl, ap, sym, subst, ◌∙◌, arith, eq-eqb, if◌then◌else◌, nat_le, option_map, option_to_list, filter, and_parts, eqb-true, In, in_append_cases, in_append_left, in_append_right, flat_in, in_flat, got_in, in_kept, in_from_kept, told_if, told_strand, touches_told, touches_at, touches_from, access_of, touch_by, touches_of_access, touches_of_act, regions_of_events, numbered_from, touches_on, Touch, ActAccess, Region, GraphStrand, strand, Event, is_on, LogTasks, known_of, log_strand, Act}
use Rattle.told_graph_laws.specs.below.run_turn_laws as acts

-- LISTS

pub in_option : {A B : Type 0} (f : A → B) (o : Option A) (y : B) → In (option_to_list (option_map f o)) y → (x : A) × (o ≡ Some x) × (f x ≡ y)
in_option f None y i = absurd i
in_option f (Some x) y (inl e) = (x, refl, e)
in_option f (Some x) y (inr i) = absurd i

pub option_in : {A B : Type 0} (f : A → B) (o : Option A) (x : A) → o ≡ Some x → In (option_to_list (option_map f o)) (f x)
option_in f o x e = rw e (inl refl)

numbered_in : (n : ℕ) (events : List Event) (p : ℕ × Event) → In (numbered_from n events) p → In events p.1
numbered_in n [] p i = absurd i
numbered_in n (e ∷ es) p (inl same) = inl (ap (λ (q : ℕ × Event). q.1) same)
numbered_in n (e ∷ es) p (inr i) = inr (numbered_in (n + 1) es p i)

in_numbered : (n : ℕ) (events : List Event) (e : Event) → In events e → (k : ℕ) × In (numbered_from n events) (k, e)
in_numbered n [] e i = absurd i
in_numbered n (d ∷ es) e (inl same) = (n, inl (ap (λ (x : Event). (n, x)) same))
in_numbered n (d ∷ es) e (inr i) = let m = in_numbered (n + 1) es e i in (m.0, inr m.1)

on_strand : (u : GraphStrand) (e : Event) → is_on u e ≡ true → e.strand ≡ u
on_strand u e h =
    let both = and_parts (e.strand.task == u.task) (e.strand.index == u.index) h in
    λ i. strand (eqb-true e.strand.task u.task both.0 i) (eqb-true e.strand.index u.index both.1 i)

on_itself : (e : Event) → is_on e.strand e ≡ true
on_itself e = rw (eq-eqb e.strand.task e.strand.task refl, eq-eqb e.strand.index e.strand.index refl) refl

-- OF ONE STRAND

-- what an act that is no release accesses
plain : (regions : List Region) (s n : ℕ) (act : Act) → ((block : ℕ) → act ≡ acts.Release block → ⊥) → touches_of_act regions s n act ≡ touches_of_access s n act
plain regions s n (acts.Access a) h = refl
plain regions s n (acts.Yield r) h = refl
plain regions s n (acts.Store r) h = refl
plain regions s n (acts.Birth b l) h = refl
plain regions s n (acts.Release b) h = absurd (h b refl)
plain regions s n (acts.Work k) h = refl
plain regions s n (acts.Spawn c) h = refl
plain regions s n (acts.Join c) h = refl
plain regions s n acts.Finish h = refl

-- an access of the strand of serial number s, by one of the events
pub record ComesFrom (events : List Event) (s : ℕ) (u : GraphStrand) (t : Touch) : Type 0 where
  pub event : Event
  pub there : In events event
  pub on : event.strand ≡ u
  pub access : ActAccess
  pub by : access_of event.act ≡ Some access
  pub number : ℕ
  pub is : touch_by s number access ≡ t

module _ (events : List Event) (unreleased : (e : Event) → In events e → (block : ℕ) → e.act ≡ acts.Release block → ⊥) where
  touch_from : (u : GraphStrand) (s : ℕ) (t : Touch) → In (touches_on events u s) t → ComesFrom events s u t
  touch_from u s t i =
      let regions = regions_of_events events in
      let f = flat_in (λ (p : ℕ × Event). touches_of_act regions s p.0 p.1.act) (filter (λ (p : ℕ × Event). is_on u p.1) (numbered_from 0 events)) t i in
      let p = f.1 in
      let k = in_from_kept (λ (p : ℕ × Event). is_on u p.1) (numbered_from 0 events) p (got_in (filter (λ (p : ℕ × Event). is_on u p.1) (numbered_from 0 events)) f.0 p f.2) in
      let there = numbered_in 0 events p k.0 in
      let o = in_option (touch_by s p.0) (access_of p.1.act) t (subst (λ ts. In ts t) (plain regions s p.0 p.1.act (unreleased p.1 there)) f.3) in
      record { event = p.1; there = there; on = on_strand u p.1 k.1; access = o.0; by = o.1; number = p.0; is = o.2 }

  touch_in : (s : ℕ) (e : Event) (a : ActAccess) → In events e → access_of e.act ≡ Some a → (n : ℕ) × In (touches_on events e.strand s) (touch_by s n a)
  touch_in s e a there by =
      let regions = regions_of_events events in
      let m = in_numbered 0 events e there in
      let p : ℕ × Event = (m.0, e) in (
        m.0,
        in_flat (λ (p : ℕ × Event). touches_of_act regions s p.0 p.1.act) (filter (λ (p : ℕ × Event). is_on e.strand p.1) (numbered_from 0 events)) p (touch_by s m.0 a)
            (in_kept (λ (p : ℕ × Event). is_on e.strand p.1) (numbered_from 0 events) p m.1 (on_itself e))
            (subst (λ ts. In ts (touch_by s m.0 a)) (sym (plain regions s m.0 e.act (unreleased e there))) (option_in (touch_by s m.0) (access_of e.act) a by)),
      )

  -- OF ALL STRANDS

  module _ (log : LogTasks) (known : ℕ) (u : GraphStrand) (is : known_of log u.task ≡ Some known) (same : log_strand log.numbers u ≡ u) where
    told_as : (b : Bool) → nat_le u.index known ≡ b → told_strand log u ≡ (if b then Some u else None)
    told_as true le = ap (λ o. told_if o log.numbers u) is ∙ rw le (ap (λ k. Some k) same)
    told_as false le = ap (λ o. told_if o log.numbers u) is ∙ rw le refl

    at_from : (b : Bool) → nat_le u.index known ≡ b → (s : ℕ) (t : Touch) → In (touches_at events log u s) t → ComesFrom events s u t
    at_from true le s t i = touch_from u s t (subst (λ o. In (touches_told events o s) t) (told_as true le) i)
    at_from false le s t i = absurd (subst (λ o. In (touches_told events o s) t) (told_as false le) i)

    pub strand_from : (s : ℕ) (t : Touch) → In (touches_at events log u s) t → ComesFrom events s u t
    strand_from s t i = at_from (nat_le u.index known) refl s t i

    pub strand_in : nat_le u.index known ≡ true → (s : ℕ) (e : Event) (a : ActAccess) → In events e → e.strand ≡ u → access_of e.act ≡ Some a → (n : ℕ) × In (touches_at events log u s) (touch_by s n a)
    strand_in le s e a there on by =
        let m = touch_in s e a there by in
        (m.0, subst (λ o. In (touches_told events o s) (touch_by s m.0 a)) (sym (told_as true le)) (subst (λ v. In (touches_on events v s) (touch_by s m.0 a)) on m.1))

  pub all_from : (log : LogTasks) (s : ℕ) (us : List GraphStrand) (t : Touch) → In (touches_from events log s us) t → (k : ℕ) × (u : GraphStrand) × (slice_get us k ≡ Some u) × In (touches_at events log u (s + k)) t
  all_from log s [] t i = absurd i
  all_from log s (u ∷ us) t i = elim (in_append_cases (touches_at events log u s) (touches_from events log (s + 1) us) t i) [
    | inl now ↦ (0, u, refl, subst (λ k. In (touches_at events log u k) t) (let e : s ≡ s + 0 = omega arith in e) now)
    | inr later ↦
        let m = all_from log (s + 1) us t later in
        (suc m.0, m.1, m.2, subst (λ k. In (touches_at events log m.1 k) t) (let e : s + 1 + m.0 ≡ s + suc m.0 = omega arith in e) m.3)
  ]

  pub all_in : (log : LogTasks) (s : ℕ) (us : List GraphStrand) (k : ℕ) (u : GraphStrand) (t : Touch) → slice_get us k ≡ Some u → In (touches_at events log u (s + k)) t → In (touches_from events log s us) t
  all_in log s [] k u t at i = absurd cc
  all_in log s (v ∷ us) zero u t at i =
      let same : v ≡ u = cc in
      in_append_left (touches_at events log v s) (touches_from events log (s + 1) us) t (subst (λ w. In (touches_at events log w s) t) (sym same) (subst (λ k. In (touches_at events log u k) t) (let e : s + 0 ≡ s = omega arith in e) i))
  all_in log s (v ∷ us) (suc k) u t at i =
      in_append_right (touches_at events log v s) (touches_from events log (s + 1) us) t
      (all_in log (s + 1) us k u t at (subst (λ j. In (touches_at events log u j) t) (let e : s + suc k ≡ s + 1 + k = omega arith in e) i))
