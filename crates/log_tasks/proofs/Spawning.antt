-- The spawns of a log without a faulty line are in order.
use Rattle.log_tasks.proofs.Common.{◌≡◌, ◌<◌, ◌==◌, ◌++◌, ◌+◌, ◌∷◌, ◌∙◌, ◌⊎◌, inl, inr, ℕ, Bool, true, false, List, [], refl, sym, ap, ap₂, subst, Option, Some, None, arith, ◌||◌, list_any, nat_tests, list_any-append, In, any_from_in, Act, strand_limit, GraphTurn, Spawn, GraphStrand, strand, Event, event, is_on, acts_on, spawns, is_spawned, StrandEnd, Turns, end_by, first_end, end_of, tells, is_task, TurnsWithin, EventsAreWithin, SpawnsOnce}
use Rattle.log_lines.specs.declared.line.Act.TheVariants as acts
use Rattle.log_tasks.specs.Ends.{or_later}
use Rattle.log_tasks.proofs.Puts.{number_same, and_left, and_right}

-- STRANDS THAT END

pub on_same : (u : GraphStrand) (e : Event) → is_on u e ≡ true → e.strand ≡ u
on_same u e t =
    let task : e.strand.task ≡ u.task = number_same e.strand.task u.task (and_left (e.strand.task == u.task) (e.strand.index == u.index) t) in
    let index : e.strand.index ≡ u.index = number_same e.strand.index u.index (and_right (e.strand.task == u.task) (e.strand.index == u.index) t) in
    ap₂ strand task index

-- a strand that ends in a spawn has it among its acts
spawned_in : (done : List Act) (c : ℕ) → first_end done ≡ Some (Turns (Spawn c)) → In done (acts.Spawn c)
spawned_in [] c e = absurd (cc)
spawned_in (acts.Spawn d ∷ rest) c e = inl (let same : d ≡ c = cc in ap acts.Spawn same)
spawned_in (acts.Join d ∷ rest) c e = absurd (cc)
spawned_in (acts.Finish ∷ rest) c e = absurd (cc)
spawned_in (acts.Access a ∷ rest) c e = inr (spawned_in rest c e)
spawned_in (acts.Yield r ∷ rest) c e = inr (spawned_in rest c e)
spawned_in (acts.Store r ∷ rest) c e = inr (spawned_in rest c e)
spawned_in (acts.Birth b l ∷ rest) c e = inr (spawned_in rest c e)
spawned_in (acts.Release b ∷ rest) c e = inr (spawned_in rest c e)
spawned_in (acts.Work n ∷ rest) c e = inr (spawned_in rest c e)

-- an act of a strand is an event
pub in_events : (events : List Event) (u : GraphStrand) (a : Act) → In (acts_on events u) a → In events (event u a)
in_events [] u a h = absurd h
in_events (e ∷ rest) u a h = by_test (is_on u e) refl (in_events rest u a)
  where
    in_events_here : is_on u e ≡ true → (In (acts_on rest u) a → In rest (event u a)) → (e.act ≡ a) ⊎ In (acts_on rest u) a → In (e ∷ rest) (event u a)
    in_events_here t more (inl same) = inl (ap₂ event (on_same u e t) same)
    in_events_here t more (inr later) = inr (more later)

    by_test : (b : Bool) → is_on u e ≡ b → (In (acts_on rest u) a → In rest (event u a)) → In (e ∷ rest) (event u a)
    by_test true t more = in_events_here t more (rw t at h)
    by_test false t more = let later : In (acts_on rest u) a = rw t at h in inr (more later)

spawn_event : (events : List Event) (u : GraphStrand) (c : ℕ) → end_of events u ≡ Some (Turns (Spawn c)) → In events (event u (acts.Spawn c))
spawn_event events u c e = in_events events u (acts.Spawn c) (spawned_in (acts_on events u) c e)

-- WITHIN THE LIMIT

in_within : (events : List Event) (x : Event) → EventsAreWithin events → In events x → TurnsWithin x
in_within [] x w h = absurd h
in_within (e ∷ rest) x w (inl same) = subst TurnsWithin same w.0
in_within (e ∷ rest) x w (inr later) = in_within rest x w.1 later

turn_act : (done : List Act) (turn : GraphTurn) → first_end done ≡ Some (Turns turn) → (a : Act) × In done a × (end_by a ≡ Some (Turns turn))
turn_act [] turn e = absurd (cc)
turn_act (a ∷ rest) turn e = by_end (end_by a) refl (turn_act rest turn)
  where
    by_end : (o : Option StrandEnd) → end_by a ≡ o → (first_end rest ≡ Some (Turns turn) → (b : Act) × In rest b × (end_by b ≡ Some (Turns turn))) → (b : Act) × In (a ∷ rest) b × (end_by b ≡ Some (Turns turn))
    by_end None n more = let m = more (sym (ap (λ (o : Option StrandEnd). or_later o (first_end rest)) n) ∙ e) in (m.0, inr m.1, m.2)
    by_end (Some x) n more = (a, inl refl, n ∙ sym (ap (λ (o : Option StrandEnd). or_later o (first_end rest)) n) ∙ e)

-- a strand that ends in a turn has a number within the limit
pub end_within : (events : List Event) (u : GraphStrand) (turn : GraphTurn) → EventsAreWithin events → end_of events u ≡ Some (Turns turn) → u.index + 1 < strand_limit
end_within events u turn w e =
    let r = turn_act (acts_on events u) turn e in
    in_within events (event u r.0) w (in_events events u r.0 r.1) turn r.2

-- SPAWNED ONCE

pub same_number : (c : ℕ) → (c == c) ≡ true
same_number c = grind (arith, nat_tests)

or_left : (a b : Bool) → (a || b) ≡ false → a ≡ false
or_left true b e = e
or_left false b e = refl

or_right : (a b : Bool) → (a || b) ≡ false → b ≡ false
or_right true b e = absurd (cc)
or_right false b e = e

or_both : (a b : Bool) → a ≡ false → b ≡ false → (a || b) ≡ false
or_both a b e f = rw (e, f) refl

spawned_more : (before : List Event) (e : Event) (c : ℕ) → is_spawned (before ++ e ∷ []) c ≡ ((c == 0) || (list_any (λ (x : Event). spawns c x.act) before || (spawns c e.act || false)))
spawned_more before e c = ap (λ (b : Bool). (c == 0) || b) (list_any-append (λ (x : Event). spawns c x.act) before (e ∷ []))

unspawned_before : (before : List Event) (e : Event) (c : ℕ) → is_spawned (before ++ e ∷ []) c ≡ false → is_spawned before c ≡ false
unspawned_before before e c h =
    let all : ((c == 0) || (list_any (λ (x : Event). spawns c x.act) before || (spawns c e.act || false))) ≡ false = sym (spawned_more before e c) ∙ h in
    let later = or_right (c == 0) (list_any (λ (x : Event). spawns c x.act) before || (spawns c e.act || false)) all in
    or_both (c == 0) (list_any (λ (x : Event). spawns c x.act) before) (or_left (c == 0) (list_any (λ (x : Event). spawns c x.act) before || (spawns c e.act || false)) all)
    (or_left (list_any (λ (x : Event). spawns c x.act) before) (spawns c e.act || false) later)

unspawned_at : (before : List Event) (e : Event) (c : ℕ) → is_spawned (before ++ e ∷ []) c ≡ false → spawns c e.act ≡ false
unspawned_at before e c h =
    let all : ((c == 0) || (list_any (λ (x : Event). spawns c x.act) before || (spawns c e.act || false))) ≡ false = sym (spawned_more before e c) ∙ h in
    let later = or_right (c == 0) (list_any (λ (x : Event). spawns c x.act) before || (spawns c e.act || false)) all in
    or_left (spawns c e.act) false (or_right (list_any (λ (x : Event). spawns c x.act) before) (spawns c e.act || false) later)

new_at : (before events : List Event) (u : GraphStrand) (c : ℕ) → SpawnsOnce before events → In events (event u (acts.Spawn c)) → is_spawned before c ≡ false
new_at before [] u c o h = absurd h
new_at before (e ∷ rest) u c o (inl same) = o.0 c (subst (λ (x : Event). spawns c x.act ≡ true) (sym same) (same_number c))
new_at before (e ∷ rest) u c o (inr later) = unspawned_before before e c (new_at (before ++ e ∷ []) rest u c o.1 later)

-- no task is spawned here and later again
spawned_apart : (before rest : List Event) (e : Event) (u v : GraphStrand) (c : ℕ) → e ≡ event u (acts.Spawn c) → SpawnsOnce (before ++ e ∷ []) rest → In rest (event v (acts.Spawn c)) → ⊥
spawned_apart before rest e u v c same o later =
    let no : spawns c e.act ≡ false = unspawned_at before e c (new_at (before ++ e ∷ []) rest v c o later) in
    let yes : spawns c e.act ≡ true = subst (λ (x : Event). spawns c x.act ≡ true) (sym same) (same_number c) in
    let z : true ≡ false = sym yes ∙ no in cc

one_spawner : (before events : List Event) (u v : GraphStrand) (c : ℕ) → SpawnsOnce before events → In events (event u (acts.Spawn c)) → In events (event v (acts.Spawn c)) → u ≡ v
one_spawner before [] u v c o h k = absurd h
one_spawner before (e ∷ rest) u v c o (inl same) (inl other) = let both : event u (acts.Spawn c) ≡ event v (acts.Spawn c) = sym same ∙ other in ap (λ (x : Event). x.strand) both
one_spawner before (e ∷ rest) u v c o (inl same) (inr later) = absurd (spawned_apart before rest e u v c same o.1 later)
one_spawner before (e ∷ rest) u v c o (inr later) (inl same) = absurd (spawned_apart before rest e v u c same o.1 later)
one_spawner before (e ∷ rest) u v c o (inr first) (inr second) = one_spawner (before ++ e ∷ []) rest u v c o.1 first second

-- a task is spawned by one strand
pub spawned_once : (events : List Event) (u v : GraphStrand) (c : ℕ) → SpawnsOnce [] events → end_of events u ≡ Some (Turns (Spawn c)) → end_of events v ≡ Some (Turns (Spawn c)) → u ≡ v
spawned_once events u v c o e f = one_spawner [] events u v c o (spawn_event events u c e) (spawn_event events v c f)

-- the root isn't
pub not_root : (events : List Event) (u : GraphStrand) (c : ℕ) → SpawnsOnce [] events → end_of events u ≡ Some (Turns (Spawn c)) → c ≡ 0 → ⊥
not_root events u c o e z =
    let no : (c == 0) ≡ false = or_left (c == 0) false (new_at [] events u c o (spawn_event events u c e)) in
    let yes : (c == 0) ≡ true = grind (arith, nat_tests, z) in
    let f : true ≡ false = sym yes ∙ no in cc

-- and it is a task
spawned_told : (events : List Event) (x : Event) (c : ℕ) → In events x → tells c x ≡ true → list_any (tells c) events ≡ true
spawned_told events x c h t = any_from_in (tells c) events x h t

or_true : (a b : Bool) → b ≡ true → (a || b) ≡ true
or_true true b e = refl
or_true false b e = e

pub spawned_is_task : (events : List Event) (u : GraphStrand) (c : ℕ) → end_of events u ≡ Some (Turns (Spawn c)) → is_task events c ≡ true
spawned_is_task events u c e =
    or_true (c == 0) (list_any (tells c) events)
    (spawned_told events (event u (acts.Spawn c)) c (spawn_event events u c e) (or_true (u.task == c) (c == c) (same_number c)))
