-- A sweep is committed: the shared value after it, and the parts.
use Rattle.heap_marking.proofs.Common.{◌≡◌, ℕ, ◌-◌, ◌==◌, ◌++◌, arith, Bool, true, false, Option, Some, None, is_none, List, [], ◌∷◌, length, option_map, slice_get, slice_set, inl, inr, refl, ap, ap₂, sym, subst, ◌∙◌, option_flatten, ◌≢◌, IsSome, cases_eq, eqb-true, same_Some, ReservedVecValue, got_other, got_within, all_from, none_some, Sweep, EntryValue, Ledger, Refused, Count, Left, refused_unless, heap_of, left_in, marked_in, sweep_number, swept_heap, with_heap, entry_tells, heap_machine, ChunkValue, PoolValue, slot_at, SetOf, Content, content_at, content_of, MarkingValue, marked_of, AreGiven, gone_of, KeepsJust, CountsGo, OthersNotes, Belongings, Memory, sources, StandsForAll, sweeps_stand_for, sweeps_leave, Private, ParkedTask, keeping, or_else, Enters, refused, EachPartStillFits, WorkerPartFits, part_of, KeepsUnits, IsSharedValue, SharedValue, accounts, belongings_in, marks_at, noted_in, rest_at, tree_counts_of, value_of, ChangesRest, IsWell, changed_form, entered_world, entry_on, part_fits, rest_off, rest_then, given_keeps, part_kept, some_flat, marking_cause, CanSweep, SweepsSlot}
use Rattle.heap_marking.proofs.MarkCauses.{marks_refuse}
use Rattle.heap_marking.proofs.SweptBelongings as swept
use Rattle.heap_marking.proofs.SweptStart as start
use Rattle.heap_marking.proofs.SweptUnits.{sweep_is}
use Rattle.heap_marking.proofs.HeapAsked.{AsksMarked, heap_names}

-- WHAT FOLLOWS FROM THE ENTRY
pub record SweepTells (w : SharedValue) (t given : ℕ) : Type 0 where
  pub cause : marking_cause w t ≡ None
  pub none_left : left_in (heap_of (accounts w) t) ≡ 0
  pub number : given ≡ sweep_number (accounts w).machine (heap_of (accounts w) t)

pub sweep_tells : (w : SharedValue) (k t given : ℕ) → IsSharedValue w → refused w (record { worker = k; kind = Sweep t given }) ≡ None → SweepTells w t given
sweep_tells w k t given I free =
    let e : EntryValue = record { worker = k; kind = Sweep t given } in
    let on = entry_on w e free in
    let told = ap is_none (sym ((marks_refuse w k t I on).sweep given)) ∙ (entry_tells w.program w.settings (accounts w) e (ap is_none free)).2 in
    sweep_tells_by_cases (marking_cause w t) refl (left_in (heap_of (accounts w) t) == 0) refl (given == sweep_number (accounts w).machine (heap_of (accounts w) t)) refl (Left (marked_in (heap_of (accounts w) t))) (Count given (sweep_number (accounts w).machine (heap_of (accounts w) t))) told
  where
    sweep_tells_by_cases : (c : Option Refused) → marking_cause w t ≡ c → (b : Bool) → (left_in (heap_of (accounts w) t) == 0) ≡ b → (d : Bool) → (given == sweep_number (accounts w).machine (heap_of (accounts w) t)) ≡ d
        → (x y : Refused) → is_none (or_else c (refused_unless b x (refused_unless d y None))) ≡ true → SweepTells w t given
    sweep_tells_by_cases (Some c) ec b eb d ed x y h = absurd cc
    sweep_tells_by_cases None ec false eb d ed x y h = absurd cc
    sweep_tells_by_cases None ec true eb false ed x y h = absurd cc
    sweep_tells_by_cases None ec true eb true ed x y h = record { cause = ec; none_left = eqb-true (left_in (heap_of (accounts w) t)) 0 eb; number = eqb-true given (sweep_number (accounts w).machine (heap_of (accounts w) t)) ed }

-- WHAT IS NOTED
noted_by : (o o' : Option SetOf) → option_map content_of o' ≡ option_map (keeping false) (option_map content_of o) → ((noted_in o').sources ≡ (noted_in o).sources) × ((noted_in o').keeps ≡ false)
noted_by None None e = (refl, refl)
noted_by None (Some s) e = absurd cc
noted_by (Some s) None e = absurd cc
noted_by (Some s) (Some s') e =
    let same : content_of s' ≡ keeping false (content_of s) = same_Some (content_of s') (keeping false (content_of s)) e in (
      ap (λ (c : Content). c.sources) same,
      ap (λ (c : Content). c.keeps) same,
    )

is_there : {A : Type 0} (o : Option A) (x : A) → o ≡ Some x → IsSome o
is_there (Some y) x q = refl
is_there None x q = absurd cc

module _ (w : SharedValue) (k t given : ℕ) (I : IsSharedValue w) (free : refused w (record { worker = k; kind = Sweep t given }) ≡ None) where
  abbrev e : EntryValue
  e = record { worker = k; kind = Sweep t given }

  pub on : (accounts w).end ≡ None
  on = entry_on w e free

  pub T : SweepTells w t given
  T = sweep_tells w k t given I free

  open (heap_names w t) use {l, v}

  -- the heap is being marked
  abbrev asked : AsksMarked w t
  asked = record { I = I; on = on; free = T.cause }

  abbrev L : Ledger
  L = with_heap l t swept_heap

  abbrev pub r : ParkedTask
  r = (start.Z asked).rest

  abbrev pub m : MarkingValue
  m = (start.Z asked).marks

  pub rest_is_there : rest_at w.rests t ≡ Some r
  rest_is_there = (start.Z asked).there

  pub marked : marks_at w.marks t ≡ Some m
  marked = (start.Z asked).at

  -- it can be swept
  pub can : CanSweep r.heap m w.pool
  can = record {
    done = start.done asked T.none_left;
    room = (start.Z asked).further.own.room;
    in_use = all_from (λ (c : ChunkValue). IsSome (slot_at w.pool c.number)) r.heap.chunks (λ c i. is_there (slot_at w.pool c.number) _ (swept.measured_was asked T.none_left c i));
  }

  pub has_slot : IsSome (rest_at w.rests t)
  has_slot = is_there (rest_at w.rests t) r rest_is_there

  pub has_marking : IsSome (marks_at w.marks t)
  has_marking = is_there (marks_at w.marks t) m marked

  pub can_all : (x : ParkedTask) (y : MarkingValue) → rest_at w.rests t ≡ Some x → marks_at w.marks t ≡ Some y → CanSweep x.heap y w.pool
  can_all x y is at = subst (λ (z : ParkedTask). CanSweep z.heap y w.pool) (same_Some r x (sym rest_is_there ∙ is)) (subst (λ (z : MarkingValue). CanSweep r.heap z w.pool) (same_Some m y (sym marked ∙ at)) can)

  module _ (pool : PoolValue) (G : AreGiven w.pool pool (gone_of r.heap (marked_of m))) (slots spare : ℕ) (sets : List SetOf) (many : length sets ≡ length w.sets) (kept_none : content_at sets t ≡ option_map (keeping false) (content_at w.sets t))
      (others : (u : ℕ) → u ≢ t → slice_get sets u ≡ slice_get w.sets u) (room : ℕ) where
    abbrev rest' : ParkedTask
    rest' = swept.rest' asked T.none_left pool G slots spare

    abbrev pub rests : List (Option ParkedTask)
    rests = slice_set w.rests t (Some rest')

    abbrev pub marks : List (Option MarkingValue)
    marks = slice_set w.marks t None

    abbrev pub w' : SharedValue
    w' = record w { pool = pool; rests = rests; sets = sets; marks = marks; journal = record { items = w.journal.items ++ e ∷ []; room = room } }

    enters : Enters w w' e
    enters = record { journal = refl; program = refl; settings = refl; halted = refl }

    keeps_units : (u : ℕ) → (u ≡ t → ⊥) → KeepsUnits w.pool pool u
    keeps_units u ne = given_keeps w.pool pool (gone_of r.heap (marked_of m)) t u G (swept.owned_gone asked T.none_left) ne

    changes : ChangesRest w w' t (Some rest')
    changes = record { rests = refl; there = got_within w.rests t (Some r) (some_flat (slice_get w.rests t) r rest_is_there); keeps = keeps_units; free = λ u ne y. y }

    abbrev v' : Memory
    v' = value_of w'

    noted : ((noted_in (slice_get sets t)).sources ≡ (noted_in (slice_get w.sets t)).sources) × ((noted_in (slice_get sets t)).keeps ≡ false)
    noted = noted_by (slice_get w.sets t) (slice_get sets t) kept_none

    sources_same : (u : ℕ) → sources v' u ≡ sources v u
    sources_same u = elim (cases_eq u t) [
      | inl q ↦ ap (λ z. (noted_in (slice_get sets z)).sources) q ∙ (noted.0 ∙ ap (λ z. (noted_in (slice_get w.sets z)).sources) (sym q))
      | inr ne ↦ ap (λ o. (noted_in o).sources) (others u ne)
    ]

    keeps : KeepsJust v v' l L t (heap_of l t).snapshot
    keeps = swept.keeps_just asked T.none_left pool G slots spare v' L (ap belongings_in (rest_then I changes)) refl (swept.there_by l t (length (marked_of m)) (start.M asked).0.count) (heap_machine l t swept_heap)
        (λ u ne. ap belongings_in (rest_off I changes u ne)) sources_same

    notes : OthersNotes v v' t
    notes = record {
      none = noted.1;
      others = λ u ne. record { keeps = ap (λ o. (noted_in o).keeps) (others u ne); kept = ap (λ o. (noted_in o).kept) (others u ne); marked = ap option_flatten (got_other w.marks t u None ne) };
    }

    counts : CountsGo w.program w.settings l (tree_counts_of w) (tree_counts_of w') k (Sweep t given)
    counts = (
      record { node = λ u. refl; task_out = λ u. refl; steps = refl; outputs = refl },
      (let g = G.units in let c = swept.units_go asked T.none_left in let s = sweep_is asked T.none_left in let n = T.number in omega (arith, g, c, s, n)),
      refl,
    )

    stands : StandsForAll v' (tree_counts_of w') L
    stands = sweeps_stand_for w.program w.settings w.journal.items I.form I.legal v v' (tree_counts_of w) (tree_counts_of w') k t given free I.stands keeps notes (ap (λ (h : Belongings). h.begun) (ap belongings_in (rest_then I changes)) ∙ swept.idle_belongings rest') counts

    pub swept_world : IsSharedValue w'
    swept_world =
        entered_world I free enters
        (changed_form I changes (λ x q. subst (IsWell pool t) (same_Some rest' x q) (swept.form_then asked T.none_left pool G slots spare, swept.measured_then asked T.none_left pool G slots spare)) refl many refl G.limit) stands

    -- a task that a worker holds is another one
    apart : (u : ℕ) (q : Private) → WorkerPartFits w u q → q.task ≡ t → ⊥
    apart u q F s = none_some (sym (start.rests asked) ∙ (ap (λ z. (heap_of l z).worker) (sym s) ∙ F.out))

    pub swept_fits : EachPartStillFits w w'
    swept_fits u q F =
        part_fits I free enters swept_world u q q refl F refl F.form (part_kept w.pool pool q (keeps_units q.task (apart u q F)) F.measured)
        (sweeps_leave w.program w.settings w.journal.items I.legal v v' k t given free keeps (part_of w.settings q) F.fits)

  -- AS THE CALL MAKES IT
  module _ (hs : List (Option ParkedTask)) (pool : PoolValue) (S : SweepsSlot w.rests hs w.pool pool t r m) (ms : List (Option MarkingValue)) (cleared : ms ≡ slice_set w.marks t None)
      (sets : List SetOf) (many : length sets ≡ length w.sets) (kept_none : content_at sets t ≡ option_map (keeping false) (content_at w.sets t)) (others : (u : ℕ) → u ≢ t → slice_get sets u ≡ slice_get w.sets u)
      (j : ReservedVecValue EntryValue) (made : j ≡ record { items = w.journal.items ++ e ∷ []; room = w.journal.room - 1 }) where
    abbrev pub entered_so : SharedValue
    entered_so = record w { pool = pool; rests = hs; sets = sets; marks = ms; journal = j }

    so : entered_so ≡ w' pool S.given S.slots S.spare sets many kept_none others (w.journal.room - 1)
    so =
        ap (λ x. record w { pool = pool; rests = x; sets = sets; marks = ms; journal = j }) S.rests
        ∙ ap₂ (λ x y. record w { pool = pool; rests = rests pool S.given S.slots S.spare sets many kept_none others (w.journal.room - 1); sets = sets; marks = x; journal = y }) cleared made

    pub world_so : IsSharedValue entered_so
    world_so = subst IsSharedValue (sym so) (swept_world pool S.given S.slots S.spare sets many kept_none others (w.journal.room - 1))

    pub fits_so : EachPartStillFits w entered_so
    fits_so = subst (EachPartStillFits w) (sym so) (swept_fits pool S.given S.slots S.spare sets many kept_none others (w.journal.room - 1))
