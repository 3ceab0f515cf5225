-- All that is found.
use Rattle.log_births.proofs.Common.{◌≡◌, ◌≢◌, ◌↔◌, ◌<◌, ◌+◌, ◌∙◌, ℕ, List, [], length, sym, ap, subst, Option, Some, None, slice_get, arith, IfSome, length-map, same_Some, slice_get_within, get_or_from_slice_get, got_some, GraphTurn, GraphStrand, Extent, tasks_in, strand, StrandPrecedes, strand_at, WalkValue, IsWalked, LogPiece, LogTasks, IsLog, IsPlaceOf, ArePiecePlaces, Act, Event, event, events_of, log_fault, LineAt, Lifetimes, Finding, Findings, born, released, yielded, used, DoesToBlock, IsEntangled, IsEntangledRead, IsEntangledUse, IsStaleUse, AreJust, AreFindings, line_told, IsLineOf, KnowAll, AreBothWithin, PrecedesAt, IsEarly, IsLate, AreAdded, IsScene, AreJustBelow, AreFoundBelow}
use Rattle.log_births.proofs.Accepted.{one_birth, one_release}
use Rattle.log_births.proofs.Adding.{none_found}
use Rattle.log_births.proofs.Answering.{serial, not_seen, added, IsSo}

-- ONE ACT MORE

module _ (tasks : LogTasks) (events : List Event) (walk : WalkValue) (known : Lifetimes) (scene : IsScene tasks events walk known) where
  module _ (p q : ℕ) (u v : GraphStrand) (at_p : slice_get walk.order p ≡ Some u) (at_q : slice_get walk.order q ≡ Some v) where
    at_strands : PrecedesAt walk p q ≡ StrandPrecedes (tasks_in tasks.turns) u v
    at_strands =
        ap (λ (rows : List (List GraphTurn)). StrandPrecedes (tasks_in rows) (strand_at walk.order p) (strand_at walk.order q)) scene.turns
        ∙ ap (λ (x : GraphStrand). StrandPrecedes (tasks_in tasks.turns) x (strand_at walk.order q)) (get_or_from_slice_get walk.order p u (strand 0 0) at_p)
        ∙ ap (λ (x : GraphStrand). StrandPrecedes (tasks_in tasks.turns) u x) (get_or_from_slice_get walk.order q v (strand 0 0) at_q)

    pub precedes_by_position : PrecedesAt walk p q → StrandPrecedes (tasks_in tasks.turns) u v
    precedes_by_position h = subst (λ (X : Type 0). X) at_strands h

    pub back : StrandPrecedes (tasks_in tasks.turns) u v → PrecedesAt walk p q
    back h = subst (λ (X : Type 0). X) (sym at_strands) h

    early : IsEarly walk p q ↔ (StrandPrecedes (tasks_in tasks.turns) u v → ⊥)
    early = (λ h e. h (back e), λ h e. h (precedes_by_position e))

    late : IsLate walk p q ↔ ((u ≢ v) × StrandPrecedes (tasks_in tasks.turns) u v)
    late = (
      λ h. ((λ e. h.0 ((serial tasks events walk known scene).once p q v (at_p ∙ ap (λ (x : GraphStrand). Some x) e) at_q)), precedes_by_position h.1),
      λ h. ((λ e. h.0 (same_Some u v (sym at_p ∙ ap (slice_get walk.order) e ∙ at_q))), back h.1),
    )

  module _ (n : ℕ) (s : GraphStrand) (a : Act) (at : slice_get events n ≡ Some (event s a)) where
    found_by : (place : Option ℕ) → IsPlaceOf tasks walk.order s place → (before after : Findings) → AreAdded walk known a place n before after
        → AreFoundBelow events tasks n before → AreFoundBelow events tasks (n + 1) after
    found_by None nowhere before after h found = subst (AreFoundBelow events tasks (n + 1)) (sym h) (record {
      reads = none_found (IsEntangledRead events tasks) n before.reads found.reads (λ f line is. not_seen tasks events walk known scene n s a at yielded nowhere f.block is.strand (subst (λ (k : ℕ). DoesToBlock yielded events tasks f.block k is.strand) line is.seen_here));
      uses = none_found (IsEntangledUse events tasks) n before.uses found.uses (λ f line is. not_seen tasks events walk known scene n s a at used nowhere f.block is.strand (subst (λ (k : ℕ). DoesToBlock used events tasks f.block k is.strand) line is.seen_here));
      stale = none_found (IsStaleUse events tasks) n before.stale found.stale (λ f line is. not_seen tasks events walk known scene n s a at used nowhere f.block is.strand (subst (λ (k : ℕ). DoesToBlock used events tasks f.block k is.strand) line is.used_here));
    })
    found_by (Some place) stands before after h found = record {
      reads =
          added tasks events walk known scene n s a at yielded place stands born known.births scene.all.births scene.born_once (IsEarly walk) (λ u v. StrandPrecedes (tasks_in tasks.turns) u v → ⊥) early
          (IsEntangledRead events tasks) (λ f. as_early yielded f) before.reads after.reads h.reads found.reads;
      uses =
          added tasks events walk known scene n s a at used place stands born known.births scene.all.births scene.born_once (IsEarly walk) (λ u v. StrandPrecedes (tasks_in tasks.turns) u v → ⊥) early
          (IsEntangledUse events tasks) (λ f. as_early used f) before.uses after.uses h.uses found.uses;
      stale =
          added tasks events walk known scene n s a at used place stands released known.releases scene.all.releases scene.released_once (IsLate walk) (λ u v. (u ≢ v) × StrandPrecedes (tasks_in tasks.turns) u v) late
          (IsStaleUse events tasks) (λ f. as_late f) before.stale after.stale h.stale found.stale;
    }
      where
        as_early : (sees : Act → Option ℕ) (f : Finding)
            → IsEntangled sees events tasks f ↔ IsSo tasks events walk known scene n s a at sees place stands born known.births scene.all.births scene.born_once (IsEarly walk) (λ u v. StrandPrecedes (tasks_in tasks.turns) u v → ⊥) early f
        as_early sees f = (
          λ is. record { first = is.birth; second = is.strand; done = is.born_there; seen = is.seen_here; bad = is.not_before },
          λ so. record { birth = so.first; strand = so.second; born_there = so.done; seen_here = so.seen; not_before = so.bad },
        )

        as_late : (f : Finding)
            → IsStaleUse events tasks f ↔ IsSo tasks events walk known scene n s a at used place stands released known.releases scene.all.releases scene.released_once (IsLate walk) (λ u v. (u ≢ v) × StrandPrecedes (tasks_in tasks.turns) u v) late f
        as_late f = (
          λ is. record { first = is.release; second = is.strand; done = is.released_there; seen = is.used_here; bad = (is.apart, is.before) },
          λ so. record { release = so.first; strand = so.second; released_there = so.done; used_here = so.seen; before = so.bad.1; apart = so.bad.0 },
        )

    pub found_more : (place : Option ℕ) → IsPlaceOf tasks walk.order s place → (before after : Findings) → AreAdded walk known a place n before after
        → AreFoundBelow events tasks n before → AreFoundBelow events tasks (n + 1) after
    found_more = found_by

-- THE SCENE

-- acts that are known are of strands of the order
within_by : (does : Act → Option ℕ) (tasks : LogTasks) (walk : WalkValue) (events : List Event) (n b : ℕ) (o : Option LineAt) → IsLineOf does tasks walk.order events n b o → (at : LineAt) → o ≡ Some at → at.place < length walk.order
within_by does tasks walk events n b None h at e = absurd (let z : None ≡ Some at = e in cc)
within_by does tasks walk events n b (Some line) h at e =
    subst (λ (x : LineAt). x.place < length walk.order) (same_Some line at e) (slice_get_within walk.order line.place h.stands.strand h.stands.at)

pub are_within : (tasks : LogTasks) (walk : WalkValue) (events : List Event) (n : ℕ) (known : Lifetimes) → KnowAll tasks walk.order events n known → AreBothWithin walk known
are_within tasks walk events n known all = record {
  births = λ b at e. within_by born tasks walk events n b (line_told known.births b) (all.births b) at e;
  releases = λ b at e. within_by released tasks walk events n b (line_told known.releases b) (all.releases b) at e;
}

place_by : (tasks : LogTasks) (order : List GraphStrand) (s : GraphStrand) (place : Option ℕ) → IsPlaceOf tasks order s place → IfSome place (λ p. p < length order)
place_by tasks order s None h = tt
place_by tasks order s (Some p) h = slice_get_within order p h.strand h.at

-- the places of pieces are within the order
pub places_within : (tasks : LogTasks) (order : List GraphStrand) (pieces : List LogPiece) (places : List (Option ℕ)) → ArePiecePlaces tasks order pieces places → (k p : ℕ) → slice_get places k ≡ Some (Some p) → p < length order
places_within tasks order pieces places are k p e =
    let lt = slice_get_within places k (Some p) e in
    let piece = got_some pieces k (let count = are.count in omega (arith, lt, count)) in
    place_by tasks order piece.0.strand (Some p) (are.each k piece.0 (Some p) piece.1 e)

pub scene_is : (texts : List (List ℕ)) (tasks : LogTasks) (walk : WalkValue) (known : Lifetimes) → log_fault texts ≡ None → (extent : Extent) → IsLog (events_of texts) extent tasks → IsWalked walk → walk.tasks ≡ tasks.turns
    → KnowAll tasks walk.order (events_of texts) (length (events_of texts)) known → IsScene tasks (events_of texts) walk known
scene_is texts tasks walk known whole extent log walked turns all = record {
  walked = walked;
  turns = turns;
  ascending = log.numbers_are.ascending;
  size = ap length log.known_are ∙ length-map log.rows length ∙ log.rows_are.count;
  born_once = one_birth texts whole;
  released_once = one_release texts whole;
  all = all;
}

-- FROM NOTHING TO ALL

none_just : (Is : Finding → Type 0) → AreJustBelow Is 0 []
none_just Is = record {
  ascending = λ k lt. absurd (omega (arith, lt));
  are = λ f. (λ i. absurd i, λ h. absurd (let lt = h.0 in omega (arith, lt)));
}

pub nothing_found : (events : List Event) (tasks : LogTasks) → AreFoundBelow events tasks 0 (record { reads = []; uses = []; stale = [] })
nothing_found events tasks = record { reads = none_just (IsEntangledRead events tasks); uses = none_just (IsEntangledUse events tasks); stale = none_just (IsStaleUse events tasks) }

all_just : (Is : Finding → Type 0) (n : ℕ) (found : List Finding) → ((f : Finding) → Is f → f.line < n) → AreJustBelow Is n found → AreJust Is found
all_just Is n found below just = record { ascending = just.ascending; are = λ f. (λ i. ((just.are f).0 i).1, λ is. (just.are f).1 (below f is, is)) }

pub all_found : (events : List Event) (tasks : LogTasks) (found : Findings) → AreFoundBelow events tasks (length events) found → AreFindings events tasks found
all_found events tasks found h = record {
  reads = all_just (IsEntangledRead events tasks) (length events) found.reads (λ f is. slice_get_within events f.line _ is.seen_here.at) h.reads;
  uses = all_just (IsEntangledUse events tasks) (length events) found.uses (λ f is. slice_get_within events f.line _ is.seen_here.at) h.uses;
  stale = all_just (IsStaleUse events tasks) (length events) found.stale (λ f is. slice_get_within events f.line _ is.used_here.at) h.stale;
}
