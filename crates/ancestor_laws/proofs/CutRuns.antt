-- What a run that was cut off says of the whole one.
use Rattle.ancestor_laws.proofs.Common.{◌≡◌, ℕ, zero, suc, ◌<◌, ◌≤◌, List, [], ◌∷◌, length, take, inl, inr, sym, subst, arith, Some, slice_get, slice_get_within, none_some, GraphTurn, Spawn, Join, GraphStrand, TaskTurns, HasStrand, Does, IsParent, IsAncestor, IsForkJoin, IsNested, with_joins, IsCut, completed_front, completed_cases, completed_spawn, completed_are_nested, IsExit, IsEntryStrand, IsKept, CutRunsSpeakTruly}
use Rattle.ancestor_laws.proofs.Trees.{IsLine, same_ancestor, below, up_cases, one_parent, no_root_parent, rooted_above}
use Rattle.ancestor_laws.proofs.Walks.{IsRooted, attached_rooted, rooted_attached}
use Rattle.ancestor_laws.proofs.Meetings.{Meets, walks_meet, meeting_walk}

-- the first part of a list
front_got : {A : Type 0} (n i : ℕ) (xs : List A) (x : A) → slice_get (take n xs) i ≡ Some x → slice_get xs i ≡ Some x
front_got zero i xs x h = none_some h
front_got (suc n) i [] x h = none_some h
front_got (suc n) zero (y ∷ xs) x h = h
front_got (suc n) (suc i) (y ∷ xs) x h = front_got n i xs x h

got_front_of : {A : Type 0} (n i : ℕ) (xs : List A) (x : A) → slice_get xs i ≡ Some x → i < length (take n xs) → slice_get (take n xs) i ≡ Some x
got_front_of zero i xs x h lt = absurd (omega arith)
got_front_of (suc n) i [] x h lt = absurd (omega arith)
got_front_of (suc n) zero (y ∷ xs) x h lt = h
got_front_of (suc n) (suc i) (y ∷ xs) x h lt = got_front_of n i xs x h (omega arith)

module _ (cut whole : TaskTurns) (part : IsCut cut whole) where
  pub cut_does : (t i : ℕ) (turn : GraphTurn) → Does cut t i turn → Does whole t i turn
  cut_does t i turn h =
      let p = part t in
      front_got p.0 i (whole t) turn (subst (λ turns. slice_get turns i ≡ Some turn) p.1 h)

  pub kept_does : (t i : ℕ) (turn : GraphTurn) → Does whole t i turn → i < length (cut t) → Does cut t i turn
  kept_does t i turn h lt =
      let p = part t in
      subst (λ turns. slice_get turns i ≡ Some turn) (sym p.1)
      (got_front_of p.0 i (whole t) turn h (subst (λ turns. i < length turns) p.1 lt))

  cut_own : IsForkJoin whole → (c t j : ℕ) → Does cut t j (Join c) → (i : ℕ) × (i < j) × Does cut t i (Spawn c)
  cut_own fj c t j h =
      let s = fj.joins_own c t j (cut_does t j (Join c) h) in
      let lt : j < length (cut t) = slice_get_within (cut t) j (Join c) h in
      let before : s.0 < j = s.1 in
      (s.0, before, kept_does t s.0 (Spawn c) s.2 (omega arith))

  pub cut_fork_join : IsForkJoin whole → IsForkJoin cut
  cut_fork_join fj = record {
    root = λ t i h. fj.root t i (cut_does t i (Spawn 0) h);
    spawned_once = λ c t i t' i' h h'. fj.spawned_once c t i t' i' (cut_does t i (Spawn c) h) (cut_does t' i' (Spawn c) h');
    joins_own = cut_own fj;
    joined_once = λ c t j j' h h'. fj.joined_once c t j j' (cut_does t j (Join c) h) (cut_does t j' (Join c) h');
  }

  spawn_up : (t i c : ℕ) → Does (with_joins cut) t i (Spawn c) → Does whole t i (Spawn c)
  spawn_up t i c h = cut_does t i (Spawn c) (completed_spawn (cut t) i c h)

  parent_up : (p c : ℕ) → IsParent (with_joins cut) p c → IsParent whole p c
  parent_up p c e = (e.0, spawn_up p e.0 c e.1)

  line_up : (a k t : ℕ) → IsLine (with_joins cut) a k t → IsAncestor whole a t
  line_up a zero t e = same_ancestor whole a t e
  line_up a (suc k) t w = below whole a w.0 t (line_up a k w.0 w.1) (parent_up w.0 t w.2)

  above_up : (a t : ℕ) → IsAncestor (with_joins cut) a t → IsAncestor whole a t
  above_up a t w = line_up a w.0 t w.1

  module _ (fj : IsForkJoin whole) where
    line_down : (k t a : ℕ) → IsLine (with_joins cut) 0 k t → IsAncestor whole a t → IsAncestor (with_joins cut) a t
    line_down zero t a root w =
        elim (up_cases whole a t w) [
          | inl same ↦ same_ancestor (with_joins cut) a t same
          | inr (p, more, e) ↦ no_root_parent whole fj p (subst (IsParent whole p) root e)
        ]
    line_down (suc k) t a root w =
        elim (up_cases whole a t w) [
          | inl same ↦ same_ancestor (with_joins cut) a t same
          | inr (p, more, e) ↦
              let one : p ≡ root.0 = one_parent whole fj p root.0 t e (parent_up root.0 t root.2) in
              below (with_joins cut) a root.0 t (line_down k root.0 a root.1 (subst (IsAncestor whole a) one more)) root.2
        ]

    above_down : (a t : ℕ) → IsAncestor (with_joins cut) 0 t → IsAncestor whole a t → IsAncestor (with_joins cut) a t
    above_down a t root w = line_down root.0 t a root.1 w

    -- the spawn of a task that the cut run leads to was kept
    spawn_down : (q j c t : ℕ) → IsAncestor (with_joins cut) 0 t → IsAncestor whole c t → Does whole q j (Spawn c) → Does (with_joins cut) q j (Spawn c)
    spawn_down q j c t root w sp =
        let fj' = (completed_are_nested cut (cut_fork_join fj)).fork_join in
        elim (up_cases (with_joins cut) 0 c (rooted_above (with_joins cut) fj' c t root (above_down c t root w))) [
          | inl same ↦ absurd (fj.root q j (subst (λ x. Does whole q j (Spawn x)) same sp))
          | inr (p, more, e) ↦
              let one = fj.spawned_once c p e.0 q j (spawn_up p e.0 c e.1) sp in
              subst (λ k. Does (with_joins cut) q k (Spawn c)) one.1 (subst (λ x. Does (with_joins cut) x e.0 (Spawn c)) one.0 e.1)
        ]

    exit_up : (q i : ℕ) (u : GraphStrand) → i ≤ length (cut q) → IsExit (with_joins cut) q u i → IsExit whole q u i
    exit_up q i u le (inl own) = inl own
    exit_up q i u le (inr (c, j, anc, jn, e)) =
        elim (completed_cases (cut q) j (Join c) jn) [
          | inl kept ↦ inr (c, j, above_up c u.task anc, cut_does q j (Join c) kept, e)
          | inr (d, same, ge, at) ↦ absurd (omega arith)
        ]

    entry_up : (q j : ℕ) (v : GraphStrand) → IsEntryStrand (with_joins cut) q v j → IsEntryStrand whole q v j
    entry_up q j v (inl own) = inl own
    entry_up q j v (inr (c, anc, sp)) = inr (c, above_up c v.task anc, spawn_up q j c sp)

    entry_kept : (q j : ℕ) (v : GraphStrand) → HasStrand cut v → IsEntryStrand (with_joins cut) q v j → j ≤ length (cut q)
    entry_kept q j v st (inl (et, ei)) = subst (λ k. k ≤ length (cut q)) ei (subst (λ t. v.index ≤ length (cut t)) et st)
    entry_kept q j v st (inr (c, anc, sp)) =
        let lt : j < length (cut q) = slice_get_within (cut q) j (Spawn c) (completed_spawn (cut q) j c sp) in omega arith

    exit_down : (q i : ℕ) (u : GraphStrand) → IsAncestor (with_joins cut) 0 u.task → i ≤ length (cut q) → IsExit whole q u i → IsExit (with_joins cut) q u i
    exit_down q i u root le (inl own) = inl own
    exit_down q i u root le (inr (c, j, anc, jn, e)) =
        inr (c, j, above_down c u.task root anc, completed_front (cut q) j (Join c) (kept_does q j (Join c) jn (omega arith)), e)

    entry_down : (q j : ℕ) (v : GraphStrand) → IsAncestor (with_joins cut) 0 v.task → IsEntryStrand whole q v j → IsEntryStrand (with_joins cut) q v j
    entry_down q j v root (inl own) = inl own
    entry_down q j v root (inr (c, anc, sp)) = inr (c, above_down c v.task root anc, spawn_down q j c v.task root anc sp)

    meets_up : (u v : GraphStrand) → HasStrand cut v → Meets (with_joins cut) u v → Meets whole u v
    meets_up u v st m =
        let kept : m.entered ≤ length (cut m.at) = entry_kept m.at m.entered v st m.entry in
        let le : m.left ≤ m.entered = m.before in
        record {
          at = m.at;
          left = m.left;
          entered = m.entered;
          exit = exit_up m.at m.left u (omega arith) m.exit;
          entry = entry_up m.at m.entered v m.entry;
          before = le;
        }

    meets_down : (u v : GraphStrand) → IsRooted (with_joins cut) u → IsRooted (with_joins cut) v → HasStrand cut v → Meets whole u v → Meets (with_joins cut) u v
    meets_down u v ru rv st m =
        let entry = entry_down m.at m.entered v rv.rooted m.entry in
        let kept : m.entered ≤ length (cut m.at) = entry_kept m.at m.entered v st entry in
        let le : m.left ≤ m.entered = m.before in
        record {
          at = m.at;
          left = m.left;
          entered = m.entered;
          exit = exit_down m.at m.left u ru.rooted (omega arith) m.exit;
          entry = entry;
          before = le;
        }

cut_shorter : {A : Type 0} (n : ℕ) (xs : List A) → length (take n xs) ≤ length xs
cut_shorter zero xs = omega arith
cut_shorter (suc n) [] = omega arith
cut_shorter (suc n) (x ∷ xs) = let le : length (take n xs) ≤ length xs = cut_shorter n xs in omega arith

pub cut_runs_speak_truly : CutRunsSpeakTruly
cut_runs_speak_truly cut whole n part =
    let fj = n.fork_join in
    let nested : IsNested (with_joins cut) = completed_are_nested cut (cut_fork_join cut whole part fj) in
    let rooted = λ (u : GraphStrand) (k : IsKept cut u). attached_rooted (with_joins cut) nested.fork_join u k.attached in
    let stands : (u : GraphStrand) → IsKept cut u → HasStrand whole u = λ u k.
    let p = part u.task in
    let le : length (cut u.task) ≤ length (whole u.task) = subst (λ turns. length turns ≤ length (whole u.task)) (sym p.1) (cut_shorter p.0 (whole u.task)) in
    let st : u.index ≤ length (cut u.task) = k.stands in
    omega arith in (
      nested,
      λ u v ku kv. (
        rooted_attached whole u (record { stands = stands u ku; rooted = above_up cut whole part 0 u.task (rooted u ku).rooted }),
        (
          λ w.
              let m = meets_up cut whole part fj u v kv.stands (walks_meet (with_joins cut) nested.fork_join u v w) in
              meeting_walk whole n u v m.at m.left m.entered (stands u ku) (stands v kv) m.exit m.entry m.before,
          λ w.
              let m = meets_down cut whole part fj u v (rooted u ku) (rooted v kv) kv.stands (walks_meet whole fj u v w) in
              meeting_walk (with_joins cut) nested u v m.at m.left m.entered (rooted u ku).stands (rooted v kv).stands m.exit m.entry m.before,
        ),
      ),
    )
