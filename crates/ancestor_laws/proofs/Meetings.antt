-- Strands whose ways meet at a common ancestor of their tasks.
use Rattle.ancestor_laws.proofs.Common.{◌≡◌, ℕ, zero, suc, ◌+◌, ◌<◌, ◌≤◌, length, ◌⊎◌, inl, inr, refl, ap, sym, subst, ◌∙◌, arith, slice_get_within, reached_within, Spawn, Join, GraphStrand, TaskTurns, strand, first_of, last_of, HasStrand, Does, IsGraphEdge, StrandPrecedes, IsParent, IsAncestor, IsForkJoin, IsNested, IsLowestCommon, IsExit, IsEntryStrand, IsMeeting, AncestorsTellPrecedence}
use Rattle.ancestor_laws.proofs.Trees.{IsLine, itself, same_ancestor, below, through, child_above, up_cases, down_cases, one_parent, joins_child, parent_line, no_self, same_child, decide}
use Rattle.ancestor_laws.proofs.Walks.{strand_is, same_strand, and_then, both, along, descend, climb, attached_rooted}

-- at some common ancestor u's way comes in before v's goes out
pub record Meets (tasks : TaskTurns) (u v : GraphStrand) : Type 0 where
  pub at : ℕ
  pub left : ℕ
  pub entered : ℕ
  pub exit : IsExit tasks at u left
  pub entry : IsEntryStrand tasks at v entered
  pub before : left ≤ entered

-- WALKS MEET

pub meets_itself : (tasks : TaskTurns) (u v : GraphStrand) → v ≡ u → Meets tasks u v
meets_itself tasks u v e = subst (Meets tasks u) (sym e) (record {
  at = u.task;
  left = u.index;
  entered = u.index;
  exit = inl (refl, refl);
  entry = inl (refl, refl);
  before = omega arith;
})

module _ (tasks : TaskTurns) (fj : IsForkJoin tasks) (u : GraphStrand) where
  on_by : (x : GraphStrand) (q i j : ℕ) → IsExit tasks q u i → IsEntryStrand tasks q x j → i ≤ j → Meets tasks u (strand x.task (x.index + 1))
  on_by x q i j exit (inl (et, ei)) le = record {
    at = q;
    left = i;
    entered = x.index + 1;
    exit = exit;
    entry = inl (et, refl);
    before = omega arith;
  }
  on_by x q i j exit (inr (c, anc, sp)) le = record {
    at = q;
    left = i;
    entered = j;
    exit = exit;
    entry = inr (c, anc, sp);
    before = le;
  }

  spawn_by : (x : GraphStrand) (c q i j : ℕ) → Does tasks x.task x.index (Spawn c) → IsExit tasks q u i → IsEntryStrand tasks q x j → i ≤ j → Meets tasks u (first_of c)
  spawn_by x c q i j h exit (inl (et, ei)) le = record {
    at = q;
    left = i;
    entered = j;
    exit = exit;
    entry = inr (c, itself tasks c, subst (λ k. Does tasks q k (Spawn c)) ei (subst (λ t. Does tasks t x.index (Spawn c)) et h));
    before = le;
  }
  spawn_by x c q i j h exit (inr (d, anc, sp)) le = record {
    at = q;
    left = i;
    entered = j;
    exit = exit;
    entry = inr (d, below tasks d x.task c anc (x.index, h), sp);
    before = le;
  }

  pub exit_above : (q i : ℕ) → IsExit tasks q u i → IsAncestor tasks q u.task
  exit_above q i (inl (et, ei)) = same_ancestor tasks q u.task et
  exit_above q i (inr (c, j, anc, jn, e)) = child_above tasks q c u.task (joins_child tasks fj q j c jn) anc

  -- after the join of a child
  joined_by : (t k c q i j d : ℕ) → Does tasks t k (Join c) → IsExit tasks q u i → IsAncestor tasks d c → Does tasks q j (Spawn d) → i ≤ j
      → (c ≡ d) ⊎ ((p : ℕ) × IsAncestor tasks d p × IsParent tasks p c) → Meets tasks u (strand t (k + 1))
  joined_by t k c q i j d h exit anc sp le (inl same) =
      let s = fj.joins_own c t k h in
      let one = fj.spawned_once c q j t s.0 (subst (λ x. Does tasks q j (Spawn x)) (sym same) sp) s.2 in
      let lt : s.0 < k = s.1 in
      let e : j ≡ s.0 = one.1 in
      record { at = q; left = i; entered = k + 1; exit = exit; entry = inl (sym one.0, refl); before = omega arith }
  joined_by t k c q i j d h exit anc sp le (inr (p, more, up)) =
      let e : p ≡ t = one_parent tasks fj p t c up (joins_child tasks fj t k c h) in
      record { at = q; left = i; entered = j; exit = exit; entry = inr (d, subst (IsAncestor tasks d) e more, sp); before = le }

  join_by : (t k c q i j : ℕ) → Does tasks t k (Join c) → IsExit tasks q u i → IsEntryStrand tasks q (last_of tasks c) j → i ≤ j → Meets tasks u (strand t (k + 1))
  join_by t k c q i j h exit (inl (et, ei)) le = record {
    at = t;
    left = k + 1;
    entered = k + 1;
    exit = inr (c, k, subst (λ x. IsAncestor tasks x u.task) (sym et) (exit_above q i exit), h, refl);
    entry = inl (refl, refl);
    before = omega arith;
  }
  join_by t k c q i j h exit (inr (d, anc, sp)) le = joined_by t k c q i j d h exit anc sp le (up_cases tasks d c anc)

  meets_more : (x y : GraphStrand) → Meets tasks u x → IsGraphEdge tasks x y → Meets tasks u y
  meets_more x y m (inl (turn, h, e)) = subst (Meets tasks u) (sym e) (on_by x m.at m.left m.entered m.exit m.entry m.before)
  meets_more x y m (inr (inl (c, h, e))) = subst (Meets tasks u) (sym e) (spawn_by x c m.at m.left m.entered h m.exit m.entry m.before)
  meets_more x y m (inr (inr (t, i, c, h, ex, ey))) =
      subst (Meets tasks u) (sym ey)
      (join_by t i c m.at m.left m.entered h m.exit (subst (λ (z : GraphStrand). IsEntryStrand tasks m.at z m.entered) ex m.entry) m.before)

  pub walks_meet : (v : GraphStrand) → StrandPrecedes tasks u v → Meets tasks u v
  walks_meet v w =
      reached_within (λ (x : GraphStrand). x ≡ u) (IsGraphEdge tasks) (Meets tasks u)
      (λ a e. meets_itself tasks u a e) (λ m a p e. meets_more m a p e) v w

-- MEETINGS ARE WALKED

module _ (tasks : TaskTurns) (n : IsNested tasks) where
  pub exit_walk : (u : GraphStrand) (q i : ℕ) → HasStrand tasks u → IsExit tasks q u i → StrandPrecedes tasks u (strand q i)
  exit_walk u q i st (inl (et, ei)) = same_strand tasks u (strand q i) (sym (strand_is u q i et ei))
  exit_walk u q i st (inr (c, j, anc, jn, e)) =
      and_then tasks u (last_of tasks c) (strand q i)
      (both tasks u (last_of tasks u.task) (last_of tasks c) (along tasks u.task u.index (length (tasks u.task)) st (omega arith)) (climb tasks n c u.task anc))
      (inr (inr (q, j, c, jn, refl, ap (strand q) e)))

  pub entry_walk : (v : GraphStrand) (q j : ℕ) → HasStrand tasks v → IsEntryStrand tasks q v j → StrandPrecedes tasks (strand q j) v
  entry_walk v q j st (inl (et, ei)) = same_strand tasks (strand q j) v (strand_is v q j et ei)
  entry_walk v q j st (inr (c, anc, sp)) =
      both tasks (strand q j) (first_of c) v
      (and_then tasks (strand q j) (strand q j) (first_of c) (same_strand tasks (strand q j) (strand q j) refl) (inr (inl (c, sp, refl))))
      (both tasks (first_of c) (first_of v.task) v (descend tasks c v.task anc) (along tasks v.task 0 v.index (omega arith) st))

  entry_stands : (v : GraphStrand) (q j : ℕ) → HasStrand tasks v → IsEntryStrand tasks q v j → j ≤ length (tasks q)
  entry_stands v q j st (inl (et, ei)) =
      subst (λ k. k ≤ length (tasks q)) ei (subst (λ t. v.index ≤ length (tasks t)) et st)
  entry_stands v q j st (inr (c, anc, sp)) =
      let lt : j < length (tasks q) = slice_get_within (tasks q) j (Spawn c) sp in omega arith

  pub meeting_walk : (u v : GraphStrand) (q i j : ℕ) → HasStrand tasks u → HasStrand tasks v → IsExit tasks q u i → IsEntryStrand tasks q v j → i ≤ j → StrandPrecedes tasks u v
  meeting_walk u v q i j su sv exit entry le =
      both tasks u (strand q i) v (exit_walk u q i su exit)
      (both tasks (strand q i) (strand q j) v (along tasks q i j le (entry_stands v q j sv entry)) (entry_walk v q j sv entry))

-- ONE MEETING

module _ (tasks : TaskTurns) (fj : IsForkJoin tasks) where
  own_child : {A : Type 0} (u : GraphStrand) (q c : ℕ) → IsAncestor tasks 0 u.task → u.task ≡ q → IsParent tasks q c → IsAncestor tasks c u.task → A
  own_child u q c root e up anc = no_self tasks fj q c (subst (IsAncestor tasks 0) e root) up (subst (IsAncestor tasks c) e anc)

  pub one_exit : (u : GraphStrand) (q i i' : ℕ) → IsAncestor tasks 0 u.task → IsExit tasks q u i → IsExit tasks q u i' → i ≡ i'
  one_exit u q i i' root (inl (et, ei)) (inl (et', ei')) = sym ei ∙ ei'
  one_exit u q i i' root (inl (et, ei)) (inr (c, j, anc, jn, e)) = own_child u q c root et (joins_child tasks fj q j c jn) anc
  one_exit u q i i' root (inr (c, j, anc, jn, e)) (inl (et, ei)) = own_child u q c root et (joins_child tasks fj q j c jn) anc
  one_exit u q i i' root (inr (c, j, anc, jn, e)) (inr (c', j', anc', jn', e')) =
      let same : c ≡ c' = same_child tasks fj q c c' u.task root (joins_child tasks fj q j c jn) (joins_child tasks fj q j' c' jn') anc anc' in
      let one : j ≡ j' = fj.joined_once c' q j j' (subst (λ x. Does tasks q j (Join x)) same jn) jn' in
      omega arith

  pub one_entry : (v : GraphStrand) (q j j' : ℕ) → IsAncestor tasks 0 v.task → IsEntryStrand tasks q v j → IsEntryStrand tasks q v j' → j ≡ j'
  one_entry v q j j' root (inl (et, ei)) (inl (et', ei')) = sym ei ∙ ei'
  one_entry v q j j' root (inl (et, ei)) (inr (c, anc, sp)) = own_child v q c root et (j', sp) anc
  one_entry v q j j' root (inr (c, anc, sp)) (inl (et, ei)) = own_child v q c root et (j, sp) anc
  one_entry v q j j' root (inr (c, anc, sp)) (inr (c', anc', sp')) =
      let same : c ≡ c' = same_child tasks fj q c c' v.task root (j, sp) (j', sp') anc anc' in
      (fj.spawned_once c' q j q j' (subst (λ x. Does tasks q j (Spawn x)) same sp) sp').1

  -- where a child of the task leads to both, it is left after it is entered
  late_exit : {A : Type 0} (u v : GraphStrand) (q c i j : ℕ) → IsAncestor tasks 0 u.task → IsAncestor tasks 0 v.task → IsParent tasks q c
      → IsAncestor tasks c u.task → IsAncestor tasks c v.task → IsExit tasks q u i → IsEntryStrand tasks q v j → i ≤ j → A
  late_exit u v q c i j ru rv up au av (inl (et, ei)) entry le = own_child u q c ru et up au
  late_exit u v q c i j ru rv up au av (inr exit) (inl (et, ei)) le = own_child v q c rv et up av
  late_exit u v q c i j ru rv up au av (inr (d, k, anc, jn, e)) (inr (d', anc', sp)) le =
      let s = fj.joins_own d q k jn in
      let lt : s.0 < k = s.1 in
      let one : d ≡ c = same_child tasks fj q d c u.task ru (s.0, s.2) up anc au in
      let other : d' ≡ c = same_child tasks fj q d' c v.task rv (j, sp) up anc' av in
      let same : j ≡ s.0 = (fj.spawned_once d q j q s.0 (subst (λ x. Does tasks q j (Spawn x)) (other ∙ sym one) sp) s.2).1 in
      absurd (omega arith)

  entry_above : (v : GraphStrand) (q j : ℕ) → IsEntryStrand tasks q v j → IsAncestor tasks q v.task
  entry_above v q j (inl (et, ei)) = same_ancestor tasks q v.task et
  entry_above v q j (inr (c, anc, sp)) = child_above tasks q c v.task (j, sp) anc

  pub before_at_lowest : (u v : GraphStrand) (q i j : ℕ) → IsAncestor tasks 0 u.task → IsAncestor tasks 0 v.task → IsMeeting tasks u v q i j → Meets tasks u v → i ≤ j
  before_at_lowest u v q i j ru rv m h =
      let p = h.at in
      let pu = exit_above tasks fj u p h.left h.exit in
      let pv = entry_above v p h.entered h.entry in
      elim (down_cases tasks p q (m.lowest.lowest p pu pv)) [
        | inl same ↦
            let a : h.left ≡ i = one_exit u q h.left i ru (subst (λ x. IsExit tasks x u h.left) (sym same) h.exit) m.exit in
            let b : h.entered ≡ j = one_entry v q h.entered j rv (subst (λ x. IsEntryStrand tasks x v h.entered) (sym same) h.entry) m.entry in
            let le : h.left ≤ h.entered = h.before in
            omega arith
        | inr (c, up, more) ↦
            late_exit u v p c h.left h.entered ru rv up
            (through tasks c q u.task more m.lowest.above_first) (through tasks c q v.task more m.lowest.above_second) h.exit h.entry h.before
      ]

  lowest_by : (k a b : ℕ) → IsLine tasks 0 k a → IsAncestor tasks 0 b → (q : ℕ) × IsLowestCommon tasks q a b
  lowest_by zero a b w root = (
    0,
    record {
      above_first = same_ancestor tasks 0 a w;
      above_second = root;
      lowest = λ p x y. subst (IsAncestor tasks p) w x;
    },
  )
  lowest_by (suc k) a b w root =
      elim (decide tasks fj b a root) [
        | inl over ↦ (a, record { above_first = itself tasks a; above_second = over; lowest = λ p x y. x })
        | inr apart ↦
            let low = lowest_by k w.0 b w.1 root in (
              low.0,
              record {
                above_first = below tasks low.0 w.0 a low.1.above_first w.2;
                above_second = low.1.above_second;
                lowest = λ p x y. low.1.lowest p
                    (parent_line tasks fj p w.0 a (λ e. apart (subst (λ z. IsAncestor tasks z b) (sym e) y)) w.2 x) y;
              },
            )
      ]

  pub lowest_common : (a b : ℕ) → IsAncestor tasks 0 a → IsAncestor tasks 0 b → (q : ℕ) × IsLowestCommon tasks q a b
  lowest_common a b ra rb = lowest_by ra.0 a b ra.1 rb

pub some_exit : (tasks : TaskTurns) → IsNested tasks → (u : GraphStrand) (q : ℕ) → IsAncestor tasks q u.task → (i : ℕ) × IsExit tasks q u i
some_exit tasks n u q w =
    elim (down_cases tasks q u.task w) [
      | inl same ↦ (u.index, inl (same, refl))
      | inr (c, up, more) ↦ let join = n.all_joined c q up.0 up.1 in (join.0 + 1, inr (c, join.0, more, join.1, refl))
    ]

pub some_entry : (tasks : TaskTurns) (v : GraphStrand) (q : ℕ) → IsAncestor tasks q v.task → (j : ℕ) × IsEntryStrand tasks q v j
some_entry tasks v q w =
    elim (down_cases tasks q v.task w) [
      | inl same ↦ (v.index, inl (same, refl))
      | inr (c, up, more) ↦ (up.0, inr (c, more, up.1))
    ]

pub some_meeting : (tasks : TaskTurns) → IsNested tasks → (u v : GraphStrand) → IsAncestor tasks 0 u.task → IsAncestor tasks 0 v.task → (q i j : ℕ) × IsMeeting tasks u v q i j
some_meeting tasks n u v ru rv =
    let low = lowest_common tasks n.fork_join u.task v.task ru rv in
    let exit = some_exit tasks n u low.0 low.1.above_first in
    let entry = some_entry tasks v low.0 low.1.above_second in
    (low.0, exit.0, entry.0, record { lowest = low.1; exit = exit.1; entry = entry.1 })

pub ancestors_tell_precedence : AncestorsTellPrecedence
ancestors_tell_precedence tasks n u v au av =
    let ru = attached_rooted tasks n.fork_join u au in
    let rv = attached_rooted tasks n.fork_join v av in (
      some_meeting tasks n u v ru.rooted rv.rooted,
      λ q i j m. (
        λ w. before_at_lowest tasks n.fork_join u v q i j ru.rooted rv.rooted m (walks_meet tasks n.fork_join u v w),
        λ le. meeting_walk tasks n u v q i j ru.stands rv.stands m.exit m.entry le,
      ),
    )
