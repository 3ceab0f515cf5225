-- How tasks stand in the serial order.
use Rattle.ancestor_laws.proofs.Common.{◌≡◌, ◌↔◌, ℕ, zero, suc, ◌+◌, ◌-◌, ◌<◌, ◌≤◌, length, inl, inr, refl, ap, sym, subst, ◌∙◌, arith, Some, slice_get, cases_lt, same_Some, slice_get_within, got_in, got_some, Spawn, Join, GraphStrand, TaskTurns, strand, first_of, last_of, Does, StrandPrecedes, IsParent, IsAncestor, IsNested, IsExit, IsEntryStrand, IsMeeting, serial_in, serial_order, AreLevels, IsSerialOrder, AreBlocks, TellsPrecedence, SerialOrderTells}
use Rattle.ancestor_laws.proofs.Trees.{IsLine, through, child_above, up_cases, joins_child, one_parent, one_line}
use Rattle.ancestor_laws.proofs.Walks.{both, along, IsRooted, attached_rooted, rooted_attached}
use Rattle.ancestor_laws.proofs.Meetings.{exit_walk, entry_walk, some_entry, before_at_lowest, walks_meet}
use Rattle.ancestor_laws.proofs.Serial.{offset, rest_length, offset_spawn, offset_upto, in_below, IsPlaced, child_placed, placed_by, strand_placed, serial_order_extends}

module _ (tasks : TaskTurns) (levels : ℕ) (n : IsNested tasks) (enough : AreLevels tasks levels) where
  serial : IsSerialOrder tasks (serial_order tasks levels)
  serial = serial_order_extends tasks levels n enough

  rooted_at : (i : ℕ) (u : GraphStrand) → slice_get (serial_order tasks levels) i ≡ Some u → IsRooted tasks u
  rooted_at i u h = attached_rooted tasks n.fork_join u (serial.attached i u h)

  -- the part of the order that a task has lies within that of a task above it
  pub record IsWithin (x l s : ℕ) : Type 0 where
    pub k' : ℕ
    pub l' : ℕ
    pub s' : ℕ
    pub placed : IsPlaced tasks levels x k' l' s'
    pub from : s ≤ s'
    pub upto : s' + length (serial_in tasks (suc l') x) ≤ s + l

  child_within : (p x i s l : ℕ) → IsWithin p l s → Does tasks p i (Spawn x) → IsWithin x l s
  child_within p x i s l w sp =
      let c = child_placed tasks levels enough p w.k' w.l' w.s' i x w.placed sp in
      let child = serial_in tasks w.l' in
      let lt : i < length (tasks p) = slice_get_within (tasks p) i (Spawn x) sp in
      let same : length (serial_in tasks (suc c.0) x) ≡ length (child x) = ap (λ m. length (serial_in tasks m x)) c.1 in
      let next : offset child (suc i) (tasks p) ≡ offset child i (tasks p) + length (child x) + 1 = offset_spawn child i x (tasks p) sp in
      let more : offset child (suc i) (tasks p) ≤ offset child (length (tasks p)) (tasks p) =
      offset_upto child (length (tasks p) - suc i) (suc i) (length (tasks p)) (tasks p) (omega arith) (omega arith) in
      let size : length (serial_in tasks (suc w.l') p) ≡ offset child (length (tasks p)) (tasks p) + 1 = rest_length child p 0 (tasks p) in
      let from : s ≤ w.s' = w.from in
      let upto : w.s' + length (serial_in tasks (suc w.l') p) ≤ s + l = w.upto in
      record { k' = suc w.k'; l' = c.0; s' = w.s' + (offset child i (tasks p) + 1); placed = c.2; from = omega arith; upto = omega arith }

  within_by : (c k l s m x : ℕ) → IsPlaced tasks levels c k l s → IsLine tasks c m x → IsWithin x (length (serial_in tasks (suc l) c)) s
  within_by c k l s zero x p e =
      subst (λ y. IsWithin y (length (serial_in tasks (suc l) c)) s) (sym e) (record { k' = k; l' = l; s' = s; placed = p; from = omega arith; upto = omega arith })
  within_by c k l s (suc m) x p w =
      child_within w.0 x w.2.0 s (length (serial_in tasks (suc l) c)) (within_by c k l s m w.0 p w.1) w.2.1

  -- a strand of a task below stands within
  strand_within : (c k l s i : ℕ) (v : GraphStrand) → IsPlaced tasks levels c k l s → IsAncestor tasks c v.task → slice_get (serial_order tasks levels) i ≡ Some v
      → (s ≤ i) × (i < s + length (serial_in tasks (suc l) c))
  strand_within c k l s i v p up h =
      let w = within_by c k l s up.0 v.task p up.1 in
      let r = rooted_at i v h in
      let stands : v.index ≤ length (tasks v.task) = r.stands in
      let child = serial_in tasks w.l' in
      let at : i ≡ w.s' + offset child v.index (tasks v.task) =
      serial.once i (w.s' + offset child v.index (tasks v.task)) v h (strand_placed tasks levels enough v.task w.k' w.l' w.s' v.index w.placed r.stands) in
      let more : offset child v.index (tasks v.task) ≤ offset child (length (tasks v.task)) (tasks v.task) =
      offset_upto child (length (tasks v.task) - v.index) v.index (length (tasks v.task)) (tasks v.task) (omega arith) (omega arith) in
      let size : length (serial_in tasks (suc w.l') v.task) ≡ offset child (length (tasks v.task)) (tasks v.task) + 1 = rest_length child v.task 0 (tasks v.task) in
      let from : s ≤ w.s' = w.from in
      let upto : w.s' + length (serial_in tasks (suc w.l') v.task) ≤ s + length (serial_in tasks (suc l) c) = w.upto in
      (omega arith, omega arith)

  block : (c first last i : ℕ) (v : GraphStrand) → slice_get (serial_order tasks levels) first ≡ Some (first_of c) → slice_get (serial_order tasks levels) last ≡ Some (last_of tasks c)
      → slice_get (serial_order tasks levels) i ≡ Some v → (IsAncestor tasks c v.task ↔ ((first ≤ i) × (i ≤ last)))
  block c first last i v hf hl h =
      let r = rooted_at first (first_of c) hf in
      let p = placed_by tasks levels enough r.rooted.0 c r.rooted.1 in
      let l : ℕ = p.0 in
      let s : ℕ = p.1 in
      let child = serial_in tasks l in
      let f : first ≡ s + offset child 0 (tasks c) =
      serial.once first (s + offset child 0 (tasks c)) (first_of c) hf (strand_placed tasks levels enough c r.rooted.0 l s 0 p.2 (omega arith)) in
      let e : last ≡ s + offset child (length (tasks c)) (tasks c) =
      serial.once last (s + offset child (length (tasks c)) (tasks c)) (last_of tasks c) hl
      (strand_placed tasks levels enough c r.rooted.0 l s (length (tasks c)) p.2 (omega arith)) in
      let size : length (serial_in tasks (suc l) c) ≡ offset child (length (tasks c)) (tasks c) + 1 = rest_length child c 0 (tasks c) in (
        λ up. let w = strand_within c r.rooted.0 l s i v p.2 up h in let a : s ≤ i = w.0 in let b : i < s + length (serial_in tasks (suc l) c) = w.1 in (omega arith, omega arith),
        λ between.
            let a : first ≤ i = between.0 in
            let b : i ≤ last = between.1 in
            let x = got_some (serial_in tasks (suc l) c) (i - s) (omega arith) in
            let there : s + (i - s) ≡ i = omega arith in
            let at : slice_get (serial_order tasks levels) i ≡ Some x.0 = subst (λ k. slice_get (serial_order tasks levels) k ≡ Some x.0) there (p.2.window (i - s) x.0 x.1) in
            let same : x.0 ≡ v = same_Some x.0 v (sym at ∙ h) in
            subst (λ (y : GraphStrand). IsAncestor tasks c y.task) same (in_below tasks (suc l) c x.0 (got_in (serial_in tasks (suc l) c) (i - s) x.0 x.1)).0,
      )

  spawner : (t i c k : ℕ) → Does tasks t i (Spawn c) → slice_get (serial_order tasks levels) k ≡ Some (strand t i) → slice_get (serial_order tasks levels) (k + 1) ≡ Some (first_of c)
  spawner t i c k sp h =
      let r = rooted_at k (strand t i) h in
      let p = placed_by tasks levels enough r.rooted.0 t r.rooted.1 in
      let o : ℕ = offset (serial_in tasks p.0) i (tasks t) in
      let s : ℕ = p.1 in
      let at : k ≡ s + o = serial.once k (s + o) (strand t i) h (strand_placed tasks levels enough t r.rooted.0 p.0 p.1 i p.2 r.stands) in
      let q = child_placed tasks levels enough t r.rooted.0 p.0 p.1 i c p.2 sp in
      let there : s + (o + 1) + 0 ≡ k + 1 = omega arith in
      subst (λ m. slice_get (serial_order tasks levels) m ≡ Some (first_of c)) there
      (strand_placed tasks levels enough c (suc r.rooted.0) q.0 (s + (o + 1)) 0 q.2 (omega arith))

  child : (t i c k j : ℕ) (v : GraphStrand) → Does tasks t i (Spawn c) → IsAncestor tasks c v.task
      → slice_get (serial_order tasks levels) k ≡ Some v → slice_get (serial_order tasks levels) j ≡ Some (strand t (i + 1)) → k < j
  child t i c k j v sp up hk hj =
      let r = rooted_at j (strand t (i + 1)) hj in
      let p = placed_by tasks levels enough r.rooted.0 t r.rooted.1 in
      let below = serial_in tasks p.0 in
      let s : ℕ = p.1 in
      let at : j ≡ s + offset below (i + 1) (tasks t) =
      serial.once j (s + offset below (i + 1) (tasks t)) (strand t (i + 1)) hj (strand_placed tasks levels enough t r.rooted.0 p.0 p.1 (i + 1) p.2 r.stands) in
      let q = child_placed tasks levels enough t r.rooted.0 p.0 p.1 i c p.2 sp in
      let w = strand_within c (suc r.rooted.0) q.0 (s + (offset below i (tasks t) + 1)) k v q.2 up hk in
      let same : length (serial_in tasks (suc q.0) c) ≡ length (below c) = ap (λ m. length (serial_in tasks m c)) q.1 in
      let next : offset below (suc i) (tasks t) ≡ offset below i (tasks t) + length (below c) + 1 = offset_spawn below i c (tasks t) sp in
      let equal : offset below (i + 1) (tasks t) ≡ offset below (suc i) (tasks t) = ap (λ m. offset below m (tasks t)) (let e : i + 1 ≡ suc i = omega arith in e) in
      let lt : k < s + (offset below i (tasks t) + 1) + length (serial_in tasks (suc q.0) c) = w.1 in
      omega arith

  pub are_blocks : AreBlocks tasks (serial_order tasks levels)
  are_blocks = record { block = block; spawner = spawner; child = child }

  -- PRECEDENCE BY PLACES

  -- strands of one task stand in their order
  own_order : (q i j a b : ℕ) → slice_get (serial_order tasks levels) a ≡ Some (strand q i) → slice_get (serial_order tasks levels) b ≡ Some (strand q j) → i ≤ j → a ≤ b
  own_order q i j a b ha hb le = serial.extends a b (strand q i) (strand q j) ha hb (along tasks q i j le (rooted_at b (strand q j) hb).stands)

  next_strand : (q i j a : ℕ) → slice_get (serial_order tasks levels) a ≡ Some (strand q i) → j ≤ i → (b : ℕ) × (slice_get (serial_order tasks levels) b ≡ Some (strand q j))
  next_strand q i j a h le =
      let r = rooted_at a (strand q i) h in
      let stands : i ≤ length (tasks q) = r.stands in
      serial.all (strand q j) (rooted_attached tasks (strand q j) (record { stands = omega arith; rooted = r.rooted }))

  -- what is entered before strand i of q stands before it
  entered_before : (q i e k j : ℕ) (v : GraphStrand) → IsEntryStrand tasks q v e → e < i → slice_get (serial_order tasks levels) k ≡ Some (strand q i) → slice_get (serial_order tasks levels) j ≡ Some v → j < k
  entered_before q i e k j v (inl (et, ei)) lt hk hj =
      let is : v ≡ strand q e = ap (λ x. strand x v.index) et ∙ ap (strand q) ei in
      let at : slice_get (serial_order tasks levels) j ≡ Some (strand q e) = hj ∙ ap Some is in
      let le : j ≤ k = own_order q e i j k at hk (omega arith) in
      elim (cases_lt j k) [
        | inl before ↦ before
        | inr ge ↦
            let same : j ≡ k = omega arith in
            let clash : strand q e ≡ strand q i = same_Some (strand q e) (strand q i) (sym at ∙ subst (λ m. slice_get (serial_order tasks levels) m ≡ Some (strand q i)) (sym same) hk) in
            let equal : e ≡ i = ap (λ (x : GraphStrand). x.index) clash in
            absurd (omega arith)
      ]
  entered_before q i e k j v (inr (c, up, sp)) lt hk hj =
      let m = next_strand q i (e + 1) k hk (omega arith) in
      let before : j < m.0 = child q e c j m.0 v sp up hj m.1 in
      let le : m.0 ≤ k = own_order q (e + 1) i m.0 k m.1 hk (omega arith) in
      omega arith

  entry_stands : (q e : ℕ) (v : GraphStrand) → v.index ≤ length (tasks v.task) → IsEntryStrand tasks q v e → e ≤ length (tasks q)
  entry_stands q e v st (inl (et, ei)) = subst (λ x. x ≤ length (tasks q)) ei (subst (λ t. v.index ≤ length (tasks t)) et st)
  entry_stands q e v st (inr (c, anc, sp)) = let lt : e < length (tasks q) = slice_get_within (tasks q) e (Spawn c) sp in omega arith

  -- a strand of q precedes what is entered from there on
  entered_from : (q i e : ℕ) (v : GraphStrand) → v.index ≤ length (tasks v.task) → IsEntryStrand tasks q v e → i ≤ e → StrandPrecedes tasks (strand q i) v
  entered_from q i e v st entry le =
      both tasks (strand q i) (strand q e) v (along tasks q i e le (entry_stands q e v st entry)) (entry_walk tasks n v q e st entry)

  own : (q i k j : ℕ) (v : GraphStrand) → IsAncestor tasks q v.task → slice_get (serial_order tasks levels) k ≡ Some (strand q i) → slice_get (serial_order tasks levels) j ≡ Some v
      → (StrandPrecedes tasks (strand q i) v ↔ (k ≤ j))
  own q i k j v up hk hj =
      let rv = rooted_at j v hj in
      let entry = some_entry tasks v q up in (
        λ w. serial.extends k j (strand q i) v hk hj w,
        λ le. elim (cases_lt entry.0 i) [
          | inl lt ↦ let before : j < k = entered_before q i entry.0 k j v entry.1 lt hk hj in absurd (omega arith)
          | inr ge ↦ entered_from q i entry.0 v rv.stands entry.1 ge
        ],
      )

  -- what is above both a task below child c of q, and one that isn't, is above q
  above_both : (q c p a b : ℕ) → IsParent tasks q c → IsAncestor tasks c a → (IsAncestor tasks c b → ⊥) → IsAncestor tasks p a → IsAncestor tasks p b → IsAncestor tasks p q
  above_both q c p a b parent up apart pa pb =
      elim (one_line tasks n.fork_join p c a pa up) [
        | inr over ↦ absurd (apart (through tasks c p b over pb))
        | inl over ↦ elim (up_cases tasks p c over) [
          | inl same ↦ absurd (apart (subst (λ x. IsAncestor tasks x b) (sym same) pb))
          | inr (q', more, e) ↦ subst (IsAncestor tasks p) (one_parent tasks n.fork_join q' q c e parent) more
        ]
      ]

  left : (q i c k j : ℕ) (u v : GraphStrand) → IsAncestor tasks c u.task → Does tasks q i (Join c) → IsAncestor tasks q v.task
      → (IsAncestor tasks c v.task → ⊥) → (m : ℕ) → slice_get (serial_order tasks levels) m ≡ Some u
      → slice_get (serial_order tasks levels) k ≡ Some (strand q (i + 1)) → slice_get (serial_order tasks levels) j ≡ Some v → (StrandPrecedes tasks u v ↔ (k ≤ j))
  left q i c k j u v up join over apart m hm hk hj =
      let ru = rooted_at m u hm in
      let rv = rooted_at j v hj in
      let parent = joins_child tasks n.fork_join q i c join in
      let exit : IsExit tasks q u (i + 1) = inr (c, i, up, join, refl) in
      let entry = some_entry tasks v q over in
      let meeting : IsMeeting tasks u v q (i + 1) entry.0 = record {
        lowest = record {
          above_first = child_above tasks q c u.task parent up;
          above_second = over;
          lowest = λ p pa pb. above_both q c p u.task v.task parent up apart pa pb;
        };
        exit = exit;
        entry = entry.1;
      } in
      let onward = own q (i + 1) k j v over hk hj in (
        λ w.
            let le : i + 1 ≤ entry.0 = before_at_lowest tasks n.fork_join u v q (i + 1) entry.0 ru.rooted rv.rooted meeting (walks_meet tasks n.fork_join u v w) in
            onward.0 (entered_from q (i + 1) entry.0 v rv.stands entry.1 le),
        λ le. both tasks u (strand q (i + 1)) v (exit_walk tasks n u q (i + 1) ru.stands exit) (onward.1 le),
      )

  pub tells_precedence : TellsPrecedence tasks (serial_order tasks levels)
  tells_precedence = record { own = own; left = left }

pub serial_order_tells : SerialOrderTells
serial_order_tells tasks levels n enough = (are_blocks tasks levels n enough, tells_precedence tasks levels n enough)
