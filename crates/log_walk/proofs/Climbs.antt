-- Climbs from a strand by the strands that spawned its task, its parent, and so on.
use Rattle.log_walk.proofs.Common.{◌≡◌, ◌↔◌, ℕ, zero, suc, ◌+◌, ◌-◌, ◌^◌, ◌<◌, ◌≤◌, Option, Some, None, List, length, slice_get, ◌⊎◌, inl, inr, refl, ap, sym, subst, ◌∙◌, arith, add-one, same_Some, slice_get_within, slice_get-get_or, get_or_from_slice_get, none_some, got_some, IsWalk, ancestor, up_from, depth_at, far_at, first_link, GraphTurn, Spawn, Join, GraphStrand, tasks_in, strand, first_of, last_of, Does, StrandPrecedes, IsParent, IsAncestor, AreLevels, IsSerialOrder, AreBlocks, TellsPrecedence, IsLine, itself, same_ancestor, below, through, child_above, parent_line, one_line, IsRooted, attached_rooted, rooted_attached, serial_order_extends, levels_are_few, are_blocks, tells_precedence, Tables, strand_at, task_at, place_before, AreTables, IsNextUp, IsTop, IsDepthAt, IsExitAt}
use Rattle.log_walk.proofs.Lines.{line_short}
use Rattle.log_walk.proofs.Marks.{first_mark, last_mark, joined_mark}

module _ (rows : List (List GraphTurn)) (tables : Tables) (w : AreTables rows tables) where
  levels : AreLevels (tasks_in rows) (length rows)
  levels = levels_are_few (tasks_in rows) (length rows) w.nested.fork_join w.some w.below

  serial : IsSerialOrder (tasks_in rows) tables.order
  serial = subst (IsSerialOrder (tasks_in rows)) (sym w.order) (serial_order_extends (tasks_in rows) (length rows) w.nested levels)

  blocks : AreBlocks (tasks_in rows) tables.order
  blocks = subst (AreBlocks (tasks_in rows)) (sym w.order) (are_blocks (tasks_in rows) (length rows) w.nested levels)

  tells : TellsPrecedence (tasks_in rows) tables.order
  tells = subst (TellsPrecedence (tasks_in rows)) (sym w.order) (tells_precedence (tasks_in rows) (length rows) w.nested levels)

  pub at_place : (i : ℕ) → i < length tables.order → slice_get tables.order i ≡ Some (strand_at tables.order i)
  at_place i lt = slice_get-get_or tables.order i (strand 0 0) lt

  rooted_at : (i : ℕ) → i < length tables.order → IsRooted (tasks_in rows) (strand_at tables.order i)
  rooted_at i lt = attached_rooted (tasks_in rows) w.nested.fork_join (strand_at tables.order i) (serial.attached i (strand_at tables.order i) (at_place i lt))

  below_by : (k t : ℕ) → IsWalk (λ x. x ≡ 0) (IsParent (tasks_in rows)) k t → t < length rows
  below_by zero t e = subst (λ x. x < length rows) (sym e) w.some
  below_by (suc k) t up = w.below up.0 up.2.0 t up.2.1

  pub task_there : (t : ℕ) → IsAncestor (tasks_in rows) 0 t → t < length rows
  task_there t up = below_by up.0 t up.1

  pub task_below : (i : ℕ) → i < length tables.order → task_at tables.order i < length rows
  task_below i lt = task_there (task_at tables.order i) (rooted_at i lt).rooted

  place_there : (u : GraphStrand) → IsRooted (tasks_in rows) u → (i : ℕ) × (slice_get tables.order i ≡ Some u)
  place_there u r = serial.all u (rooted_attached (tasks_in rows) u r)

  first_there : (t : ℕ) → IsAncestor (tasks_in rows) 0 t → (i : ℕ) × (slice_get tables.order i ≡ Some (first_of t))
  first_there t up = place_there (first_of t) (record { stands = omega arith; rooted = up })

  pub first_noted : (t i : ℕ) → IsAncestor (tasks_in rows) 0 t → slice_get tables.order i ≡ Some (first_of t) → slice_get tables.firsts t ≡ Some i
  first_noted t i up h = w.firsts.at i t (first_of t) (slice_get_within tables.order i (first_of t) h) h (first_mark (tasks_in rows) t) (task_there t up)

  -- from its first place to its last a task has those below it
  pub above_by : (i j f l : ℕ) → i < length tables.order → j < length tables.order → slice_get tables.firsts (task_at tables.order i) ≡ Some f → slice_get tables.lasts (task_at tables.order i) ≡ Some l
      → (IsAncestor (tasks_in rows) (task_at tables.order i) (task_at tables.order j) ↔ ((f ≤ j) × (j ≤ l)))
  above_by i j f l lt lt' hf hl =
      let t = task_at tables.order i in
      let up = (rooted_at i lt).rooted in
      let first = first_there t up in
      let last = place_there (last_of (tasks_in rows) t) (record { stands = omega arith; rooted = up }) in
      let ef : first.0 ≡ f = same_Some first.0 f (sym (first_noted t first.0 up first.1) ∙ hf) in
      let el : last.0 ≡ l = same_Some last.0 l
      (sym (w.lasts.at last.0 t (last_of (tasks_in rows) t) (slice_get_within tables.order last.0 (last_of (tasks_in rows) t) last.1) last.1 (last_mark (tasks_in rows) t) (task_there t up)) ∙ hl) in
      blocks.block t f l j (strand_at tables.order j)
      (subst (λ x. slice_get tables.order x ≡ Some (first_of t)) ef first.1)
      (subst (λ x. slice_get tables.order x ≡ Some (last_of (tasks_in rows) t)) el last.1)
      (at_place j lt')

  -- LINKS

  parent_is : (i : ℕ) → i < length tables.order → (f : ℕ) × (slice_get tables.order f ≡ Some (first_of (task_at tables.order i))) × (up_from tables.links.items i ≡ place_before f)
  parent_is i lt =
      let t = task_at tables.order i in
      let up = (rooted_at i lt).rooted in
      let first = first_there t up in
      (first.0, first.1, w.links.parent i first.0 (strand_at tables.order i) lt (at_place i lt) (first_noted t first.0 up first.1))

  -- the parent's strand that spawned a task below the root
  spawned_at : (t : ℕ) → IsAncestor (tasks_in rows) 0 t → (t ≡ 0) ⊎ ((p k a : ℕ) × Does (tasks_in rows) p k (Spawn t) × (slice_get tables.order a ≡ Some (strand p k)) × (slice_get tables.order (a + 1) ≡ Some (first_of t)))
  spawned_at t (zero, e) = inl e
  spawned_at t (suc m, (p, up, (k, sp))) =
      let lt : k < length (tasks_in rows p) = slice_get_within (tasks_in rows p) k (Spawn t) sp in
      let a = place_there (strand p k) (record { stands = omega arith; rooted = (m, up) }) in
      inr (p, k, a.0, sp, a.1, blocks.spawner p k t a.0 sp a.1)

  root_first : (f : ℕ) → slice_get tables.order f ≡ Some (first_of 0) → f ≡ 0
  root_first zero h = refl
  root_first (suc f) h =
      let lt : suc f < length tables.order = slice_get_within tables.order (suc f) (first_of 0) h in
      let at = at_place f (omega arith) in
      let le : suc f ≤ f = serial.extends (suc f) f (first_of 0) (strand_at tables.order f) h at (serial.attached f (strand_at tables.order f) at) in
      absurd (omega arith)

  -- where a place has a link up, that leads to the strand that spawned its task
  pub link_parent : (i p : ℕ) → i < length tables.order → up_from tables.links.items i ≡ Some p → (p < length tables.order) × IsParent (tasks_in rows) (task_at tables.order p) (task_at tables.order i)
  link_parent i p lt h =
      let t = task_at tables.order i in
      let f = parent_is i lt in
      linked f.0 f.1 (sym f.2 ∙ h) (spawned_at t (rooted_at i lt).rooted)
    where
      linked : (f : ℕ) → slice_get tables.order f ≡ Some (first_of (task_at tables.order i)) → place_before f ≡ Some p
          → (task_at tables.order i ≡ 0) ⊎ ((q k a : ℕ) × Does (tasks_in rows) q k (Spawn (task_at tables.order i)) × (slice_get tables.order a ≡ Some (strand q k)) × (slice_get tables.order (a + 1) ≡ Some (first_of (task_at tables.order i))))
          → (p < length tables.order) × IsParent (tasks_in rows) (task_at tables.order p) (task_at tables.order i)
      linked zero hf e o = none_some e
      linked (suc f) hf e (inl root) =
          let z : suc f ≡ 0 = root_first (suc f) (subst (λ x. slice_get tables.order (suc f) ≡ Some (first_of x)) root hf) in absurd (omega arith)
      linked (suc f) hf e (inr (q, k, a, sp, ha, hn)) =
          let same : f ≡ p = same_Some f p e in
          let next : suc f ≡ a + 1 = serial.once (suc f) (a + 1) (first_of (task_at tables.order i)) hf hn in
          let at : a ≡ p = omega arith in
          let hp : slice_get tables.order p ≡ Some (strand q k) = subst (λ x. slice_get tables.order x ≡ Some (strand q k)) at ha in
          let lt' : p < length tables.order = slice_get_within tables.order p (strand q k) hp in
          let is : strand q k ≡ strand_at tables.order p = same_Some (strand q k) (strand_at tables.order p) (sym hp ∙ at_place p lt') in
          (lt', (k, subst (λ x. Does (tasks_in rows) x k (Spawn (task_at tables.order i))) (ap (λ (x : GraphStrand). x.task) is) sp))

  -- where it has none, its task is the root
  pub link_root : (i : ℕ) → i < length tables.order → up_from tables.links.items i ≡ None → task_at tables.order i ≡ 0
  link_root i lt h =
      let f = parent_is i lt in
      unlinked f.0 f.1 (sym f.2 ∙ h) (spawned_at (task_at tables.order i) (rooted_at i lt).rooted)
    where
      unlinked : (f : ℕ) → slice_get tables.order f ≡ Some (first_of (task_at tables.order i)) → place_before f ≡ None
          → (task_at tables.order i ≡ 0) ⊎ ((q k a : ℕ) × Does (tasks_in rows) q k (Spawn (task_at tables.order i)) × (slice_get tables.order a ≡ Some (strand q k)) × (slice_get tables.order (a + 1) ≡ Some (first_of (task_at tables.order i))))
          → task_at tables.order i ≡ 0
      unlinked (suc f) hf e o = none_some (sym e)
      unlinked zero hf e (inl root) = root
      unlinked zero hf e (inr (q, k, a, sp, ha, hn)) =
          let next : 0 ≡ a + 1 = serial.once 0 (a + 1) (first_of (task_at tables.order i)) hf hn in absurd (omega arith)

  -- links lead to ancestors
  pub links_up : (k i j : ℕ) → i < length tables.order → ancestor (up_from tables.links.items) k i ≡ Some j → (j < length tables.order) × IsAncestor (tasks_in rows) (task_at tables.order j) (task_at tables.order i)
  links_up zero i j lt h =
      let same : i ≡ j = same_Some i j h in
      (subst (λ x. x < length tables.order) same lt, same_ancestor (tasks_in rows) (task_at tables.order j) (task_at tables.order i) (ap (task_at tables.order) same))
  links_up (suc k) i j lt h =
      let f = first_link (up_from tables.links.items) k i j h in
      let p = link_parent i f.0 lt f.1 in
      let more = links_up k f.0 j p.0 f.2 in
      (more.0, below (tasks_in rows) (task_at tables.order j) (task_at tables.order f.0) (task_at tables.order i) more.1 p.1)

  -- ONE STEP UP

  deep_by : (at target : ℕ) → at < length tables.order → target < length tables.order → (IsAncestor (tasks_in rows) (task_at tables.order at) (task_at tables.order target) → ⊥)
      → (o : Option ℕ) → up_from tables.links.items at ≡ o → (p : ℕ) × (o ≡ Some p)
  deep_by at target lt lt' apart None e =
      absurd (apart (subst (λ x. IsAncestor (tasks_in rows) x (task_at tables.order target)) (sym (link_root at lt e)) (rooted_at target lt').rooted))
  deep_by at target lt lt' apart (Some p) e = (p, refl)

  -- a place whose task isn't above another has a link up
  pub has_link : (at target : ℕ) → at < length tables.order → target < length tables.order → (IsAncestor (tasks_in rows) (task_at tables.order at) (task_at tables.order target) → ⊥)
      → (p : ℕ) × (up_from tables.links.items at ≡ Some p)
  has_link at target lt lt' apart = deep_by at target lt lt' apart (up_from tables.links.items at) refl

  linked_there : (at : ℕ) → at < length tables.order → at < length tables.links.items
  linked_there at lt = subst (λ n. at < n) (sym w.links.size) lt

  pub far_there : (at : ℕ) → at < length tables.order → far_at tables.links.items at < length tables.order
  far_there at lt =
      let low : far_at tables.links.items at ≤ at = w.links.linked.far_low at (linked_there at lt) in
      omega arith

  pub parent_up : (at target p : ℕ) → at < length tables.order → up_from tables.links.items at ≡ Some p
      → (IsAncestor (tasks_in rows) (task_at tables.order p) (task_at tables.order target) → ⊥) → IsNextUp rows tables at target p
  parent_up at target p lt h apart =
      let up = link_parent at p lt h in
      let deeper : depth_at tables.links.items at ≡ depth_at tables.links.items p + 1 = w.links.linked.deeper at p h in
      record {
        there = up.0;
        higher = omega arith;
        above = (1, (task_at tables.order p, refl, up.1));
        apart = apart;
      }

  pub far_up : (at target : ℕ) → at < length tables.order → target < length tables.order → (IsAncestor (tasks_in rows) (task_at tables.order at) (task_at tables.order target) → ⊥)
      → (IsAncestor (tasks_in rows) (task_at tables.order (far_at tables.links.items at)) (task_at tables.order target) → ⊥) → IsNextUp rows tables at target (far_at tables.links.items at)
  far_up at target lt lt' apart far_apart =
      let p = has_link at target lt lt' apart in
      let deeper : depth_at tables.links.items at ≡ depth_at tables.links.items p.0 + 1 = w.links.linked.deeper at p.0 p.1 in
      let up = links_up (depth_at tables.links.items at - depth_at tables.links.items (far_at tables.links.items at)) at (far_at tables.links.items at) lt
      (w.links.linked.far_up at (linked_there at lt)) in
      record {
        there = up.0;
        higher = w.links.linked.far_rises at (linked_there at lt) (omega arith);
        above = up.1;
        apart = far_apart;
      }

  -- WHAT THE TOP TELLS

  -- where the strand's own task is above the other's
  pub own_tells : (i j : ℕ) → i < length tables.order → j < length tables.order → IsAncestor (tasks_in rows) (task_at tables.order i) (task_at tables.order j)
      → (StrandPrecedes (tasks_in rows) (strand_at tables.order i) (strand_at tables.order j) ↔ (i ≤ j))
  own_tells i j lt lt' up = tells.own (task_at tables.order i) (strand_at tables.order i).index i j (strand_at tables.order j) up (at_place i lt) (at_place j lt')

  -- the place that is noted for a task is of the strand that follows its join
  after_join : (top p a : ℕ) → top < length tables.order → up_from tables.links.items top ≡ Some p → slice_get tables.afters (task_at tables.order top) ≡ Some a
      → (j : ℕ) × Does (tasks_in rows) (task_at tables.order p) j (Join (task_at tables.order top)) × (slice_get tables.order a ≡ Some (strand (task_at tables.order p) (j + 1)))
  after_join top p a there link has =
      let c = task_at tables.order top in
      let q = task_at tables.order p in
      let up = link_parent top p there link in
      let join = w.nested.all_joined c q up.1.0 up.1.1 in
      let within : join.0 < length (tasks_in rows q) = slice_get_within (tasks_in rows q) join.0 (Join c) join.1 in
      let next = place_there (strand q (join.0 + 1)) (record { stands = omega arith; rooted = (rooted_at p up.0).rooted }) in
      let noted : slice_get tables.afters c ≡ Some next.0 =
      w.afters.at next.0 c (strand q (join.0 + 1)) (slice_get_within tables.order next.0 (strand q (join.0 + 1)) next.1) next.1
      (joined_mark (tasks_in rows) q join.0 c join.1) (task_below top there) in
      let same : next.0 ≡ a = same_Some next.0 a (sym noted ∙ has) in
      (join.0, join.1, subst (λ x. slice_get tables.order x ≡ Some (strand q (join.0 + 1))) same next.1)

  pub after_within : (top a : ℕ) → top < length tables.order → (p : ℕ) → up_from tables.links.items top ≡ Some p → slice_get tables.afters (task_at tables.order top) ≡ Some a → a < length tables.order
  after_within top a there p link has =
      let join = after_join top p a there link has in
      slice_get_within tables.order a (strand (task_at tables.order p) (join.0 + 1)) join.2

  -- where a task above the strand's isn't above the other's, and its parent is
  pub top_tells : (i j top a : ℕ) → i < length tables.order → j < length tables.order → top < length tables.order → IsTop rows tables top j
      → IsAncestor (tasks_in rows) (task_at tables.order top) (task_at tables.order i)
      → (IsAncestor (tasks_in rows) (task_at tables.order top) (task_at tables.order j) → ⊥)
      → slice_get tables.afters (task_at tables.order top) ≡ Some a
      → (StrandPrecedes (tasks_in rows) (strand_at tables.order i) (strand_at tables.order j) ↔ (a ≤ j))
  top_tells i j top a lt lt' there t above apart has =
      let c = task_at tables.order top in
      let q = task_at tables.order t.parent in
      let join = after_join top t.parent a there t.linked has in
      tells.left q join.0 c a j (strand_at tables.order i) (strand_at tables.order j) above join.1 t.over apart i (at_place i lt) join.2 (at_place j lt')

  -- THE WAY INTO A COMMON ANCESTOR

  -- the strand's own task is above the other's
  pub own_exit : (i j : ℕ) → i < length tables.order → IsAncestor (tasks_in rows) (task_at tables.order i) (task_at tables.order j) → IsExitAt (tasks_in rows) tables.order i j i
  own_exit i j lt up = record {
    task = task_at tables.order i;
    index = (strand_at tables.order i).index;
    lowest = record { above_first = itself (tasks_in rows) (task_at tables.order i); above_second = up; lowest = λ p here there. here };
    exit = inl (refl, refl);
    at = at_place i lt;
  }

  -- what is above both a task below child c of q, and one that isn't, is above q
  above_both : (q c p a b : ℕ) → IsParent (tasks_in rows) q c → IsAncestor (tasks_in rows) c a → (IsAncestor (tasks_in rows) c b → ⊥)
      → IsAncestor (tasks_in rows) p a → IsAncestor (tasks_in rows) p b → IsAncestor (tasks_in rows) p q
  above_both q c p a b parent up apart pa pb =
      elim (one_line (tasks_in rows) w.nested.fork_join p c a pa up) [
        | inr over ↦ absurd (apart (through (tasks_in rows) c p b over pb))
        | inl over ↦ parent_line (tasks_in rows) w.nested.fork_join p q c (λ same. apart (subst (λ x. IsAncestor (tasks_in rows) x b) (sym same) pb)) parent over
      ]

  -- a child of the ancestor is above the strand's task, and not above the other's
  pub top_exit : (i j top a : ℕ) → top < length tables.order → IsTop rows tables top j
      → IsAncestor (tasks_in rows) (task_at tables.order top) (task_at tables.order i)
      → (IsAncestor (tasks_in rows) (task_at tables.order top) (task_at tables.order j) → ⊥)
      → slice_get tables.afters (task_at tables.order top) ≡ Some a → IsExitAt (tasks_in rows) tables.order i j a
  top_exit i j top a there t above apart has =
      let c = task_at tables.order top in
      let q = task_at tables.order t.parent in
      let up = link_parent top t.parent there t.linked in
      let join = after_join top t.parent a there t.linked has in
      record {
        task = q;
        index = join.0 + 1;
        lowest = record {
          above_first = child_above (tasks_in rows) q c (task_at tables.order i) up.1 above;
          above_second = t.over;
          lowest = λ p here there'. above_both q c p (task_at tables.order i) (task_at tables.order j) up.1 above apart here there';
        };
        exit = inr (c, join.0, above, join.1, refl);
        at = join.2;
      }

  -- HOW DEEP A TASK IS

  depth_at_link : (i : ℕ) → i < length tables.order → ((p : ℕ) → p < i → p < length tables.order → IsDepthAt (tasks_in rows) tables.order p (depth_at tables.links.items p))
      → (o : Option ℕ) → up_from tables.links.items i ≡ o → IsDepthAt (tasks_in rows) tables.order i (depth_at tables.links.items i)
  depth_at_link i lt again None e =
      subst (λ d. IsLine (tasks_in rows) 0 d (task_at tables.order i)) (sym (w.links.linked.top i (linked_there i lt) e)) (link_root i lt e)
  depth_at_link i lt again (Some p) e =
      let up = link_parent i p lt e in
      subst (λ d. IsLine (tasks_in rows) 0 d (task_at tables.order i)) (sym (w.links.linked.deeper i p e ∙ add-one (depth_at tables.links.items p)))
      (task_at tables.order p, again p (w.links.linked.low i p e) up.0, up.1)

  depth_by : (most i : ℕ) → i < most → i < length tables.order → IsDepthAt (tasks_in rows) tables.order i (depth_at tables.links.items i)
  depth_by zero i less lt = absurd (omega arith)
  depth_by (suc most) i less lt = depth_at_link i lt (λ p low there. depth_by most p (omega arith) there) (up_from tables.links.items i) refl

  pub depth_is : (i : ℕ) → i < length tables.order → IsDepthAt (tasks_in rows) tables.order i (depth_at tables.links.items i)
  depth_is i lt = depth_by (suc i) i (omega arith) lt

  pub depth_small : (i : ℕ) → i < length tables.order → depth_at tables.links.items i < 2 ^ 32
  depth_small i lt =
      let less : depth_at tables.links.items i < length rows = line_short rows w.nested.fork_join w.some w.below (depth_at tables.links.items i) (task_at tables.order i) (depth_is i lt) in
      let most : length rows ≤ 2 ^ 32 = w.small.tasks in
      omega arith

  pub after_there : (top : ℕ) → top < length tables.order → (a : ℕ) × (slice_get tables.afters (task_at tables.order top) ≡ Some a)
  after_there top lt = got_some tables.afters (task_at tables.order top) (subst (λ n. task_at tables.order top < n) (sym w.afters.size) (task_below top lt))

  -- THE TABLES

  pub strand_is_at : (i : ℕ) (u : GraphStrand) → slice_get tables.order i ≡ Some u → strand_at tables.order i ≡ u
  strand_is_at i u h = get_or_from_slice_get tables.order i u (strand 0 0) h

  pub noted_task : (i : ℕ) (u : GraphStrand) → slice_get tables.order i ≡ Some u → u.task < length rows
  noted_task i u h = subst (λ (x : GraphStrand). x.task < length rows) (strand_is_at i u h) (task_below i (slice_get_within tables.order i u h))

  pub above_tells : (i j f l : ℕ) (u : GraphStrand) → i < length tables.order → j < length tables.order → slice_get tables.order i ≡ Some u
      → slice_get tables.firsts u.task ≡ Some f → slice_get tables.lasts u.task ≡ Some l
      → (((f ≤ j) × (j ≤ l)) ↔ IsAncestor (tasks_in rows) (task_at tables.order i) (task_at tables.order j))
  above_tells i j f l u lt lt' h hf hl =
      let is = strand_is_at i u h in
      let both = above_by i j f l lt lt'
      (ap (λ (x : GraphStrand). slice_get tables.firsts x.task) is ∙ hf) (ap (λ (x : GraphStrand). slice_get tables.lasts x.task) is ∙ hl) in
      (both.1, both.0)
