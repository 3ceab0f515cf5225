-- The races of a log are those told.
use Rattle.told_race_laws.proofs.Common.{◌≡◌, ◌<◌, ◌+◌, ℕ, Some, List, length, slice_get, inl, inr, refl, ap, sym, subst, ◌∙◌, arith, ◌↔◌, le-leb, get_or_from_slice_get, In, flat_in, in_flat, got_in, IsSerialOrder, serial_order_extends, levels_are_few, up_cases, IsRooted, attached_rooted, rooted_attached, touches_at, touches_of, Covers, clash, access_of, touch_by, Touch, IsRacing, strand_of_access, WalkValue, IsWalked, ToldAccess, told_access, accesses_by, accesses_told, AreToldInOrder, graph_told, IsGraphTold, Extent, GraphStrand, HasStrand, IsAncestor, StrandPrecedes, TaskTurns, strand, tasks_in, Event, IsLog, LogTasks, log_strand, IsCutRun, turns_told, logs_tell_graphs, own_task, kept_strand, kept_above, kept_order, event_stands, IsUnreleased, IsToldRacing, LogRacesAreTold}
use Rattle.told_race_laws.proofs.Touches.{in_option, option_in, ComesFrom, strand_from, strand_in, all_from, all_in}

module _ (n : ℕ) (events : List Event) (extent : Extent) (log : LogTasks) (walk : WalkValue) (told : AreToldInOrder n events) (unreleased : IsUnreleased events) (cut : IsCutRun (turns_told events) n)
    (is : IsLog events extent log) (w : IsWalked walk) (same : walk.tasks ≡ log.turns) where
  abbrev T : TaskTurns
  T = turns_told events

  I : IsGraphTold events extent n log
  I = logs_tell_graphs n events extent log told is

  graph : tasks_in walk.tasks ≡ graph_told extent T
  graph = ap tasks_in same ∙ I.turns

  size : length walk.tasks ≡ n
  size = ap length same ∙ I.count

  O : IsSerialOrder (tasks_in walk.tasks) walk.order
  O =
      subst (IsSerialOrder (tasks_in walk.tasks)) (sym w.order)
      (serial_order_extends (tasks_in walk.tasks) (length walk.tasks) w.nested (levels_are_few (tasks_in walk.tasks) (length walk.tasks) w.nested.fork_join w.some w.below))

  order_told : (u v : GraphStrand) → HasStrand T v → StrandPrecedes T u v ↔ StrandPrecedes (tasks_in walk.tasks) u v
  order_told u v st = subst (λ tasks. StrandPrecedes T u v ↔ StrandPrecedes tasks u v) (sym graph) (kept_order extent T n cut u v st)

  few : (u : GraphStrand) → IsRooted (tasks_in walk.tasks) u → u.task < n
  few u r = elim (up_cases (tasks_in walk.tasks) 0 u.task r.rooted) [
    | inl e ↦ let s = w.some in let z = size in omega (arith, e, s, z)
    | inr up ↦ let lt = w.below up.0 up.2.0 u.task up.2.1 in let z = size in omega (arith, lt, z)
  ]

  -- where it is told
  named : (u : GraphStrand) → u.task < n → log_strand log.numbers u ≡ u
  named u lt = ap (λ t. strand t u.index) (I.numbers u.task lt)

  -- FROM A LOG'S ACCESS TO THE ONE TOLD

  abbrev Source : Touch → Type 0
  Source t = (k : ℕ) × (u : GraphStrand) × (slice_get walk.order k ≡ Some u) × ComesFrom events k u t

  source : (t : Touch) → In (touches_of events log walk.order) t → Source t
  source t i =
      let m = all_from events unreleased log 0 walk.order t i in
      let u = m.1 in
      let lt = few u (attached_rooted (tasks_in walk.tasks) w.nested.fork_join u (O.attached m.0 u m.2)) in
      (m.0, u, m.2, strand_from events unreleased log (length (T u.task)) u (I.known u.task lt) (named u lt) m.0 t (subst (λ j. In (touches_at events log u j) t) (let e : 0 + m.0 ≡ m.0 = omega arith in e) m.3))

  abbrev told_of : (t : Touch) → Source t → ToldAccess
  told_of t s = told_access s.3.event.strand s.3.access

  told_in : (t : Touch) (s : Source t) → In (accesses_told events) (told_of t s)
  told_in t s =
      let c = s.3 in
      in_flat (λ (e : Event). accesses_by e.strand e.act) events c.event (told_of t s) c.there (option_in (told_access c.event.strand) (access_of c.event.act) c.access c.by)

  by_strand : (t : Touch) (s : Source t) → strand_of_access walk t.access ≡ s.3.event.strand
  by_strand t s =
      let c = s.3 in
      ap (λ (x : Touch). strand_of_access walk x.access) (sym c.is) ∙ (get_or_from_slice_get walk.order s.0 s.1 (strand 0 0) s.2 ∙ sym c.on)

  stands : (t : Touch) (s : Source t) → HasStrand T s.3.event.strand
  stands t s = event_stands events s.3.event told.order s.3.there

  earlier : (t u : Touch) (s : Source t) (r : Source u) → StrandPrecedes T s.3.event.strand r.3.event.strand → StrandPrecedes (tasks_in walk.tasks) (strand_of_access walk t.access) (strand_of_access walk u.access)
  earlier t u s r h =
      subst (λ x. StrandPrecedes (tasks_in walk.tasks) x (strand_of_access walk u.access)) (sym (by_strand t s))
      (subst (λ x. StrandPrecedes (tasks_in walk.tasks) s.3.event.strand x) (sym (by_strand u r)) ((order_told s.3.event.strand r.3.event.strand (stands u r)).0 h))

  to_told : (block x : ℕ) → IsRacing walk (touches_of events log walk.order) block x → IsToldRacing events block x
  to_told block x (t, u, race) =
      let s = source t race.first in
      let r = source u race.second in (
        told_of t s,
        told_of u r,
        record {
          first = told_in t s;
          second = told_in u r;
          covers_first = subst (λ (z : Touch). Covers z.region block x) (sym s.3.is) race.covers_first;
          covers_second = subst (λ (z : Touch). Covers z.region block x) (sym r.3.is) race.covers_second;
          clashing = (λ i. clash (s.3.is i).access.kind (r.3.is i).access.kind) ∙ race.clashing;
          not_before = λ h. race.not_before (earlier t u s r h);
          not_after = λ h. race.not_after (earlier u t r s h);
        },
      )

  -- AND BACK

  pub record Seen (a : ToldAccess) : Type 0 where
    pub touch : Touch
    pub there : In (touches_of events log walk.order) touch
    pub region : touch.region ≡ a.access.region
    pub kind : touch.access.kind ≡ a.access.kind
    pub strand : strand_of_access walk touch.access ≡ a.strand
    pub stands : HasStrand T a.strand

  seen : (a : ToldAccess) → In (accesses_told events) a → Seen a
  seen a i =
      let f = flat_in (λ (e : Event). accesses_by e.strand e.act) events a i in
      let e = f.1 in
      let there = got_in events f.0 e f.2 in
      let o = in_option (told_access e.strand) (access_of e.act) a f.3 in
      let st : HasStrand T e.strand = event_stands events e told.order there in
      let lt : e.strand.task < n = (told.tasks e.strand.task).0 (own_task events e there) in
      let rooted : IsRooted (tasks_in walk.tasks) e.strand = record {
        stands = subst (λ tasks. HasStrand tasks e.strand) (sym graph) (kept_strand extent T e.strand st);
        rooted = subst (λ tasks. IsAncestor tasks 0 e.strand.task) (sym graph) (kept_above extent T e.strand.task (cut.reached e.strand.task lt));
      } in
      let k = O.all e.strand (rooted_attached (tasks_in walk.tasks) e.strand rooted) in
      let m = strand_in events unreleased log (length (T e.strand.task)) e.strand (I.known e.strand.task lt) (named e.strand lt) (le-leb e.strand.index (length (T e.strand.task)) st) k.0 e o.0 there refl o.1 in
      subst Seen o.2 (record {
        touch = touch_by k.0 m.0 o.0;
        there = all_in events unreleased log 0 walk.order k.0 e.strand (touch_by k.0 m.0 o.0) k.1 (subst (λ j. In (touches_at events log e.strand j) (touch_by k.0 m.0 o.0)) (let e : k.0 ≡ 0 + k.0 = omega arith in e) m.1);
        region = refl;
        kind = refl;
        strand = get_or_from_slice_get walk.order k.0 e.strand (strand 0 0) k.1;
        stands = st;
      })

  from_told : (block x : ℕ) → IsToldRacing events block x → IsRacing walk (touches_of events log walk.order) block x
  from_told block x (a, b, race) =
      let s = seen a race.first in
      let r = seen b race.second in (
        s.touch,
        r.touch,
        record {
          first = s.there;
          second = r.there;
          covers_first = subst (λ z. Covers z block x) (sym s.region) race.covers_first;
          covers_second = subst (λ z. Covers z block x) (sym r.region) race.covers_second;
          clashing = (λ i. clash (s.kind i) (r.kind i)) ∙ race.clashing;
          not_before = λ h. race.not_before ((order_told a.strand b.strand r.stands).1 (subst (λ z. StrandPrecedes (tasks_in walk.tasks) z b.strand) s.strand (subst (λ z. StrandPrecedes (tasks_in walk.tasks) (strand_of_access walk s.touch.access) z) r.strand h)));
          not_after = λ h. race.not_after ((order_told b.strand a.strand s.stands).1 (subst (λ z. StrandPrecedes (tasks_in walk.tasks) z a.strand) r.strand (subst (λ z. StrandPrecedes (tasks_in walk.tasks) (strand_of_access walk r.touch.access) z) s.strand h)));
        },
      )

pub log_races_are_told : LogRacesAreTold
log_races_are_told n events extent log walk told unreleased cut is w same block x =
    (to_told n events extent log walk told unreleased cut is w same block x, from_told n events extent log walk told unreleased cut is w same block x)
