-- Strands of the graph, and what acts of the log stand on them.
use Rattle.log_births.proofs.Common.{◌≡◌, ◌<◌, ◌∙◌, ℕ, true, false, List, length, refl, sym, ap, subst, Option, Some, None, slice_get, arith, IsStrictlyIncreasing, slice_get_within, get_or_from_slice_get, GraphStrand, tasks_in, strand, IsSerialOrder, serial_order_extends, levels_are_few, strand_at, WalkValue, IsWalked, LogTasks, log_strand, known_of, one_place, is_up_to, is_known, Act, Event, event, DoesToBlockAt, DoesToBlock}

-- the order of a walk is a serial one
pub walk_is_serial : (walk : WalkValue) → IsWalked walk → IsSerialOrder (tasks_in walk.tasks) walk.order
walk_is_serial walk walked =
    subst (IsSerialOrder (tasks_in walk.tasks)) (sym walked.order)
    (serial_order_extends (tasks_in walk.tasks) (length walk.tasks) walked.nested (levels_are_few (tasks_in walk.tasks) (length walk.tasks) walked.nested.fork_join walked.some walked.below))

up_to_some : (i : ℕ) (o : Option ℕ) → is_up_to i o ≡ true → (k : ℕ) × (o ≡ Some k)
up_to_some i None e = absurd (let z : false ≡ true = e in cc)
up_to_some i (Some k) e = (k, refl)

module _ (tasks : LogTasks) (up : IsStrictlyIncreasing tasks.numbers) (size : length tasks.known ≡ length tasks.numbers) where
  task_is_known : (u : GraphStrand) → is_known tasks u ≡ true → u.task < length tasks.numbers
  task_is_known u e = let known = up_to_some u.index (known_of tasks u.task) e in let lt = slice_get_within tasks.known u.task known.0 known.1 in omega (arith, lt, size)

  -- known strands that the log has as one are one
  pub one_strand : (u v : GraphStrand) → is_known tasks u ≡ true → is_known tasks v ≡ true → log_strand tasks.numbers u ≡ log_strand tasks.numbers v → u ≡ v
  one_strand u v ku kv same =
      let task : u.task ≡ v.task = one_place tasks.numbers up u.task v.task (task_is_known u ku) (task_is_known v kv) (ap (λ (w : GraphStrand). w.task) same) in
      let index : u.index ≡ v.index = ap (λ (w : GraphStrand). w.index) same in
      ap (λ (t : ℕ). strand t u.index) task ∙ ap (strand v.task) index

module _ (does : Act → Option ℕ) (tasks : LogTasks) (order : List GraphStrand) (events : List Event) (serial : IsSerialOrder (tasks_in tasks.turns) order) (b n : ℕ) where
  -- what a strand does stands at its place
  pub done_at : (u : GraphStrand) → DoesToBlock does events tasks b n u → (p : ℕ) × (slice_get order p ≡ Some u) × DoesToBlockAt does tasks order events b n p
  done_at u d = let all = serial.all u d.attached in
      (all.0, all.1, record { event = event (log_strand tasks.numbers u) d.act; at = d.at; block = d.block; stands = record { strand = u; at = all.1; known = d.known; is = refl } })

  -- and what stands at a place is done by its strand
  pub at_done : (p : ℕ) (d : DoesToBlockAt does tasks order events b n p) → DoesToBlock does events tasks b n d.stands.strand
  at_done p d = record {
    act = d.event.act;
    at = d.at ∙ ap (λ (s : GraphStrand). Some (event s d.event.act)) (sym d.stands.is);
    block = d.block;
    known = d.stands.known;
    attached = serial.attached p d.stands.strand d.stands.at;
  }

  pub strand_is : (p : ℕ) (d : DoesToBlockAt does tasks order events b n p) → strand_at order p ≡ d.stands.strand
  strand_is p d = get_or_from_slice_get order p d.stands.strand (strand 0 0) d.stands.at
