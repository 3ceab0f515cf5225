-- The next line of a part whose step works on an object that another task owns: the object, and what the step does with
-- it.
use Rattle.remote_access.proofs.Common.{◌≡◌, ℕ, ◌<◌, not, true, Option, Some, None, List, length, slice_get, is_some, refl, ap, ap₂, sym, subst, ◌∙◌, IsSome, false≢true, same_Some, none_some, Instr, Getr, Geti, Putr, Puti, Cntr, Cnti, Freeze, Cas, Line, line_at, Frame as ModelFrame, Name, MachineState, Task, ref_in, fetched, Ledger, owns, task_steps, touched, Addr, Cell, cell_of, object_of, slot_at, owner_of as pool_owner, CallFrame, ref_of, PointsIntoOwned, own, rested, Memory, with_belongings, LiesWithOwner, name_at, Private, born_is, born_object, SharedValue, accounts, rest_at, value_of, IsSharedValue, WorkerPartFits, belongings_of_part, next_line, ParkedTask, owner_held, IsShared, machine_same, IsOther, IsReadable, SaysOther, TellsOther, is_other, is_other_by, is_other_line, object_named, other_step, then_places, OtherStep}
use Rattle.std.proofs.lemmas.Bool.{eq-eqb}
use Rattle.step_commit.specs.below.hh_model.{owner_of}
use Rattle.step_commit.proofs.below.core_invariant.PartFitsMachine as link
use Rattle.remote_access.proofs.ForeignObject.{IsForeign, frame, in_register, x}
use Rattle.remote_access.proofs.TreePaths.{made_there}
use Rattle.remote_access.proofs.OtherSteps.{says_other}

-- THE OBJECT REGISTER of an instruction that works on an object
pub record HasRegister (f : ModelFrame) (i : Instr) (n : Name) : Type 0 where
  pub register : ℕ
  pub holds : ref_in f register ≡ Some n
  pub at : (g : CallFrame) → object_named g i ≡ ref_of g register

register_of : (f : ModelFrame) (i : Instr) (n : Name) → touched f i ≡ Some n → HasRegister f i n
register_of f (Getr d o k) n e = record { register = o; holds = e; at = λ g. refl }
register_of f (Geti d o k) n e = record { register = o; holds = e; at = λ g. refl }
register_of f (Putr o k v) n e = record { register = o; holds = e; at = λ g. refl }
register_of f (Puti o k v) n e = record { register = o; holds = e; at = λ g. refl }
register_of f (Cntr d o) n e = record { register = o; holds = e; at = λ g. refl }
register_of f (Cnti d o) n e = record { register = o; holds = e; at = λ g. refl }
register_of f (Freeze o) n e = record { register = o; holds = e; at = λ g. refl }
register_of f (Cas d o k v b) n e = record { register = o; holds = e; at = λ g. refl }
register_of f _ n e = none_some e

-- a name that another task owns
pub record Touches (tasks : List Task) (t : ℕ) (f : ModelFrame) (i : Instr) : Type 0 where
  pub name : Name
  pub touches : touched f i ≡ Some name
  pub apart : owner_of tasks name.task ≡ t → ⊥

touches_by : (tasks : List Task) (t : ℕ) (f : ModelFrame) (i : Instr) (o : Option Name) → touched f i ≡ o → not (owns tasks t o) ≡ true → Touches tasks t f i
touches_by tasks t f i None e h = absurd (false≢true h)
touches_by tasks t f i (Some n) e h = record { name = n; touches = e; apart = λ q. false≢true (sym (ap not (eq-eqb (owner_of tasks n.task) t q)) ∙ h) }

module _ (w : SharedValue) (k : ℕ) (p : Private) (I : IsSharedValue w) (F : WorkerPartFits w k p) (shared : IsShared w p) (other : IsOther w p) (on : (accounts w).end ≡ None) where
  abbrev pub t : ℕ
  t = p.task

  abbrev pub l : Ledger
  l = accounts w

  abbrev pub v' : Memory
  v' = with_belongings (value_of w) t (belongings_of_part p)

  abbrev pub M : Ledger
  M = task_steps w.program l t p.fresh

  abbrev pub L : Ledger
  L = rested M t

  abbrev pub X : Task
  X = x w k p I F on

  machine_is : L.machine ≡ M.machine
  machine_is = link.machine_is w k p I F on

  -- a task that owns a chunk exists
  pub owned : (b : ℕ) (u : ℕ) → pool_owner w.pool b ≡ Some u → u < length w.tree
  owned b u e = made_there w I on u (sym ((link.alone w k p I F on).tree.made u) ∙ (link.W w k p I F on).made b u e)

  pub in_use : (b : ℕ) (u : ℕ) → pool_owner w.pool b ≡ Some u → IsSome (slot_at w.pool b)
  in_use b u e = owner_held w.pool b u e

  pub reader_there : t < length w.tree
  reader_there = made_there w I on t (ap is_some F.fits.is)

  module _ (line : Line) (next : next_line w.program p ≡ Some line) where
    line_is_fetched : fetched w.program X.top ≡ Some line
    line_is_fetched = let f = frame w k p I F on in ap₂ (line_at w.program) (sym f.function) (sym f.next) ∙ next

    pub touches : Touches M.machine.tasks t X.top line.instr
    touches =
        touches_by M.machine.tasks t X.top line.instr (touched X.top line.instr) refl
        (ap (λ o. is_other_line M.machine t X o) (sym line_is_fetched)
        ∙ (ap (is_other_by w.program M.machine t) (sym (link.A w k p I F on).is)
        ∙ (ap (λ (m : MachineState). is_other w.program m t) (sym (machine_same w k p I F on)) ∙ other)))

    abbrev pub n : Name
    n = touches.name

    pub register : HasRegister X.top line.instr n
    register = register_of X.top line.instr n touches.touches

    apart : own L n ≡ t → ⊥
    apart e = touches.apart (ap (λ (m : MachineState). owner_of m.tasks n.task) (sym machine_is) ∙ e)

    pub object : (a : Addr) × (ref_of p.frames.top register.register ≡ Some a) × IsForeign w v' L t n a
    object = in_register w k p I F on register.register n register.holds apart

    -- THE OBJECT, and the task in whose heap it is
    abbrev pub address : Addr
    address = object.0

    abbrev pub foreign : IsForeign w v' L t n address
    foreign = object.2

    abbrev pub owner : ℕ
    owner = own L n

    pub named : object_named p.frames.top line.instr ≡ Some address
    named = register.at p.frames.top ∙ object.1

    pub owner_is : pool_owner w.pool address.chunk ≡ Some owner
    owner_is = foreign.place.chunk

    pub object_is : object_of foreign.rest.heap.chunks address ≡ cell_of foreign.rest.heap.chunks address
    object_is = born_object foreign.rest.heap.chunks address foreign.birth foreign.mark

    pub readable : IsReadable (length w.tree) w.pool t foreign.rest.heap.chunks address
    readable = record {
      object = born_is (cell_of foreign.rest.heap.chunks address).mark foreign.birth foreign.mark;
      reader = reader_there;
      refs = λ i r e. readable_by_cases i r (ap (λ (c : Cell). slice_get c.refs i) (sym object_is) ∙ e);
    }
      where
        readable_by_cases : (i : ℕ) (r : Option Addr) → slice_get (cell_of foreign.rest.heap.chunks address).refs i ≡ Some r → PointsIntoOwned (length w.tree) w.pool r
        readable_by_cases i None e = tt
        readable_by_cases i (Some b) e =
            let y = name_at (LiesWithOwner v' L) (cell_of foreign.rest.heap.chunks address).refs foreign.object.refs i b foreign.refs e in
            (in_use b.chunk (own L y.0) y.2.chunk, λ u h. owned b.chunk u h)

    abbrev pub step_is : OtherStep
    step_is = other_step w.tree w.pool p address (object_of foreign.rest.heap.chunks address) line.instr

    says : SaysOther w.program (then_places w p) p L.machine t X line step_is
    says =
        subst (λ (c : Cell). SaysOther w.program (then_places w p) p L.machine t X line (other_step w.tree w.pool p address c line.instr)) (sym object_is)
        (says_other w k p I F on line line_is_fetched n address foreign touches.touches named)

    -- WHAT THE STEP DOES
    pub other_tells : TellsOther w p step_is line.number
    other_tells = record {
      task = X;
      line = line;
      is = (link.A w k p I F on).is;
      next = line_is_fetched;
      number_is = refl;
      says = subst (λ (m : MachineState). SaysOther w.program (then_places w p) p m t X line step_is) machine_is says;
    }

    -- as the call finds it
    module _ (a : Addr) (is : object_named p.frames.top line.instr ≡ Some a) where
      same_address : a ≡ address
      same_address = same_Some a address (sym is ∙ named)

      pub used_there : IsSome (slot_at w.pool a.chunk)
      used_there = in_use a.chunk owner (ap (λ (z : Addr). pool_owner w.pool z.chunk) same_address ∙ owner_is)

      module _ (u : ℕ) (owns : pool_owner w.pool a.chunk ≡ Some u) where
        same_owner : u ≡ owner
        same_owner = same_Some u owner (sym owns ∙ (ap (λ (z : Addr). pool_owner w.pool z.chunk) same_address ∙ owner_is))

        pub rest_is : rest_at w.rests u ≡ Some foreign.rest
        rest_is = ap (rest_at w.rests) same_owner ∙ foreign.there

        module _ (r : ParkedTask) (there : rest_at w.rests u ≡ Some r) where
          same_rest : r ≡ foreign.rest
          same_rest = same_Some r foreign.rest (sym there ∙ rest_is)

          pub can_read : IsReadable (length w.tree) w.pool t r.heap.chunks a
          can_read =
              subst (λ (z : ParkedTask). IsReadable (length w.tree) w.pool t z.heap.chunks a) (sym same_rest)
              (subst (λ (z : Addr). IsReadable (length w.tree) w.pool t foreign.rest.heap.chunks z) (sym same_address) readable)

          pub does_so : TellsOther w p (other_step w.tree w.pool p a (object_of r.heap.chunks a) line.instr) line.number
          does_so =
              subst (λ (z : ParkedTask). TellsOther w p (other_step w.tree w.pool p a (object_of z.heap.chunks a) line.instr) line.number) (sym same_rest)
              (subst (λ (z : Addr). TellsOther w p (other_step w.tree w.pool p z (object_of foreign.rest.heap.chunks z) line.instr) line.number) (sym same_address) other_tells)
