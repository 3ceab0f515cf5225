-- The nest of a parallel loop: the frames that run it.
use Rattle.std.specs.Prelude.{◌≡◌, ℕ, zero, suc, ◌⊎◌, List}
use Rattle.loop_nest_laws.specs.Common.{Instr, Call, Par, ProgramText, Loop}
use Rattle.loop_nest_laws.specs.Frames.{Activation, Takes, left_frame, right_frame, called_frame}

module _ (p : ProgramText) (limit : ℕ) (ts : List ℕ) (loop : Loop) where
  -- what a frame of a nest begins in it by an instruction: the first frames of both halves by a fork, and the loop's
  -- frame by the call of a half. Frames of the body, and what they begin, don't belong to the nest
  abbrev pub Starts : Activation → ℕ → Instr → Activation → Type 0
  Starts a i (Par g h) b = ((g ≡ loop.left) × (b ≡ left_frame p limit ts i)) ⊎ ((h ≡ loop.right) × (b ≡ right_frame p limit ts i))
  Starts a i (Call g) b = (g ≡ loop.whole) × (b ≡ called_frame a i)
  Starts a i _ b = ⊥

  abbrev pub Begins : Activation → Activation → Type 0
  Begins a b = (i : ℕ) × (w : Takes p limit ts a i) × Starts a i w.line.instr b

  -- the second frame comes from the first one by n beginnings
  abbrev pub ComesBy : ℕ → Activation → Activation → Type 0
  ComesBy zero a b = b ≡ a
  ComesBy (suc n) a b = (c : Activation) × Begins a c × ComesBy n c b

  -- THE NEST of a frame: itself, what it begins, what these begin, and so on
  abbrev pub InNest : Activation → Activation → Type 0
  InNest a b = (n : ℕ) × ComesBy n a b

  -- the step after the first i is a call of the body by a frame of the nest
  pub record CallsBody (a : Activation) (i : ℕ) : Type 0 where
    pub frame : Activation
    pub within : InNest a frame
    pub takes : Takes p limit ts frame i
    pub calls : takes.line.instr ≡ Call loop.body

  -- it is a fork by a frame of the nest
  pub record ForksIn (a : Activation) (i : ℕ) : Type 0 where
    pub frame : Activation
    pub within : InNest a frame
    pub takes : Takes p limit ts frame i
    pub left : ℕ
    pub right : ℕ
    pub forks : takes.line.instr ≡ Par left right
