-- What is reachable now of a heap that waits.
use Rattle.std.specs.Prelude.{◌≡◌, ◌⊎◌, ◌↔◌, ℕ, true, Some, slice_get}
use Rattle.refinement_laws.specs.Common.{IsReached, Addr, Located, Ledger, CallFrame, In, Memory, HoldsAt, IsRememberedRoot, LeadsAt, kept}

-- walks start at an object that a register or a root names, or that was kept
abbrev pub StartsNow : Memory → Ledger → ℕ → Addr → Type 0
StartsNow v l t a = (o : Located) × HoldsAt (v.belongings t) a o × (((f : CallFrame) × In (v.belongings t).frames f × In f.refs (Some a)) ⊎ (IsRememberedRoot v l t a ⊎ In (kept v t) a))

abbrev pub IsReachedNow : Memory → Ledger → ℕ → Addr → Type 0
IsReachedNow v l t a = IsReached (StartsNow v l t) (LeadsAt (v.belongings t)) a
