-- What holds of every machine that has taken few steps.
use Rattle.std.proofs.Common.{◌≡◌, ℕ, ◌<◌, ◌^◌, List, Some, length, slice_get, ap, arith}
use Rattle.hh_model.specs.declared.data.Object.{Object}
use Rattle.hh_model.specs.Effect.{row_of}
use Rattle.hh_model.specs.Machine.{MachineValue, IsOfRun}
use Rattle.hh_model.proofs.Counts.{reached_sound}

pub few_objects : (g : MachineValue) (t : ℕ) (row : List Object) → IsOfRun g → g.steps < 2 ^ 30 → slice_get g.state.store t ≡ Some row → length row < 2 ^ 32
few_objects g t row reached few is =
    let h : length (row_of (slice_get g.state.store t)) < 2 ^ 32 = (reached_sound g reached few).few_objects t in
    let e = ap (λ o. length (row_of o)) is in
    omega arith
