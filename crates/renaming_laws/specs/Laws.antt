-- The laws of renamings.
use Rattle.std.specs.Prelude.{◌≡◌, ℕ, ◌+◌, ◌-◌, ◌≤◌, true, List, length, map, if◌then◌else◌, nat_lt}
use Rattle.hh_lang.specs.Form.{ProgramText}
use Rattle.hh_model.specs.Step.{run, run_from, step}
use Rattle.renaming_laws.specs.Renaming.{IsRenaming}
use Rattle.renaming_laws.specs.Alike.{AreRenamed}

-- the children n, n + 1 of one fork and n + 2, n + 3 of the next one, exchanged
abbrev pub swap : ℕ → ℕ → ℕ
swap n t = if nat_lt t n then t else (if nat_lt t (n + 2) then t + 2 else (if nat_lt t (n + 4) then t - 2 else t))

-- NUMBERS OF TASKS MEAN NOTHING

-- two runs of a program that are alike stay alike when both take the same further steps, renamed in the second run
abbrev pub RunsAreCarried : Type 0
RunsAreCarried =
    (p : ProgramText) (n limit : ℕ) (f g : ℕ → ℕ) (ts us more : List ℕ)
    → let m = run p limit ts in
    let m' = run p limit us in
    IsRenaming n f g → n ≤ length m.tasks → AreRenamed f m m' → AreRenamed f (run_from p m more) (run_from p m' (map f more))
