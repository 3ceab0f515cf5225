-- What a program is.
use Rattle.std.specs.Prelude.{◌≡◌, ℕ, ◌<◌, ◌≤◌, ◌^◌, List, [], ◌∷◌, Option, Some, None, length, slice_get, All, IsSomeAnd, codes}
use Rattle.hh_lang.specs.declared.instr.Instr.{Instr}
use Rattle.hh_lang.specs.declared.instr.Instr.TheVariants.{Pack, Jmp, Jz, Call, Par, Ret}
use Rattle.hh_lang.specs.declared.program.Line.{Line}
use Rattle.hh_lang.specs.declared.program.Fun.{Fun}

-- functions, and the number of `main`
pub record ProgramText : Type 0 where
  pub functions : List Fun
  pub main : ℕ

-- the places, functions and registers that an instruction names exist, of the given numbers of places and functions; a
-- `pack` takes at most 16 registers of each kind
abbrev pub NamesExist : ℕ → ℕ → Instr → Type 0
NamesExist functions places (Pack d references numbers) = (references ≤ 16) × (numbers ≤ 16)
NamesExist functions places (Jmp to) = to < places
NamesExist functions places (Jz a to) = to < places
NamesExist functions places (Call f) = f < functions
NamesExist functions places (Par f g) = (f < functions) × (g < functions)
NamesExist functions places _ = Unit {0}

abbrev pub IsReturn : Instr → Type 0
IsReturn Ret = Unit {0}
IsReturn _ = ⊥

-- the last instruction is a return
abbrev pub EndsWithReturn : List Line → Type 0
EndsWithReturn [] = ⊥
EndsWithReturn (l ∷ []) = IsReturn l.instr
EndsWithReturn (l ∷ m ∷ ls) = EndsWithReturn (m ∷ ls)

-- one function of a program with this many; its places fit in 32 bits
pub record IsFunction (functions : ℕ) (f : Fun) : Type 0 where
  pub sized : length f.code < 2 ^ 32
  pub names : All (λ l. NamesExist functions (length f.code) l.instr) f.code
  pub ends : EndsWithReturn f.code

-- every index is in range, every function ends with a return, and there is a main
pub record IsProgram (p : ProgramText) : Type 0 where
  pub sized : length p.functions < 2 ^ 32
  pub each : All (IsFunction (length p.functions)) p.functions
  pub main : IsSomeAnd (slice_get p.functions p.main) (λ f. f.name ≡ codes "main")

abbrev pub code_of : Option Fun → List Line
code_of None = []
code_of (Some f) = f.code

-- the line at a place of a function's code
abbrev pub line_at : ProgramText → ℕ → ℕ → Option Line
line_at p function place = slice_get (code_of (slice_get p.functions function)) place
