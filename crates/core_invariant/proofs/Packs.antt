-- In a program a pack takes few registers.
use Rattle.core_invariant.proofs.Common.{◌≡◌, ℕ, ◌≤◌, Option, Some, None, length, slice_get, refl, all_at, Instr, Pack, Fun, Line, IsFunction, IsProgram, NamesExist, ProgramText, code_of, line_at}

abbrev pub IsFew : Instr → Type 0
IsFew (Pack d r i) = (r ≤ 16) × (i ≤ 16)
IsFew _ = Unit {0}

abbrev pub PacksFew : ProgramText → Type 0
PacksFew p = (f place : ℕ) (line : Line) → line_at p f place ≡ Some line → IsFew line.instr

few_of : (functions places : ℕ) (i : Instr) → NamesExist functions places i → IsFew i
few_of functions places (Pack d r i) h = h
few_of functions places _ h = tt

pub packs_few : (p : ProgramText) → IsProgram p → PacksFew p
packs_few p I f place line at = packs_few_by_cases (slice_get p.functions f) refl at
  where
    packs_few_by_cases : (o : Option Fun) → slice_get p.functions f ≡ o → slice_get (code_of o) place ≡ Some line → IsFew line.instr
    packs_few_by_cases None is e = absurd cc
    packs_few_by_cases (Some fun) is e =
        let F : IsFunction (length p.functions) fun = all_at (IsFunction (length p.functions)) p.functions f fun I.each is in
        few_of (length p.functions) (length fun.code) line.instr (all_at (λ (l : Line). NamesExist (length p.functions) (length fun.code) l.instr) fun.code place line F.names e)
