-- The memory before any entry: the root is ready, with one frame, and nothing else is there.
use Rattle.std.specs.Prelude.{ℕ, zero, suc, pos, false, Option, Some, None, [], ◌∷◌, replicate}
use Rattle.refinement_laws.specs.Common.{ProgramText, Belongings, no_belongings, Memory}

abbrev pub first_belongings : ProgramText → ℕ → Belongings
first_belongings p zero = record no_belongings { frames = record { function = p.main; next = 0; ints = replicate 16 (pos 0); refs = replicate 16 None } ∷ [] }
first_belongings p (suc t) = no_belongings

abbrev pub first : ProgramText → Memory
first p = record {
  belongings = first_belongings p;
  noted = λ u. record { sources = []; kept = []; keeps = false; marked = None };
  owner = λ k. None;
}
