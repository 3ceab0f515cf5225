-- What is shown of the text of a program: all its faults, or that it is too long to be one.
use Rattle.std.specs.Prelude.{ℕ, Bool, List, Result, Ok, Err}
use Rattle.view_core.specs.Common.{TextFault, Source, RepliesRefusal, shown_faults, Done, Reply, Says}

abbrev pub SaysFaults : Result (List ℕ) TextFault → Reply → Type 0
SaysFaults (Ok shown) = Says Done shown
SaysFaults (Err fault) = RepliesRefusal (Source fault)

abbrev pub ShowsFaults : Bool → List ℕ → Reply → Type 0
ShowsFaults json text = SaysFaults (shown_faults json text)
