use Rattle.log_sites.proofs.Common.{◌≡◌, ℕ, length, lines_in, or_name, first_name, name_of}
use Rattle.log_sites.proofs.names.SiteNames.take_text.Given as goal

abbrev pub invariant-lines : goal.invariant-lines
invariant-lines l = (s : ℕ) → or_name (name_of l.self s) (first_name s (lines_in l.left)) ≡ or_name (name_of l.fn.self s) (first_name s (lines_in l.fn.text))

abbrev pub decreases-lines : goal.decreases-lines
decreases-lines l = length l.left
