use Rattle.log_sites.proofs.Common.{◌≡◌, ℕ, or_name, first_name, name_of, site_name}
use Rattle.log_sites.proofs.Known.{lines_from}
use Rattle.log_sites.proofs.names.site_names.Given as goal

abbrev pub invariant-loop-text : goal.invariant-loop-text
invariant-loop-text l = (s : ℕ) → or_name (name_of l.names s) (first_name s (lines_from l.texts l.text-index)) ≡ site_name l.texts s
