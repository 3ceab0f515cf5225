use Rattle.log_places.proofs.Common.{◌≡◌, ◌≤◌, ◌+◌, ℕ, Some, length, drop, nat_eq, slice_get, get, PageKey, next_page}
use Rattle.log_places.proofs.links.links_of.Given as goal

abbrev pub invariant-loop-place : goal.invariant-loop-place
invariant-loop-place l = record {
  within : l.place ≤ length l.known.keys;
  heads : (b : ℕ) → get nat_eq l.heads b ≡ next_page b l.place (drop l.place l.known.keys);
  size : length l.nexts ≡ length l.known.keys;
  nexts : (k : ℕ) (x : PageKey) → l.place ≤ k → slice_get l.known.keys k ≡ Some x → slice_get l.nexts k ≡ Some (next_page x.block (k + 1) (drop (k + 1) l.known.keys));
}

abbrev pub decreases-loop-place : goal.decreases-loop-place
decreases-loop-place l = l.place
