-- Along the locations of a race.
use Rattle.log_json.proofs.Common.{◌≡◌, ◌∙◌, ◌<◌, ◌≤◌, ◌+◌, ◌-◌, ℕ, suc, List, ◌++◌, ap, sym, arith, append_assoc, append-nil, ToldRace, Names, location_piece, pieces_from}

module _ (names : Names) (r : ToldRace) where
  pub pieces_next : (x end : ℕ) (text more : List ℕ) → x < end → more ≡ text ++ location_piece names r x → more ++ pieces_from names r (x + 1) (end - (x + 1)) ≡ text ++ pieces_from names r x (end - x)
  pieces_next x end text more lt e =
      let n : suc (end - (x + 1)) ≡ end - x = omega arith in
      ap (λ (t : List ℕ). t ++ pieces_from names r (x + 1) (end - (x + 1))) e
      ∙ append_assoc text (location_piece names r x) (pieces_from names r (x + 1) (end - (x + 1)))
      ∙ ap (λ (k : ℕ). text ++ pieces_from names r x k) n
