-- Stretches of the locations of a page, and what marking a run does to them.
use Rattle.std.specs.Prelude.{◌<◌, ◌≤◌, ◌==◌, ◌&&◌, ℕ, Bool, true, List, [], ◌∷◌, ◌++◌, min, max, nat_lt, nat_le, if◌then◌else◌}
use Rattle.plain_vec.specs.Members.{In}
use Rattle.log_places.specs.declared.stretch.Stretch.{Stretch}

-- none is empty, and each begins no earlier than the one before it ends
abbrev pub Ascending : ℕ → List Stretch → Type 0
Ascending low [] = Unit {0}
Ascending low (s ∷ ss) = (low ≤ s.start) × (s.start < s.end) × Ascending s.end ss

-- the locations from a up to b as a stretch, if there are any
abbrev pub piece : ℕ → ℕ → List Stretch
piece a b = if nat_lt a b then record { start = a; end = b } ∷ [] else []

-- a stretch, cut at a and at b, behind those from a up to b that lie before it
abbrev pub pieces : ℕ → ℕ → Stretch → List Stretch
pieces a b s = piece a (min b s.start) ++ piece s.start (min a s.end) ++ piece (max a s.start) (min b s.end) ++ piece (max b s.start) s.end

-- where those from a up to b go on behind a stretch
abbrev pub rest_from : ℕ → ℕ → Stretch → ℕ
rest_from a b s = max a (min b s.end)

-- the stretches once those from a up to b are marked: they are cut at a and at b, and what lay in none of them is added
abbrev pub marked : ℕ → ℕ → List Stretch → List Stretch
marked a b [] = piece a b
marked a b (s ∷ ss) = pieces a b s ++ marked (rest_from a b s) b ss

-- whether those from a up to b are just the first of these stretches
abbrev pub tiles : ℕ → ℕ → List Stretch → Bool
tiles a b [] = nat_le b a
tiles a b (s ∷ ss) = if nat_le b a then true else (s.start == a) && nat_le s.end b && tiles s.end b ss

-- whether all locations up to b lie before these stretches
abbrev pub is_gap : ℕ → List Stretch → Bool
is_gap b [] = true
is_gap b (s ∷ ss) = nat_le b s.start

-- the location is in the stretch
abbrev pub Has : Stretch → ℕ → Type 0
Has s x = (s.start ≤ x) × (x < s.end)

-- the location is in one of the stretches
abbrev pub AreWith : List Stretch → ℕ → Type 0
AreWith ss x = (s : Stretch) × In ss s × Has s x

-- a stretch has all locations from a up to b or none, and each of these is in a stretch
pub record AreCut (ss : List Stretch) (a b : ℕ) : Type 0 where
  pub whole : (s : Stretch) → In ss s → (x y : ℕ) → Has s x → Has s y → a ≤ x → x < b → (a ≤ y) × (y < b)
  pub there : (x : ℕ) → a ≤ x → x < b → AreWith ss x
