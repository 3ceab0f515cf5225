-- Where marking changes nothing.
use Rattle.log_places.proofs.Common.{◌≡◌, ℕ, ◌<◌, ◌≤◌, ◌==◌, ◌&&◌, Bool, true, false, cond, List, [], ◌∷◌, ◌++◌, min, max, refl, ap, sym, subst, arith, nat_le, inl, inr, leb-true, eqb-true, and_parts, In, Stretch, marked, pieces, rest_from, tiles, Ascending}
use Rattle.log_places.proofs.Marking.{no_piece, whole_piece, ascending_from}

-- pieces of which one is the stretch
only_second : (a b : ℕ) (s : Stretch) → min b s.start ≤ a → s.start < s.end → s.end ≤ a → min b s.end ≤ max a s.start → s.end ≤ max b s.start → pieces a b s ≡ s ∷ []
only_second a b s g lt e i f =
    let is : min a s.end ≡ s.end = omega arith in
    rw (no_piece a (min b s.start) g, no_piece (max a s.start) (min b s.end) i, no_piece (max b s.start) s.end f, whole_piece s.start (min a s.end) (omega arith) s refl (sym is)) refl

only_third : (a b : ℕ) (s : Stretch) → s.start ≡ a → s.start < s.end → s.end ≤ b → pieces a b s ≡ s ∷ []
only_third a b s is lt le =
    let p : s.start ≡ max a s.start = omega arith in
    let q : s.end ≡ min b s.end = omega arith in
    rw (no_piece a (min b s.start) (omega arith), no_piece s.start (min a s.end) (omega arith), no_piece (max b s.start) s.end (omega arith), whole_piece (max a s.start) (min b s.end) (omega arith) s p q) refl

only_fourth : (a : ℕ) (s : Stretch) → a ≤ s.start → s.start < s.end → pieces a a s ≡ s ∷ []
only_fourth a s le lt =
    let p : s.start ≡ max a s.start = omega arith in
    rw (no_piece a (min a s.start) (omega arith), no_piece s.start (min a s.end) (omega arith), no_piece (max a s.start) (min a s.end) (omega arith), whole_piece (max a s.start) s.end (omega arith) s p refl) refl

-- those that end no later than a are left as they are
pub marked_front : (front rest : List Stretch) (a b low : ℕ) → a ≤ b → ((s : Stretch) → In front s → (s.start < s.end) × (s.end ≤ a)) → marked a b (front ++ rest) ≡ front ++ marked a b rest
marked_front [] rest a b low order all = refl
marked_front (s ∷ front) rest a b low order all =
    let lt : s.start < s.end = (all s (inl refl)).0 in
    let le : s.end ≤ a = (all s (inl refl)).1 in
    let same : rest_from a b s ≡ a = omega arith in
    rw (only_second a b s (omega arith) lt le (omega arith) (omega arith), same) (ap (λ l. s ∷ l) (marked_front front rest a b low order (λ t i. all t (inr i))))

pub none_marked : (ss : List Stretch) (a : ℕ) → Ascending a ss → marked a a ss ≡ ss
none_marked [] a up = no_piece a a (omega arith)
none_marked (s ∷ ss) a up =
    let le : a ≤ s.start = up.0 in
    let lt : s.start < s.end = up.1 in
    let same : rest_from a a s ≡ a = omega arith in
    rw (only_fourth a s le lt, same) (ap (λ l. s ∷ l) (none_marked ss a (ascending_from s.end a ss (omega arith) up.2)))

same_step : (s : Stretch) (ss : List Stretch) (a b low : ℕ) → a ≤ b → Ascending low (s ∷ ss) → (b ≤ a → Ascending b (s ∷ ss))
    → (tiles s.end b ss ≡ true → s.end ≤ b → marked s.end b ss ≡ ss)
    → (c : Bool) → nat_le b a ≡ c → cond c true ((s.start == a) && nat_le s.end b && tiles s.end b ss) ≡ true → marked a b (s ∷ ss) ≡ s ∷ ss
same_step s ss a b low order up done more true le e =
    let eq : a ≡ b = (let h = leb-true b a le in omega arith) in
    subst (λ (x : ℕ). marked x b (s ∷ ss) ≡ s ∷ ss) (sym eq) (none_marked (s ∷ ss) b (done (leb-true b a le)))
same_step s ss a b low order up done more false gt e =
    let outer = and_parts ((s.start == a) && nat_le s.end b) (tiles s.end b ss) e in
    let both = and_parts (s.start == a) (nat_le s.end b) outer.0 in
    let is : s.start ≡ a = eqb-true s.start a both.0 in
    let le : s.end ≤ b = leb-true s.end b both.1 in
    let lt : s.start < s.end = up.1 in
    let same : rest_from a b s ≡ s.end = omega arith in
    rw (only_third a b s is lt le, same) (ap (λ l. s ∷ l) (more outer.1 le))

-- those that are just the first of the stretches are marked
pub same_marked : (ss : List Stretch) (a b low : ℕ) → a ≤ b → Ascending low ss → (b ≤ a → Ascending b ss) → tiles a b ss ≡ true → marked a b ss ≡ ss
same_marked [] a b low order up done e = no_piece a b (leb-true b a e)
same_marked (s ∷ ss) a b low order up done e =
    same_step s ss a b low order up done
    (λ rest le. same_marked ss s.end b s.end le up.2 (λ ge. subst (λ (x : ℕ). Ascending x ss) (let q : s.end ≡ b = omega arith in q) up.2) rest)
    (nat_le b a) refl e
