-- Which chunk has which position, after laid and kept ones.
use Rattle.copied_part_laws.proofs.Common.{◌≡◌, ℕ, zero, suc, ◌+◌, ◌-◌, ◌<◌, ◌≤◌, arith, Option, Some, None, List, [], ◌∷◌, ◌++◌, length, length-append, refl, ap, sym, subst, ◌∙◌, MachineState, ChunkValue, chunk_at, chunk_there, IsCurrent, IsReserved, last_place, reserved_of, reserved_place, In, IsLastLarge, IsLastSmall}
use Rattle.copied_part_laws.proofs.NamesLaid.{Told}

-- ---- POSITIONS IN LISTS OF CHUNKS

pub at_behind : (ks js : List ChunkValue) (j : ℕ) → length ks ≤ j → chunk_at (ks ++ js) j ≡ chunk_at js (j - length ks)
at_behind [] js j le = ap (chunk_at js) (let e : j ≡ j - 0 = omega arith in e)
at_behind (k ∷ ks) js zero le = absurd (omega (arith, le))
at_behind (k ∷ ks) js (suc j) le = at_behind ks js j (omega (arith, le)) ∙ ap (chunk_at js) (let e : j - length ks ≡ suc j - suc (length ks) = omega arith in e)

pub at_front : (ks js : List ChunkValue) (j : ℕ) → j < length ks → chunk_at (ks ++ js) j ≡ chunk_at ks j
at_front [] js j lt = absurd (omega (arith, lt))
at_front (k ∷ ks) js zero lt = refl
at_front (k ∷ ks) js (suc j) lt = at_front ks js j (omega (arith, lt))

pub current_of : (m : MachineState) (ks js : List ChunkValue) → Told m ks → IsCurrent (ks ++ js) (last_place ks)
current_of m [] js t = tt
current_of m (k ∷ ks) js t = along k ks t
  where
    along : (k : ChunkValue) (ks : List ChunkValue) → Told m (k ∷ ks) → (length ks < length ((k ∷ ks) ++ js)) × ((chunk_at ((k ∷ ks) ++ js) (length ks)).size ≡ 1024)
    along k [] t = (omega arith, t.0.0)
    along k (l ∷ ks) t = let r = along l ks t.1 in (let lt : length ks < length ((l ∷ ks) ++ js) = r.0 in omega (arith, lt), r.1)

pub last_small : (ks js : List ChunkValue) → ((k : ChunkValue) → In js k → 1024 < k.size) → IsLastSmall (ks ++ js) (last_place ks)
last_small [] js big = tt
last_small (k ∷ ks) js big = λ j lt le size.
    let n = length-append (k ∷ ks) js in
    let b : 1024 < (chunk_at js (j - suc (length ks))).size = big (chunk_at js (j - suc (length ks))) (chunk_there js (j - suc (length ks)) (omega (arith, lt, le, n))) in
    let e = ap (λ (z : ChunkValue). z.size) (at_behind (k ∷ ks) js j (omega (arith, lt))) in
    omega (arith, b, e, size)

-- the reserved chunk after the others
module _ (h : List ChunkValue) (L K : List ChunkValue) where
  behind_at : (i : ℕ) → chunk_at (L ++ (K ++ chunk_at h i ∷ [])) (length L + length K) ≡ chunk_at h i
  behind_at i =
      at_behind L (K ++ chunk_at h i ∷ []) (length L + length K) (omega arith)
      ∙ (at_behind K (chunk_at h i ∷ []) (length L + length K - length L) (omega arith)
      ∙ ap (chunk_at (chunk_at h i ∷ [])) (let e : length L + length K - length L - length K ≡ 0 = omega arith in e))

  count_at : (i : ℕ) → length (L ++ (K ++ chunk_at h i ∷ [])) ≡ length L + length K + 1
  count_at i = let x = length-append L (K ++ chunk_at h i ∷ []) in let z = length-append K (chunk_at h i ∷ []) in omega (arith, x, z)

  pub reserved_behind : (o : Option ℕ) → IsReserved h o → IsReserved (L ++ (K ++ reserved_of h o)) (reserved_place (length L + length K) o)
  reserved_behind None w = tt
  reserved_behind (Some i) w =
      let n = count_at i in
      let e = behind_at i in
      (omega (arith, n), (subst (λ (z : ChunkValue). 1024 < z.size) (sym e) w.1.0, subst (λ (z : ChunkValue). z.cells ≡ []) (sym e) w.1.1))

  pub last_behind : (o : Option ℕ) → IsLastLarge (L ++ (K ++ reserved_of h o)) (reserved_place (length L + length K) o)
  last_behind None = tt
  last_behind (Some i) = λ j lt le. let n = count_at i in absurd (omega (arith, lt, le, n))

  -- what comes after both is the reserved chunk
  pub place_behind : (o : Option ℕ) (i : ℕ) → length L + length K ≤ i → i < length (L ++ (K ++ reserved_of h o)) → reserved_place (length L + length K) o ≡ Some i
  place_behind None i le lt =
      let x = length-append L (K ++ []) in let z = length-append K [] in absurd (omega (arith, le, lt, x, z))
  place_behind (Some j) i le lt = let n = count_at j in ap Some (let e : length L + length K ≡ i = omega (arith, le, lt, n) in e)
