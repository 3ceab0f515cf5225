-- The positions of objects in chunks: each within its own chunk, and no two overlapping.
use Rattle.copied_part_laws.proofs.Common.{◌≡◌, ◌⊎◌, ℕ, ◌+◌, ◌*◌, ◌/◌, ◌≤◌, arith, true, List, [], ◌∷◌, map, inl, inr, refl, ap, sym, subst, ◌∙◌, cases_eq, map_in, Addr, Born, Cell, Hole, Mark, Moved, size_of, ChunkValue, words_in, Located, located_by, objects_from, HaveDistinctNumbers, Chunk, In, objects_of_chunks, DontOverlap as ObjectsApart, AreLaidOut, HoldsLarge, reserved_chunks, reserved_units, words, in_chunk, chunk_of, chunks_of, apart_here, distinct_from, same_chunk, small_units}

-- ---- IN ONE CHUNK

-- the object is in the chunk of this number, between two offsets
pub record Span (number base stop : ℕ) (o : Located) : Type 0 where
  pub chunk : o.at.chunk ≡ number
  pub from : base ≤ o.at.offset
  pub upto : o.at.offset + words o ≤ stop

wider : (number base stop base' stop' : ℕ) (o : Located) → base' ≤ base → stop ≤ stop' → Span number base stop o → Span number base' stop' o
wider number base stop base' stop' o b s S = let f : base ≤ o.at.offset = S.from in let u : o.at.offset + words o ≤ stop = S.upto in record { chunk = S.chunk; from = omega (arith, b, f); upto = omega (arith, s, u) }

pub first_span : (number base : ℕ) (c : Cell) (b : Mark) (x : Located) (stop : ℕ) → In (located_by number base c b []) x → base + size_of c ≤ stop → Span number base stop x
first_span number base c (Born b) x stop (inl e) le = subst (Span number base stop) e (record { chunk = refl; from = omega arith; upto = omega (arith, le) })
first_span number base c (Born b) x stop (inr i) le = absurd i
first_span number base c (Moved to) x stop i le = absurd i
first_span number base c Hole x stop i le = absurd i

-- the first object, or one of the others
pub first_or : (number base : ℕ) (c : Cell) (m : Mark) (os : List Located) (o : Located) → In (located_by number base c m os) o → In (located_by number base c m []) o ⊎ In os o
first_or number base c (Born b) os o (inl e) = inl (inl e)
first_or number base c (Born b) os o (inr i) = inr i
first_or number base c (Moved to) os o i = inr i
first_or number base c Hole os o i = inr i

pub span : (cs : List Cell) (number base : ℕ) (o : Located) → In (objects_from number base cs) o → Span number base (base + words_in cs) o
span [] number base o i = absurd i
span (c ∷ cs) number base o i = elim (first_or number base c c.mark (objects_from number (base + size_of c) cs) o i) [
  | inl f ↦ first_span number base c c.mark o (base + words_in (c ∷ cs)) f (omega arith)
  | inr r ↦ wider number (base + size_of c) (base + size_of c + words_in cs) base (base + words_in (c ∷ cs)) o (omega arith) (omega arith) (span cs number (base + size_of c) o r)
]

only_first : (number base : ℕ) (c : Cell) (m : Mark) (o q : Located) → In (located_by number base c m []) o → In (located_by number base c m []) q → o ≡ q
only_first number base c (Born b) o q (inl e) (inl d) = sym e ∙ d
only_first number base c (Born b) o q (inl e) (inr j) = absurd j
only_first number base c (Born b) o q (inr i) j = absurd i
only_first number base c (Moved to) o q i j = absurd i
only_first number base c Hole o q i j = absurd i

-- ---- IN A LIST OF CHUNKS

-- the chunk in which an object is read
pub record Holds (ks : List ChunkValue) (o : Located) : Type 0 where
  pub chunk : ChunkValue
  pub there : In ks chunk
  pub object : In (objects_from chunk.number 0 chunk.cells) o

pub held_by : (ks : List ChunkValue) (o : Located) → In (objects_of_chunks (chunks_of ks)) o → Holds ks o
held_by ks o i =
    let c = in_chunk (chunks_of ks) o i in
    let k = map_in chunk_of ks c.0 c.1 in
    record { chunk = k.0; there = k.1; object = subst (λ (z : Chunk). In z.objects o) (sym k.2) c.2 }

pub once : (ks : List ChunkValue) → HaveDistinctNumbers ks → (o q : Located) → In (objects_of_chunks (chunks_of ks)) o → In (objects_of_chunks (chunks_of ks)) q → o.at ≡ q.at → o ≡ q
once ks A o q i j e =
    let h = held_by ks o i in
    let g = held_by ks q j in
    let so = span h.chunk.cells h.chunk.number 0 o h.object in
    let sq = span g.chunk.cells g.chunk.number 0 q g.object in
    let same : g.chunk ≡ h.chunk = same_chunk ks g.chunk h.chunk A g.there h.there (sym sq.chunk ∙ (ap (λ (a : Addr). a.chunk) (sym e) ∙ so.chunk)) in
    elim (apart_here h.chunk.cells h.chunk.number 0 o q h.object (subst (λ (z : ChunkValue). In (objects_from z.number 0 z.cells) q) same g.object)) [
      | inl d ↦ d
      | inr (inl ne) ↦ absurd (ne (ap (λ (a : Addr). a.chunk) e))
      | inr (inr (inl le)) ↦ let f : o.at.offset ≡ q.at.offset = ap (λ (a : Addr). a.offset) e in absurd (omega (arith, f, le))
      | inr (inr (inr le)) ↦ let f : o.at.offset ≡ q.at.offset = ap (λ (a : Addr). a.offset) e in absurd (omega (arith, f, le))
    ]

apart : (ks : List ChunkValue) → HaveDistinctNumbers ks → (o q : Located) → In (objects_of_chunks (chunks_of ks)) o → In (objects_of_chunks (chunks_of ks)) q → (o ≡ q) ⊎ ObjectsApart o q
apart ks A o q i j = elim (cases_eq o.at.chunk q.at.chunk) [
  | inr ne ↦ inr (inl ne)
  | inl e ↦
      let h = held_by ks o i in
      let g = held_by ks q j in
      let so = span h.chunk.cells h.chunk.number 0 o h.object in
      let sq = span g.chunk.cells g.chunk.number 0 q g.object in
      let same : g.chunk ≡ h.chunk = same_chunk ks g.chunk h.chunk A g.there h.there (sym sq.chunk ∙ (sym e ∙ so.chunk)) in
      apart_here h.chunk.cells h.chunk.number 0 o q h.object (subst (λ (z : ChunkValue). In (objects_from z.number 0 z.cells) q) same g.object)
]

-- the layout of chunks, by what is known of each
pub laid_out : (ks : List ChunkValue) (spare : ℕ) → HaveDistinctNumbers ks → ((k : ChunkValue) → In ks k → words_in k.cells ≤ k.size) → ((k : ChunkValue) → In ks k → k.size ≡ 1024 * (k.size / 1024))
    → ((k : ChunkValue) → In ks k → (chunk_of k).large ≡ true → HoldsLarge (chunk_of k)) → map (λ (c : Chunk). c.units) (reserved_chunks (chunks_of ks)) ≡ reserved_units spare → AreLaidOut (chunks_of ks) spare
laid_out ks spare A W whole large R = record {
  numbers = distinct_from ks A;
  within = λ c o i j.
      let k = map_in chunk_of ks c i in
      let s = span k.0.cells k.0.number 0 o (subst (λ (z : Chunk). In z.objects o) (sym k.2) j) in
      let u : o.at.offset + words o ≤ 0 + words_in k.0.cells = s.upto in
      let w : words_in k.0.cells ≤ k.0.size = W k.0 k.1 in
      let q : k.0.size ≡ 1024 * (k.0.size / 1024) = whole k.0 k.1 in
      subst (λ n. o.at.offset + words o ≤ 1024 * n) (ap (λ (z : Chunk). z.units) k.2) (omega (arith, u, w, q));
  apart = apart ks A;
  small = λ c i h.
      let k = map_in chunk_of ks c i in
      ap (λ (z : Chunk). z.units) (sym k.2) ∙ small_units k.0 (ap (λ (z : Chunk). z.large) k.2 ∙ h);
  large = λ c i h.
      let k = map_in chunk_of ks c i in
      subst HoldsLarge k.2 (large k.0 k.1 (ap (λ (z : Chunk). z.large) k.2 ∙ h));
  reserved = R;
}
