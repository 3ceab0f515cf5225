use Rattle.fork_join_commit.proofs.Common.{◌≡◌, ◌+◌, ◌≤◌, arith, None, List, [], ◌∷◌, length, refl, ap, ◌∙◌, ChunkValue, RefField, RememberedValue, lifted, notes_in, Side, JoinsSides}
use Rattle.fork_join_commit.proofs.join.join_children.Goals as goal

no_sources : (xs : List RefField) → length xs ≡ 0 → xs ≡ []
no_sources [] e = refl
no_sources (x ∷ xs) e = absurd (omega arith)

-- if a parent without remembered fields needed no capacity for its children's sources, they have none, and so it has
-- none afterwards
none_then : (old new left right : Side) → JoinsSides old new left right → length left.remembered.sources + length right.remembered.sources ≤ old.remembered.slots → old.remembered ≡ notes_in None → new.remembered.sources ≡ []
none_then old new left right J room bare =
    let ks : List ChunkValue = old.heap.chunks in
    let none : old.remembered.sources ≡ [] = ap (λ (n : RememberedValue). n.sources) bare in
    let slots : old.remembered.slots ≡ 0 = ap (λ (n : RememberedValue). n.slots) bare in
    let first : left.remembered.sources ≡ [] = no_sources left.remembered.sources (omega (arith, room, slots)) in
    let second : right.remembered.sources ≡ [] = no_sources right.remembered.sources (omega (arith, room, slots)) in
    J.sources
    ∙ (ap (λ xs. lifted (lifted xs left.remembered.sources ks) right.remembered.sources ks) none
    ∙ (ap (λ xs. lifted (lifted [] xs ks) right.remembered.sources ks) first
    ∙ ap (λ xs. lifted (lifted [] [] ks) xs ks) second))

pub returns-clause-none : goal.returns-clause-none
returns-clause-none c = λ bare. none_then _ _ _ _ c.join.ensures.side c.requires.can.room.source_slots bare
