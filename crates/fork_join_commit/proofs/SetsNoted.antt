-- What is noted of a heap by what its set holds, and the form of an empty heap and of one at rest.
use Rattle.fork_join_commit.proofs.Common.{◌≡◌, true, ℕ, arith, Option, Some, None, List, [], slice_get, option_map, refl, SetOf, Content, content_at, keeping, noted_in, HeapForm, noted_is, noted_of}

-- ---- WHAT IS NOTED, by what a set holds

pub noted_by : (sets : List SetOf) (u : ℕ) → noted_in (slice_get sets u) ≡ noted_of (content_at sets u)
noted_by sets u = noted_is (slice_get sets u)

pub keeping_sources : (o : Option Content) → (noted_of (option_map (keeping true) o)).sources ≡ (noted_of o).sources
keeping_sources None = refl
keeping_sources (Some c) = refl

pub keeping_kept : (o : Option Content) → (noted_of (option_map (keeping true) o)).kept ≡ []
keeping_kept None = refl
keeping_kept (Some c) = refl

-- ---- AN EMPTY HEAP

pub empty_form : (slots spare : ℕ) → HeapForm (record { chunks = []; current = None; reserved = None; since = 0; slots = slots; spare = spare })
empty_form slots spare = record {
  shaped = record { apart = tt; current = tt; reserved = tt };
  near = λ o i. absurd i;
  tidy = λ i x lt. absurd (omega (arith, lt));
  within = λ i x lt. absurd (omega (arith, lt));
  last = tt;
  last_large = tt;
  since = omega arith;
  whole = λ k i. absurd i;
  spare = λ i lt. absurd (omega (arith, lt));
}
