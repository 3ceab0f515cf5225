-- Checks cell by cell and chunk by chunk imply the whole.
use Rattle.memory_scenes.proofs.Common.{◌≡◌, ℕ, suc, ◌+◌, ◌<◌, ◌≤◌, List, [], ◌∷◌, ◌++◌, length, refl, sym, subst, arith, inl, inr, eqb, Option, slice_index_or, All, cases_Bool, All-nil, All-cons, All-head, All-tail, All-append, Addr, Cell, no_cell, ChunkValue, cell_of, CallFrame, FramesValue, frame_depth, frames_of, references_of, frame_references, HeapIsClosed, at_offset, HasSoundReferences}

-- ---- cells

pub all_step : (P : Cell → Type 0) (cs ds : List Cell) (c : Cell) → cs ≡ c ∷ ds → P c → All P ds → All P cs
all_step P cs ds c e p a = subst (All P) (sym e) (All-cons P c ds p a)

abbrev EachCell : (Cell → Type 0) → ChunkValue → Type 0
EachCell P k = All P k.cells

each_of : (P : Cell → Type 0) (ks : List ChunkValue) → P no_cell → All (EachCell P) ks → (a : Addr) → P (cell_of ks a)
each_of P [] z e a = z
each_of P (k ∷ ks) z e a =
    elim (cases_Bool (eqb k.number a.chunk)) [
      | inl t ↦ rw t (at_offset P k.cells a.offset z (All-head (EachCell P) k ks e))
      | inr t ↦ rw t (each_of P ks z (All-tail (EachCell P) k ks e) a)
    ]

pub closed_from : (h : List ChunkValue) → ((k : ℕ) (d : ChunkValue) → k < length h → All (HasSoundReferences h) (slice_index_or h k d).cells) → HeapIsClosed h
closed_from h f a born = each_of (HasSoundReferences h) h (λ b. absurd b) (λ k d lt. f k d lt) a born

-- ---- frames

count_last : (fs : List CallFrame) (t : CallFrame) → length (fs ++ t ∷ []) ≡ length fs + 1
count_last [] t = refl
count_last (f ∷ fs) t = let ih = count_last fs t in omega arith

held_each : (P : Option Addr → Type 0) (fs : List CallFrame) → ((k : ℕ) → k < length fs → All P (references_of fs k)) → All P (frame_references fs)
held_each P [] f = All-nil P
held_each P (x ∷ fs) f = All-append P x.refs (frame_references fs) (f 0 (omega arith)) (held_each P fs (λ k lt. f (suc k) (omega arith)))

pub held_stack : (P : Option Addr → Type 0) (s : FramesValue) (n : ℕ) → frame_depth s ≤ n → ((k : ℕ) → k < n → All P (references_of (frames_of s) k)) → All P (frame_references (frames_of s))
held_stack P s n le f = held_each P (frames_of s) (λ k lt. let e = count_last s.below s.top in f k (omega arith))
