-- All reference registers of one frame, a waiting one or the top one.
use Rattle.std.proofs.Common.{◌≡◌, ℕ, zero, suc, ◌<◌, List, [], ◌∷◌, ◌++◌, length, get_or, set, refl, ap, arith, Option}
use Rattle.object_layout.specs.declared.word.Addr.{Addr}
use Rattle.task_frames.specs.declared.frames.CallFrame.{CallFrame}
use Rattle.task_frames.specs.FramesValue.{references_of, references_written}

pub references_of-last : (fs : List CallFrame) (t : CallFrame) (i : ℕ) → i ≡ length fs → references_of (fs ++ t ∷ []) i ≡ t.refs
references_of-last [] t zero e = refl
references_of-last [] t (suc i) e = absurd (omega arith)
references_of-last (f ∷ fs) t zero e = absurd (omega arith)
references_of-last (f ∷ fs) t (suc i) e = references_of-last fs t i (omega arith)

pub references_of-before : (fs ts : List CallFrame) (i : ℕ) (d : CallFrame) → i < length fs → references_of (fs ++ ts) i ≡ (get_or fs i d).refs
references_of-before [] ts i d l = absurd (omega arith)
references_of-before (f ∷ fs) ts zero d l = refl
references_of-before (f ∷ fs) ts (suc i) d l = references_of-before fs ts i d (omega arith)

pub references_written-last : (fs : List CallFrame) (t : CallFrame) (i : ℕ) (r : List (Option Addr)) → i ≡ length fs →
    references_written (fs ++ t ∷ []) i r ≡ fs ++ record t { refs = r } ∷ []
references_written-last [] t zero r e = refl
references_written-last [] t (suc i) r e = absurd (omega arith)
references_written-last (f ∷ fs) t zero r e = absurd (omega arith)
references_written-last (f ∷ fs) t (suc i) r e = ap (λ (xs : List CallFrame). f ∷ xs) (references_written-last fs t i r (omega arith))

pub references_written-before : (fs ts : List CallFrame) (i : ℕ) (d : CallFrame) (r : List (Option Addr)) → i < length fs →
    references_written (fs ++ ts) i r ≡ set fs i (record (get_or fs i d) { refs = r }) ++ ts
references_written-before [] ts i d r l = absurd (omega arith)
references_written-before (f ∷ fs) ts zero d r l = refl
references_written-before (f ∷ fs) ts (suc i) d r l = ap (λ (xs : List CallFrame). f ∷ xs) (references_written-before fs ts i d r (omega arith))
