-- Lists, read and folded step by step.
use Rattle.copying_gc.proofs.Common.{◌≡◌, ℕ, zero, suc, ◌+◌, ◌<◌, List, [], ◌∷◌, length, get_or, take, map, fold, refl, sym, ap, ◌∙◌, arith, Option, Some, slice_get, append-nil, fold-append, Addr, CallFrame, references_of, In, in_append_left, in_append_right, frame_references}

-- one more step of a fold over a mapped list
pub fold_map_read : {S X Y : Type 0} (f : S → Y → S) (g : X → Y) (s : S) (xs : List X) (k : ℕ) (d : X) → k < length xs →
    fold f s (map g (take (k + 1) xs)) ≡ f (fold f s (map g (take k xs))) (g (get_or xs k d))
fold_map_read f g s [] k d l = absurd (omega arith)
fold_map_read f g s (y ∷ ys) zero d l = refl
fold_map_read f g s (y ∷ ys) (suc k) d l = let n : suc k + 1 ≡ suc (k + 1) = omega arith in rw n (fold_map_read f g (f s (g y)) ys k d (omega arith))

-- ---- the references of frames

pub fold_frames : {S : Type 0} (f : S → Option Addr → S) (s : S) (fs : List CallFrame) (k : ℕ) → k < length fs →
    fold f s (frame_references (take (k + 1) fs)) ≡ fold f (fold f s (frame_references (take k fs))) (references_of fs k)
fold_frames f s [] k l = absurd (omega arith)
fold_frames f s (x ∷ xs) zero l = ap (fold f s) (append-nil x.refs)
fold_frames f s (x ∷ xs) (suc k) l =
    let n : suc k + 1 ≡ suc (k + 1) = omega arith in
    rw n (fold-append f s x.refs (frame_references (take (k + 1) xs)) ∙ (fold_frames f (fold f s x.refs) xs k (omega arith)
    ∙ ap (λ t. fold f t (references_of xs k)) (sym (fold-append f s x.refs (frame_references (take k xs))))))

pub in_frames : (fs : List CallFrame) (k : ℕ) (r : Option Addr) → In (references_of fs k) r → In (frame_references fs) r
in_frames [] k r i = i
in_frames (x ∷ xs) zero r i = in_append_left x.refs (frame_references xs) r i
in_frames (x ∷ xs) (suc k) r i = in_append_right x.refs (frame_references xs) r (in_frames xs k r i)

-- one more step of a fold, by the element that was read
pub fold_got : {S X : Type 0} (f : S → X → S) (s : S) (xs : List X) (k : ℕ) (x : X) → slice_get xs k ≡ Some x → fold f s (take (k + 1) xs) ≡ f (fold f s (take k xs)) x
fold_got f s [] k x e = absurd cc
fold_got f s (y ∷ ys) zero x e = let h : y ≡ x = cc in ap (f s) h
fold_got f s (y ∷ ys) (suc k) x e = let n : suc k + 1 ≡ suc (k + 1) = omega arith in rw n (fold_got f (f s y) ys k x e)
