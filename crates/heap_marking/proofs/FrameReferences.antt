-- The references of frames, taken frame by frame.
use Rattle.heap_marking.proofs.Common.{◌≡◌, ℕ, zero, suc, ◌+◌, ◌<◌, arith, Option, List, [], ◌∷◌, ◌++◌, length, take, append_assoc, ap, sym, ◌∙◌, flat_map, flat_map-append, append-nil, Addr, CallFrame, references_of, frame_references}

pub frames_more : (g : Option Addr → List Addr) (fs : List CallFrame) (k : ℕ) → k < length fs → flat_map g (frame_references (take (k + 1) fs)) ≡ flat_map g (frame_references (take k fs)) ++ flat_map g (references_of fs k)
frames_more g [] k lt = absurd (omega (arith, lt))
frames_more g (x ∷ xs) zero lt = ap (flat_map g) (append-nil x.refs)
frames_more g (x ∷ xs) (suc k) lt =
    let n : suc k + 1 ≡ suc (k + 1) = omega arith in
    rw n (
    flat_map-append g x.refs (frame_references (take (k + 1) xs))
    ∙ (ap (λ z. flat_map g x.refs ++ z) (frames_more g xs k (omega (arith, lt)))
    ∙ (sym (append_assoc (flat_map g x.refs) (flat_map g (frame_references (take k xs))) (flat_map g (references_of xs k)))
    ∙ ap (λ z. z ++ flat_map g (references_of xs k)) (sym (flat_map-append g x.refs (frame_references (take k xs)))))))
