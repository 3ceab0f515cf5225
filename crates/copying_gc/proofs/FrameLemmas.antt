-- Frames updated one after another.
use Rattle.copying_gc.proofs.Common.{◌≡◌, ℕ, zero, suc, ◌+◌, ◌<◌, List, [], ◌∷◌, ◌++◌, length, take, drop, map, refl, ap, arith, Option, All, inl, inr, Addr, CallFrame, references_of, references_written, In, in_append_left, in_append_right, all_from, read_in, frame_references, led_frame}

module _ (f : Option Addr → Option Addr) where
  -- the next frame is unchanged
  pub next_frame : (fs : List CallFrame) (k : ℕ) → k < length fs → references_of (map (led_frame f) (take k fs) ++ drop k fs) k ≡ references_of fs k
  next_frame [] k l = absurd (omega arith)
  next_frame (x ∷ xs) zero l = refl
  next_frame (x ∷ xs) (suc k) l = next_frame xs k (omega arith)

  pub more_frames : (fs : List CallFrame) (k : ℕ) → k < length fs →
      references_written (map (led_frame f) (take k fs) ++ drop k fs) k (map f (references_of fs k)) ≡ map (led_frame f) (take (k + 1) fs) ++ drop (k + 1) fs
  more_frames [] k l = absurd (omega arith)
  more_frames (x ∷ xs) zero l = refl
  more_frames (x ∷ xs) (suc k) l =
      let n : suc k + 1 ≡ suc (k + 1) = omega arith in
      rw n (ap (λ (ys : List CallFrame). led_frame f x ∷ ys) (more_frames xs k (omega arith)))

pub first_part : {X : Type 0} (P : X → Type 0) (xs ys : List X) → All P (xs ++ ys) → All P xs
first_part P xs ys a = all_from P xs (λ x i. read_in P (xs ++ ys) x (in_append_left xs ys x i) a)

refs_same : (f g : Option Addr → Option Addr) (rs : List (Option Addr)) → ((r : Option Addr) → In rs r → f r ≡ g r) → map f rs ≡ map g rs
refs_same f g [] e = refl
refs_same f g (r ∷ rs) e = λ i. e r (inl refl) i ∷ refs_same f g rs (λ q j. e q (inr j)) i

same_frames : (f g : Option Addr → Option Addr) (fs : List CallFrame) → ((r : Option Addr) → In (frame_references fs) r → f r ≡ g r) → map (led_frame f) fs ≡ map (led_frame g) fs
same_frames f g [] e = refl
same_frames f g (x ∷ xs) e =
    λ i.
    ap (λ (rs : List (Option Addr)). let y : CallFrame = record x { refs = rs } in y) (refs_same f g x.refs (λ r j. e r (in_append_left x.refs (frame_references xs) r j))) i
    ∷ same_frames f g xs (λ r j. e r (in_append_right x.refs (frame_references xs) r j)) i

pub frames_same : (f g : Option Addr → Option Addr) (fs : List CallFrame) → All (λ r. f r ≡ g r) (frame_references fs) → map (led_frame f) fs ≡ map (led_frame g) fs
frames_same f g fs a = same_frames f g fs (λ r i. read_in (λ q. f q ≡ g q) (frame_references fs) r i a)
