-- The survivors of a leaf collection are what the registers and the roots reach, in the sense of the relation.
use Rattle.copied_part_laws.proofs.Common.{◌≡◌, ℕ, zero, suc, Option, Some, List, [], ◌∷◌, map, inl, inr, ap, sym, subst, ◌∙◌, contains_from_in, flat_in, got_in, in_append_cases, in_append_left, in_append_right, in_flat, in_from_contains, in_map, map_in, IsWalk, Addr, cell_of, ChunkValue, HasObjectAt, RefersTo, Located, HaveDistinctNumbers, CallFrame, FramesValue, frames_of, IsSurvivor, CopyStarts, as_reference, frame_references, outside, references_in, Belongings, In, objects_of_chunks, HoldsAt, IsReachedAt, LeadsAt, StartsAt, chunks_of, frames_down, held_seen, seen_held}

-- the frames of a stack from the bottom are those from the top, reversed
pub from_stack : (s : FramesValue) (g : CallFrame) → In (frames_of s) g → In (frames_down s) g
from_stack s g i = elim (in_append_cases s.below (s.top ∷ []) g i) [
  | inl j ↦ inr j
  | inr (inl e) ↦ inl e
  | inr (inr z) ↦ absurd z
]

module _ (ks : List ChunkValue) (A : HaveDistinctNumbers ks) (belongings : Belongings) (s : FramesValue) (roots : List Addr) (chunks : belongings.chunks ≡ chunks_of ks) (frames : belongings.frames ≡ frames_down s) where
  -- ---- OBJECTS

  in_chunks : (o : Located) → In (objects_of_chunks belongings.chunks) o → In (objects_of_chunks (chunks_of ks)) o
  in_chunks o i = subst (λ cs. In (objects_of_chunks cs) o) chunks i

  live_at : (a : Addr) (o : Located) → HoldsAt belongings a o → HasObjectAt ks a
  live_at a o at = subst (HasObjectAt ks) at.1 (seen_held ks A o (in_chunks o at.0)).0

  refs_at : (a : Addr) (o : Located) → HoldsAt belongings a o → o.refs ≡ (cell_of ks a).refs
  refs_at a o at = sym (seen_held ks A o (in_chunks o at.0)).1 ∙ ap (λ (z : Addr). (cell_of ks z).refs) at.1

  pub object_at : (a : Addr) → HasObjectAt ks a → (o : Located) × HoldsAt belongings a o
  object_at a l = let o = held_seen ks a l in (o.0, (subst (λ cs. In (objects_of_chunks cs) o.0) (sym chunks) o.1, o.2))

  -- ---- REGISTERS

  in_stack : (f : CallFrame) → In (frames_down s) f → In (frames_of s) f
  in_stack f (inl e) = in_append_right s.below (s.top ∷ []) f (inl e)
  in_stack f (inr i) = in_append_left s.below (s.top ∷ []) f i

  held_to : (a : Addr) (f : CallFrame) → In belongings.frames f → In f.refs (Some a) → In (frame_references (frames_of s)) (Some a)
  held_to a f i j = in_flat references_in (frames_of s) f (Some a) (in_stack f (subst (λ fs. In fs f) frames i)) j

  held_back : (a : Addr) → In (frame_references (frames_of s)) (Some a) → (f : CallFrame) × In belongings.frames f × In f.refs (Some a)
  held_back a i =
      let g = flat_in references_in (frames_of s) (Some a) i in
      (g.1, subst (λ fs. In fs g.1) (sym frames) (from_stack s g.1 (got_in (frames_of s) g.0 g.1 g.2)), g.3)

  root_back : (rs : List Addr) (a : Addr) → In (map as_reference rs) (Some a) → In rs a
  root_back rs a i = let r = map_in as_reference rs (Some a) i in subst (In rs) (some_same r.0 r.2) r.1
    where
      some_same : (b : Addr) → ◌≡◌ {A = Option Addr} (Some b) (Some a) → b ≡ a
      some_same b e = cc

  -- ---- WALKS

  starts_to : (a : Addr) → StartsAt belongings roots a → CopyStarts ks (outside s roots) a
  starts_to a w = (
    live_at a w.0 w.1,
    contains_from_in (outside s roots) (Some a) (elim w.2 [
      | inl f ↦ in_append_left (frame_references (frames_of s)) (map as_reference roots) (Some a) (held_to a f.0 f.1 f.2)
      | inr r ↦ in_append_right (frame_references (frames_of s)) (map as_reference roots) (Some a) (in_map as_reference roots a r)
    ]),
  )

  starts_back : (a : Addr) → CopyStarts ks (outside s roots) a → StartsAt belongings roots a
  starts_back a w =
      let o = object_at a w.0 in (
        o.0,
        o.1,
        elim (in_append_cases (frame_references (frames_of s)) (map as_reference roots) (Some a) (in_from_contains (outside s roots) (Some a) w.1)) [
          | inl h ↦ inl (held_back a h)
          | inr r ↦ inr (root_back roots a r)
        ],
      )

  leads_to : (m a : Addr) → LeadsAt belongings m a → RefersTo ks m a
  leads_to m a w = (live_at m w.0 w.2, live_at a w.1 w.4, contains_from_in (cell_of ks m).refs (Some a) (subst (λ rs. In rs (Some a)) (refs_at m w.0 w.2) w.3))

  leads_back : (m a : Addr) → RefersTo ks m a → LeadsAt belongings m a
  leads_back m a w =
      let o = object_at m w.0 in
      let q = object_at a w.1 in
      (o.0, q.0, o.1, subst (λ rs. In rs (Some a)) (sym (refs_at m o.0 o.1)) (in_from_contains (cell_of ks m).refs (Some a) w.2), q.1)

  walk_to : (k : ℕ) (a : Addr) → IsWalk (StartsAt belongings roots) (LeadsAt belongings) k a → IsWalk (CopyStarts ks (outside s roots)) (RefersTo ks) k a
  walk_to zero a w = starts_to a w
  walk_to (suc k) a w = (w.0, walk_to k w.0 w.1, leads_to w.0 a w.2)

  walk_back : (k : ℕ) (a : Addr) → IsWalk (CopyStarts ks (outside s roots)) (RefersTo ks) k a → IsWalk (StartsAt belongings roots) (LeadsAt belongings) k a
  walk_back zero a w = starts_back a w
  walk_back (suc k) a w = (w.0, walk_back k w.0 w.1, leads_back w.0 a w.2)

  pub reached_to : (a : Addr) → IsReachedAt belongings roots a → IsSurvivor ks (outside s roots) a
  reached_to a w = (w.0, walk_to w.0 a w.1)

  pub reached_back : (a : Addr) → IsSurvivor ks (outside s roots) a → IsReachedAt belongings roots a
  reached_back a w = (w.0, walk_back w.0 a w.1)
