-- Belongings without a remembered field are unchanged when the remembered fields are rewritten.
use Rattle.refinement.proofs.Common.{◌≡◌, ℕ, suc, ◌==◌, ◌&&◌, false, Option, List, [], ◌∷◌, map, inl, inr, refl, ap, ap₂, option_map, list_any, cond-false, false_from_ne_true, and_parts, eqb-true, in_from_any, in_append_left, in_append_right, Addr, Located, RefField, same_address, Chunk, Belongings, In, objects_of_chunks, is_source, rewritten_refs, rewritten, mapped_chunk, rewritten_belongings, put_at}

module _ (f : Addr → Addr) (ss : List RefField) where
  refs_untouched : (a : Addr) (i : ℕ) (rs : List (Option Addr)) → ((s : RefField) → In ss s → s.object.chunk ≡ a.chunk → ⊥) → rewritten_refs f ss a i rs ≡ rs
  refs_untouched a i [] none = refl
  refs_untouched a i (r ∷ rs) none =
      let out : list_any (is_source a i) ss ≡ false = false_from_ne_true (list_any (is_source a i) ss) (λ e.
      let q = in_from_any (is_source a i) ss e in
      none q.0 q.1 (eqb-true q.0.object.chunk a.chunk (and_parts (q.0.object.chunk == a.chunk) ((q.0.object.offset == a.offset) && (q.0.field == i)) q.2).0)) in
      ap₂ (λ x xs. x ∷ xs) (cond-false (list_any (is_source a i) ss) (option_map f r) r out) (refs_untouched a (suc i) rs none)

  objects_untouched : (os : List Located) → ((o : Located) (s : RefField) → In os o → In ss s → s.object.chunk ≡ o.at.chunk → ⊥) → map (rewritten f ss) os ≡ os
  objects_untouched [] none = refl
  objects_untouched (o ∷ os) none =
      ap₂ (λ x xs. x ∷ xs) (ap (λ rs. record o { refs = rs }) (refs_untouched o.at 0 o.refs (λ s. none o s (inl refl)))) (objects_untouched os (λ q s i. none q s (inr i)))

  chunks_untouched : (ks : List Chunk) → ((o : Located) (s : RefField) → In (objects_of_chunks ks) o → In ss s → s.object.chunk ≡ o.at.chunk → ⊥) → map (mapped_chunk (rewritten f ss)) ks ≡ ks
  chunks_untouched [] none = refl
  chunks_untouched (k ∷ ks) none =
      ap₂ (λ x xs. x ∷ xs) (ap (λ os. record k { objects = os }) (objects_untouched k.objects (λ o s i. none o s (in_append_left k.objects (objects_of_chunks ks) o i))))
      (chunks_untouched ks (λ o s i. none o s (in_append_right k.objects (objects_of_chunks ks) o i)))

  pub belongings_untouched : (h : Belongings) → ((o : Located) (s : RefField) → In (objects_of_chunks h.chunks) o → In ss s → s.object.chunk ≡ o.at.chunk → ⊥) → rewritten_belongings f ss h ≡ h
  belongings_untouched h none = ap (λ ks. record h { chunks = ks }) (chunks_untouched h.chunks none)

-- a write into a chunk without objects changes nothing
module _ (a : Addr) (f : Located → Located) where
  objects_unwritten : (os : List Located) → ((o : Located) → In os o → o.at.chunk ≡ a.chunk → ⊥) → map (put_at a f) os ≡ os
  objects_unwritten [] none = refl
  objects_unwritten (o ∷ os) none =
      let out : same_address o.at a ≡ false = false_from_ne_true (same_address o.at a) (λ e. none o (inl refl) (eqb-true o.at.chunk a.chunk (and_parts (o.at.chunk == a.chunk) (o.at.offset == a.offset) e).0)) in
      ap₂ (λ x xs. x ∷ xs) (cond-false (same_address o.at a) (f o) o out) (objects_unwritten os (λ q i. none q (inr i)))

  pub chunks_unwritten : (ks : List Chunk) → ((o : Located) → In (objects_of_chunks ks) o → o.at.chunk ≡ a.chunk → ⊥) → map (mapped_chunk (put_at a f)) ks ≡ ks
  chunks_unwritten [] none = refl
  chunks_unwritten (k ∷ ks) none =
      ap₂ (λ x xs. x ∷ xs) (ap (λ os. record k { objects = os }) (objects_unwritten k.objects (λ o i. none o (in_append_left k.objects (objects_of_chunks ks) o i))))
      (chunks_unwritten ks (λ o i. none o (in_append_right k.objects (objects_of_chunks ks) o i)))
