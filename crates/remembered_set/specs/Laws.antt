-- Which sources a set has after others were noted in it.
use Rattle.std.specs.Prelude.{◌≡◌, ◌↔◌, ◌⊎◌, ℕ, true, false, Contains, List, Option, None, fold, if◌then◌else◌, length, slice_index_or}
use Rattle.object_layout.specs.declared.word.Addr.{Addr}
use Rattle.object_layout.specs.ChunkValue.{ChunkValue}
use Rattle.object_layout.specs.Chunks.{has_chunk}
use Rattle.remembered_set.specs.declared.remembered.RefField.{RefField}
use Rattle.remembered_set.specs.Sources.{has_source, lifted, with_noted_source, StandOnce}
use Rattle.remembered_set.specs.Moved.{led_by, redirected, AreFields}

-- of another set, those whose object is outside these chunks
abbrev pub LiftedAreThere : Type 0
LiftedAreThere =
    (xs ys : List RefField) (ks : List ChunkValue) (t : RefField)
    → Contains (lifted xs ys ks) t ↔ (Contains xs t ⊎ (Contains ys t × (has_chunk ks t.object.chunk ≡ false)))

module _ {S : Type 0} (refs_at : S → Addr → List (Option Addr)) (with_ref_at : S → Addr → ℕ → Option Addr → S) where
  -- what is read after all sources are rewritten: each object has as many fields, those that are sources updated, all
  -- others unchanged
  pub record IsRewritten (ms : List (Addr × Addr)) (old new : S) (xs : List RefField) : Type 0 where
    pub count : (a : Addr) → length (refs_at new a) ≡ length (refs_at old a)
    pub fields : (a : Addr) (i : ℕ) → slice_index_or (refs_at new a) i None ≡ (if has_source xs (record { object = a; field = i }) then led_by ms (slice_index_or (refs_at old a) i None) else slice_index_or (refs_at old a) i None)

  abbrev pub RewriteIsRead : Type 0
  RewriteIsRead = (ms : List (Addr × Addr)) (w : S) (xs : List RefField) → StandOnce xs → AreFields refs_at w xs → IsRewritten ms w (fold (redirected refs_at with_ref_at ms) w xs) xs
