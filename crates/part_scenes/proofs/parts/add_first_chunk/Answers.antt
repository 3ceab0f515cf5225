use Rattle.part_scenes.proofs.Common.{◌≡◌, Some, None, refl, sym, subst, Addr, LeafHeapValue, Private, FitsNow, nowhere}
use Rattle.object_layout.specs.Chunks.{IsFresh}
use Rattle.part_scenes.proofs.ChunkAdded.{chunk_fits}
use Rattle.part_scenes.proofs.parts.add_first_chunk.Goals as goal

none_some : (a : Addr) → None ≡ Some a → ⊥
none_some a e = cc

pub returns-clause-fits : goal.returns-clause-fits
returns-clause-fits c = λ added p m F.
    let old : Private = c.args.part.now in
    let P : LeafHeapValue → Type 0 = λ h. FitsNow p (record old { heap = h }) m nowhere in
    subst P (sym c.in-Ok.ensures.ok)
    (chunk_fits p old m nowhere c.args.chunk c.add.new.self.slots c.add.new.self.spare F (λ n a e. absurd (none_some a e)) c.requires.empty c.requires.size (subst (λ ks. IsFresh ks c.args.chunk.number) (sym c.requires.first) refl))
