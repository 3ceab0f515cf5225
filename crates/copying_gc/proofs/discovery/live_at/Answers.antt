use Rattle.copying_gc.proofs.Common.{◌≡◌, ap, sym, ◌∙◌, subst, rules, None, option_map, Cell, IsObject, birth_in, Live}
use Rattle.object_layout.proofs.ChunkLaws as laws
use Rattle.leaf_heap.proofs.HeapLemmas as heaps
use Rattle.copying_gc.proofs.OwnObjects.{target_object}
use Rattle.copying_gc.proofs.discovery.live_at.Goals as goal

pub chunk_in-chunk-requires : goal.chunk_in-chunk-requires
chunk_in-chunk-requires c = heaps.place_within c.args.heap.now.chunks c.args.object.chunk c.in_ok-place.place (sym c.requires.place ∙ c.in_ok-place.was)

pub birth_in-requires : goal.birth_in-requires
birth_in-requires c =
    let there = sym c.requires.place ∙ c.in_ok-place.was in
    subst (λ (x : Cell). IsObject x.mark) (sym (c.chunk_in-chunk.ensures c.args.object there)) (target_object c.args.heap.now.chunks c.args.object c.in_ok-place.place there c.requires.target)

pub returns-in_err-place-clause-birth : goal.returns-in_err-place-clause-birth
returns-in_err-place-clause-birth c =
    let out = heaps.none_there c.args.heap.now.chunks c.args.object.chunk (sym c.requires.place ∙ c.in_err-place.was) in
    let none : c.from_residual.result ≡ None = search rules in
    ap (option_map (λ (l : Live). l.birth)) none ∙ sym (ap (λ (x : Cell). birth_in x.mark) (laws.cell_of-none c.args.heap.now.chunks c.args.object out))

pub returns-in_err-birth-clause-birth : goal.returns-in_err-birth-clause-birth
returns-in_err-birth-clause-birth c =
    let there = sym c.requires.place ∙ c.in_ok-place.was in
    let none : c.from_residual-in_err-birth.result ≡ None = search rules in
    ap (option_map (λ (l : Live). l.birth)) none ∙ (sym c.in_err-birth.was ∙ (c.birth_in.ensures ∙ ap (λ (x : Cell). birth_in x.mark) (c.chunk_in-chunk.ensures c.args.object there)))

pub returns-clause-birth : goal.returns-clause-birth
returns-clause-birth c =
    let there = sym c.requires.place ∙ c.in_ok-place.was in
    sym c.in_ok-birth.was ∙ (c.birth_in.ensures ∙ ap (λ (x : Cell). birth_in x.mark) (c.chunk_in-chunk.ensures c.args.object there))
