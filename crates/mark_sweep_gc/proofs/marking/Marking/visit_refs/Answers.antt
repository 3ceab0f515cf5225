use Rattle.mark_sweep_gc.proofs.Common.{◌≡◌, ◌<◌, ◌≤◌, ℕ, List, Option, Some, All, Contains, get_or, length, slice_get, sym, ap, subst, arith, slice_get-get_or, Addr, Header, Cell, ChunkValue, cell_of, object_of, HasObjectAt, IsSoundReference, RefersTo}
use Rattle.object_layout.proofs.ChunkLaws as laws
use Rattle.mark_sweep_gc.proofs.Finding as finding
use Rattle.mark_sweep_gc.proofs.marking.Marking.visit_refs.Goals as goal

pub own_header-field-end-requires : goal.own_header-field-end-requires
own_header-field-end-requires c = laws.born_object c.args.heap.now.chunks c.args.object c.requires.object

sound_at : (ks : List ChunkValue) (rs : List (Option Addr)) (k : ℕ) (r : Option Addr) → All (IsSoundReference ks) rs → k < length rs → slice_get rs k ≡ Some r → IsSoundReference ks r
sound_at ks rs k r all l is =
    let got : slice_get rs k ≡ Some (get_or rs k r) = slice_get-get_or rs k r l in
    let e : get_or rs k r ≡ r = cc in
    subst (IsSoundReference ks) e (all k r l)

refs_are : (ks : List ChunkValue) (b : Addr) → HasObjectAt ks b → (object_of ks b).refs ≡ (cell_of ks b).refs
refs_are ks b held = ap (λ (d : Cell). d.refs) (laws.object_is ks b (laws.born_object ks b held))

pub visit-requires-clause-sound : goal.visit-requires-clause-sound
visit-requires-clause-sound c =
    let ks = c.args.heap.now.chunks in
    let b : Addr = c.args.object in
    let held : HasObjectAt ks b = c.requires.object in
    let count : c.own_header-field-end.result.nrefs ≡ length (object_of ks b).refs = ap (λ (h : Header). h.nrefs) c.own_header-field-end.ensures.kind in
    let less : c.loop-field.field < length (object_of ks b).refs = omega arith in
    sound_at ks (object_of ks b).refs c.loop-field.field c.own_ref-reference.result
    (subst (λ (rs : List (Option Addr)). All (IsSoundReference ks) rs) (sym (refs_are ks b held)) (c.requires.closed b held)) less c.own_ref-reference.ensures.value

pub loop-field-preserved : goal.loop-field-preserved
loop-field-preserved c = record {
  finds =
      finding.finds_more (HasObjectAt c.args.heap.now.chunks) (λ (a : Addr). Some a) (object_of c.args.heap.now.chunks c.args.object).refs c.loop-field.field c.own_ref-reference.result
      c.args.self.now c.loop-field.self c.visit.new.self c.own_ref-reference.ensures.value
      c.loop-field.invariant.finds c.visit.ensures.finds;
  room = c.visit.ensures.room;
}

pub returns-clause-finds : goal.returns-clause-finds
returns-clause-finds c =
    let ks = c.args.heap.now.chunks in
    let b : Addr = c.args.object in
    let held : HasObjectAt ks b = c.requires.object in
    let refs = refs_are ks b held in
    let count : c.own_header-field-end.result.nrefs ≡ length (object_of ks b).refs = ap (λ (h : Header). h.nrefs) c.own_header-field-end.ensures.kind in
    let done : length (object_of ks b).refs ≤ c.loop-field.field = omega arith in
    finding.finds_list (HasObjectAt ks) (RefersTo ks b) (λ (a : Addr). Some a) (object_of ks b).refs c.loop-field.field c.args.self.now c.loop-field.self done
    (λ a p. (p.1, subst (λ (rs : List (Option Addr)). Contains rs (Some a)) (sym refs) p.2))
    (λ a p. (held, p.0, subst (λ (rs : List (Option Addr)). Contains rs (Some a)) refs p.1)) c.loop-field.invariant.finds
