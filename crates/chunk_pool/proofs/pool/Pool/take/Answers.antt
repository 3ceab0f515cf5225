use Rattle.chunk_pool.proofs.Common.{◌≡◌, ◌≢◌, ◌^◌, ◌<◌, ◌≤◌, ℕ, List, Option, None, get_or, sym, ap, ◌∙◌, arith, ChunkValue, Slab, Slot}
use Rattle.chunk_pool.proofs.UnitLemmas.{takes, takes_within}
use Rattle.chunk_pool.proofs.pool.Pool.take.Goals as goal

pub invariant_of-self-2 : goal.invariant_of-self-2
invariant_of-self-2 c =
    let p = c.self.inside in
    let h : Slot = record { owner = c.args.owner; units = c.args.units } in
    let u = c.insert_reserved.ensures.updates in
    let same : c.reserve.new.self.slots ≡ p.slots.slots = ap (λ (s : Slab Slot). s.slots) c.reserve.ensures.rest_kept in
    let free = rw same at c.insert_reserved.ensures.was_vacant in
    let others : (k : ℕ) → k ≢ c.insert_reserved.result → get_or c.insert_reserved.new.self.slots k None ≡ get_or p.slots.slots k None =
    λ k ne. u.others k ne ∙ ap (λ (xs : List (Option Slot)). get_or xs k None) same in
    let within : p.used ≤ p.limit = c.self.invariant.0.within in
    let number : c.insert_reserved.result ≡ c.in-Ok.number = c.insert_reserved.ensures.key ∙ (sym c.vacant_key.ensures.value ∙ sym c.in-Ok.ensures.1) in
    let short : c.insert_reserved.result < 2 ^ 32 = omega arith in
    (takes_within p.limit p.used p.slots.slots c.insert_reserved.new.self.slots c.self.invariant.0 c.insert_reserved.result others h free u.changed (omega arith) (short, c.requires.some), c.chunk_of.ensures.blank)

pub returns-clause-taken : goal.returns-clause-taken
returns-clause-taken c =
    let p = c.self.inside in
    let h : Slot = record { owner = c.args.owner; units = c.args.units } in
    let u = c.insert_reserved.ensures.updates in
    let same : c.reserve.new.self.slots ≡ p.slots.slots = ap (λ (s : Slab Slot). s.slots) c.reserve.ensures.rest_kept in
    let free = rw same at c.insert_reserved.ensures.was_vacant in
    let others : (k : ℕ) → k ≢ c.insert_reserved.result → get_or c.insert_reserved.new.self.slots k None ≡ get_or p.slots.slots k None =
    λ k ne. u.others k ne ∙ ap (λ (xs : List (Option Slot)). get_or xs k None) same in
    let all = takes p.limit p.used p.slots.slots c.insert_reserved.new.self.slots c.self.invariant.0 c.insert_reserved.result others h free u.changed in
    let number : c.insert_reserved.result ≡ c.in-Ok-chunk_of.chunk.number =
    let a : c.in-Ok-chunk_of.chunk.number ≡ c.in-Ok.number = ap (λ (x : ChunkValue). x.number) c.in-Ok-chunk_of.ensures.chunk in
    let b : c.in-Ok.number ≡ c.vacant_key.result = c.in-Ok.ensures.1 in
    c.insert_reserved.ensures.key ∙ (sym c.vacant_key.ensures.value ∙ (sym b ∙ sym a)) in
    rw (← c.self.view_is, ← number) all
