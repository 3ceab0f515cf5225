-- The names of lower crates and of the specifications that these proofs use. Declares nothing.
pub use Rattle.chunk_pool.specs.Laws.{OwnersFrom, OwnersStay, TakenAreOwned}
pub use Rattle.chunk_pool.specs.PoolValue.{AreNumbered, IsBlank, NumbersBehind, slot_in, one_unit, slot_units, units_in, PoolValue, slot_at, owner_of, KeepsOthers, Reserves, Releases, Relabels, UnitsAreCounted, AreChunks}
pub use Rattle.chunk_pool.specs.declared.pool.Slot.{Slot}
pub use Rattle.object_layout.proofs.Owning.{apart_more, has_append, has_one}
pub use Rattle.object_layout.specs.ChunkValue.{ChunkValue}
pub use Rattle.object_layout.specs.Chunks.{has_chunk}
pub use Rattle.slab.specs.Slab.{HasRoomFor, Slab}
pub use Rattle.std.proofs.Common.{◌≡◌, ◌≢◌, ℕ, ◌+◌, true, false, cond, ◌||◌, Option, Some, None, List, [], ◌∷◌, ◌++◌, length, length-append, get_or, sym, ap, ◌∙◌, inl, inr, eqb, arith, append_assoc, Bool, ◌⊎◌, refl, subst, IfSome, zero, suc, ◌-◌, ◌^◌, ◌<◌, ◌≤◌, set, rules, vec_len, vec_capacity}
pub use Rattle.std.proofs.Math.Bool.{or-false, or-true}
pub use Rattle.std.proofs.lemmas.Bool.{cases_Bool, cases_eq, eq-eqb, ne_eqb, cond-true, cond-false, false≢true}
pub use Rattle.std.proofs.lemmas.List.{get_or-set_same, get_or-set_other}
pub use Rattle.std.proofs.lemmas.List.Elements.{All-append, All-cons, All-head, All-nil, All-tail}
pub use Rattle.std.proofs.lemmas.Option.{same_Some}
pub use Rattle.std.specs.Prelude.{All, IsSome, option_map}
