-- The names of lower crates and of the specifications that these proofs use. Declares nothing.
pub use Rattle.jump_pointers.specs.Laws.{LinksGoOn}
pub use Rattle.jump_pointers.specs.Links.{AreLinked, HasRank, IsNextLink, Within, span, HasOneMore, IsNewLink, next_far}
pub use Rattle.jump_pointers.specs.Lists.{parent_of_link, depth_in, far_in, up_from, depth_at, far_at, IsUp, new_link, AreLinks}
pub use Rattle.jump_pointers.specs.Walk.{ancestor}
pub use Rattle.jump_pointers.specs.declared.links.Link.{Link}
pub use Rattle.plain_vec.proofs.Members.{got_front, got_past}
pub use Rattle.plain_vec.proofs.Numbers.{below_next}
pub use Rattle.plain_vec.proofs.Places.{got_last}
pub use Rattle.std.proofs.Common.{◌≡◌, ℕ, zero, suc, ◌+◌, ◌-◌, ◌*◌, ◌^◌, ◌<◌, ◌≤◌, Option, Some, inl, inr, refl, sym, ap, subst, ◌∙◌, arith, ◌≢◌, ◌==◌, Bool, true, false, cond, None, ◌⊎◌, eqb-true, eq-eqb, List, [], ◌∷◌, ◌++◌, length, slice_get, length-append, rules}
pub use Rattle.std.proofs.lemmas.Bool.{cases_lt, false≢true}
pub use Rattle.std.proofs.lemmas.Nat.{pow_below}
pub use Rattle.std.proofs.lemmas.Option.{same_Some}
pub use Rattle.std.specs.Prelude.{option_and_then, IfSome}
