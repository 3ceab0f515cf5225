-- Words with a fault are refused.
use Rattle.view_arguments.proofs.Common.{◌≡◌, ◌⊎◌, cond, true, refl, sym, ap, List, [], None, inl, inr, Text, fault_of, matches_of, is_simple, is_simple_and_free, IsAmong, Kinds, is_empty, ErrorKind, among, heaps_app, heaps_in, heaps_line}
use Rattle.clap.specs.declared.error.kind.ErrorKind.TheVariants as kind

pub is_good : is_simple_and_free heaps_app ≡ true
is_good = refl

pub is_plain : is_simple heaps_app ≡ true
is_plain = refl

pub no_line : (words : List Text) (k : ErrorKind) → (k ≡ kind.OutOfMemory → ⊥) → (k ≡ kind.OutOfMemory) ⊎ IsAmong k (fault_of heaps_app words) → None ≡ heaps_line words
no_line words k other h = elim h [
  | inl is ↦ absurd (other is)
  | inr at ↦ ap (λ b. cond b (heaps_in (matches_of heaps_app words)) None) (sym (among k (fault_of heaps_app words) at))
]

pub line_of : (words : List Text) → fault_of heaps_app words ≡ [] → heaps_in (matches_of heaps_app words) ≡ heaps_line words
line_of words e = ap (λ (k : Kinds). cond (is_empty k) (heaps_in (matches_of heaps_app words)) None) (sym e)
