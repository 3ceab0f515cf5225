-- Options and Booleans: what follows from their tests.
use Rattle.std.proofs.Common.{◌≡◌, Bool, true, false, ◌&&◌, ◌||◌, not, Option, Some, None, is_none, is_some, option_map, IfNone, refl, sym, ◌∙◌}
use Rattle.std.proofs.lemmas.Bool.{false≢true}

pub none_of : {A : Type 0} (o : Option A) → is_some o ≡ false → o ≡ None
none_of None h = refl
none_of (Some x) h = absurd (false≢true (sym h))

pub none_is : {A : Type 0} (o : Option A) → is_none o ≡ true → o ≡ None
none_is None h = refl
none_is (Some x) h = absurd (false≢true h)

pub none_some : {A B : Type 0} {x : A} → ◌≡◌ {A = Option A} None (Some x) → B
none_some e = absurd cc

pub some_none : {A B : Type 0} {x : A} → ◌≡◌ {A = Option A} (Some x) None → B
some_none e = absurd cc

pub some_apart : {A : Type 0} (o : Option A) (x : A) → o ≡ Some x → o ≡ None → ⊥
some_apart o x e n = some_none (sym e ∙ n)

pub some_map : {A B : Type 0} (f : A → B) (o : Option A) → is_some (option_map f o) ≡ is_some o
some_map f None = refl
some_map f (Some x) = refl

pub if_none : {A : Type 0} (o : Option A) (P Q : Type 0) → (P → Q) → IfNone o P → IfNone o Q
if_none None P Q f h = f h
if_none (Some x) P Q f h = h

pub same_truth : (b c : Bool) → (b ≡ true → c ≡ true) → (c ≡ true → b ≡ true) → b ≡ c
same_truth true c f g = sym (f refl)
same_truth false true f g = g refl
same_truth false false f g = refl

pub or_false : (b : Bool) → (b || false) ≡ true → b ≡ true
or_false true h = refl
or_false false h = h

pub and_not_parts : (b c : Bool) → (b && not c) ≡ true → (b ≡ true) × (c ≡ false)
and_not_parts true true h = absurd cc
and_not_parts true false h = (refl, refl)
and_not_parts false c h = absurd cc
