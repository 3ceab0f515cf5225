-- What a call asks, for the value inside, and what it answers, in the order of the causes.
use Rattle.shared_tree.proofs.Common.{◌≡◌, true, false, Option, None, is_some, ap, sym, subst, ◌∙◌, EntryValue, Refused, is_fuel, first_cause, or_else, SharedValue, IsSharedValue, refused, first_answer, found_first, nothing_first}

pub free_inside : {w old : SharedValue} (e : EntryValue) → w ≡ old → refused old e ≡ None → refused w e ≡ None
free_inside e same free = subst (λ z. refused z e ≡ None) (sym same) free

-- one that precedes those of the entry's kind is the answer
pub by_first_cause : {w old : SharedValue} → w ≡ old → IsSharedValue w → (e : EntryValue) (o : Option Refused) → o ≡ first_cause w.end w.steps w.settings e.worker (is_fuel e.kind) → is_some o ≡ true → o ≡ refused old e
by_first_cause {w} same I e o is some = is ∙ (sym (first_answer w I e (ap is_some (sym is) ∙ some)) ∙ ap (λ z. refused z e) same)

-- a cause that is found first is the answer, and else what follows it is
pub by_first : {a r : Option Refused} (b : Option Refused) → r ≡ or_else a b → (o : Option Refused) → o ≡ a → is_some o ≡ true → o ≡ r
by_first {a} b answer o is some = is ∙ (found_first a b (ap is_some (sym is) ∙ some) ∙ sym answer)

pub by_next : {a b r : Option Refused} → r ≡ or_else a b → (o : Option Refused) → o ≡ a → is_some o ≡ false → b ≡ r
by_next {a} {b} answer o is none = nothing_first a b (ap is_some (sym is) ∙ none) ∙ sym answer
