-- An answer that was delivered is the call's answer.
use Rattle.command_answers.proofs.Common.{◌⊎◌, ◌≡◌, ◌≤◌, ◌+◌, ℕ, List, [], length, refl, sym, subst, inl, inr, arith, Option, Some, Result, Ok, Err, IfOk, IfErr, with_more, EntryValue, SharedValue, CommandStatus, Trap, ReadFault, WriteFault, Answer, CallResult, Wanted, Before, Amid, GivesAll, NoFault, DeliversNothing, DeliversBy, DeliversResult, Delivered, ReturnsBlock, GivesFound, ReturnsNothing, ReturnsWanted, IsAnswered, IsWanted}
use Rattle.command_answers.specs.declared.answer.CommandStatus.TheVariants.{Done, Words, Source, Entangled, Fuel, Pool, NoMemory, Trace, Races, Image}
use Rattle.command_answers.proofs.Answered.{never_read_fault}

-- what a run leaves
abbrev pub Leaves : Type 1
Leaves = List EntryValue → Option SharedValue → Type 0

abbrev Given : (Answer → Type 0) → CallResult → Option (List ℕ) → Option (List ℕ) → CommandStatus → Type 0
Given P r before after s = (a : Answer) × P a × (a.status ≡ s) × (r.journal ≡ a.journal) × (r.shared ≡ a.shared) × (after ≡ with_more before a.bytes)

whole : (P : Answer → Type 0) (L : Leaves) (r : CallResult) (before after : Option (List ℕ)) (s : CommandStatus) → IsAnswered s → Given P r before after s → DeliversBy s P L r before after
whole P L r before after Done ok g = g
whole P L r before after Words ok g = g
whole P L r before after Source ok g = g
whole P L r before after Trap ok g = g
whole P L r before after Entangled ok g = g
whole P L r before after Fuel ok g = g
whole P L r before after Pool ok g = g
whole P L r before after Trace ok g = g
whole P L r before after Races ok g = g
whole P L r before after Image ok g = g
whole P L r before after ReadFault ok g = absurd ok
whole P L r before after WriteFault ok g = absurd ok
whole P L r before after NoMemory ok g = absurd ok

pub delivers : (P : Answer → Type 0) (L : Leaves) (a : Answer) (r : CallResult) (before after : Option (List ℕ)) → P a → IsAnswered a.status → Delivered a r before after → DeliversResult P L r before after
delivers P L a r before after p ok d = elim d.written [
  | inl w ↦ subst (λ s. DeliversBy s P L r before after) (sym w.0) (whole P L r before after a.status ok (a, p, refl, d.journal, d.shared, w.1))
  | inr w ↦ subst (λ s. DeliversBy s P L r before after) (sym w.0) (a, w.1.0, p, d.journal, d.shared, w.1.1)
]

-- NO FAULT

all_given : (P : Answer → Type 0) (r : CallResult) (before after : Option (List ℕ)) (s : CommandStatus) → r.status ≡ s → Given P r before after s → GivesAll P r before after
all_given P r before after s e g = inr (g.0, g.1, (let f = g.2 in cc), g.3, g.4, g.5)

by_status : (P : Answer → Type 0) (L : Leaves) (r : CallResult) (before after : Option (List ℕ)) (s : CommandStatus) → r.status ≡ s → DeliversBy s P L r before after → NoFault r → GivesAll P r before after
by_status P L r before after Done e d none = all_given P r before after Done e d
by_status P L r before after Words e d none = all_given P r before after Words e d
by_status P L r before after Source e d none = all_given P r before after Source e d
by_status P L r before after Trap e d none = all_given P r before after Trap e d
by_status P L r before after Entangled e d none = all_given P r before after Entangled e d
by_status P L r before after Fuel e d none = all_given P r before after Fuel e d
by_status P L r before after Pool e d none = all_given P r before after Pool e d
by_status P L r before after Trace e d none = all_given P r before after Trace e d
by_status P L r before after Races e d none = all_given P r before after Races e d
by_status P L r before after Image e d none = all_given P r before after Image e d
by_status P L r before after ReadFault e d none = absurd (none.read e)
by_status P L r before after WriteFault e d none = absurd (none.write e)
by_status P L r before after NoMemory e d none = inl e

pub gives_all : (P : Answer → Type 0) (L : Leaves) (r : CallResult) (before after : Option (List ℕ)) → DeliversResult P L r before after → NoFault r → GivesAll P r before after
gives_all P L r before after d none = by_status P L r before after r.status refl d none

-- NOTHING WAS ANSWERED

abbrev pub IsSilent : CommandStatus → Type 0
IsSilent ReadFault = Unit {0}
IsSilent NoMemory = Unit {0}
IsSilent _ = ⊥

silent : (P : Answer → Type 0) (L : Leaves) (r : CallResult) (w : Option (List ℕ)) (s : CommandStatus) → IsSilent s → DeliversNothing r w w → DeliversBy s P L r w w
silent P L r w ReadFault ok h = h
silent P L r w NoMemory ok h = inl h
silent P L r w Done ok h = absurd ok
silent P L r w Words ok h = absurd ok
silent P L r w Source ok h = absurd ok
silent P L r w Trap ok h = absurd ok
silent P L r w Entangled ok h = absurd ok
silent P L r w Fuel ok h = absurd ok
silent P L r w Pool ok h = absurd ok
silent P L r w Trace ok h = absurd ok
silent P L r w Races ok h = absurd ok
silent P L r w Image ok h = absurd ok
silent P L r w WriteFault ok h = absurd ok

pub nothing_given : (P : Answer → Type 0) (L : Leaves) (r : CallResult) (w : Option (List ℕ)) (s : CommandStatus) → IsSilent s → ReturnsNothing s r → DeliversResult P L r w w
nothing_given P L r w s ok h = subst (λ x. DeliversBy x P L r w w) (sym h.status) (silent P L r w s ok (h.journal, h.shared, refl))

-- what is left of a run that ran out of memory is returned
handed : (L : Leaves) (found : Wanted) (r : CallResult) (w : Option (List ℕ)) → IsWanted L found → ReturnsWanted found r → DeliversNothing r w w ⊎ (L r.journal r.shared × (w ≡ w))
handed L Before r w h hands = inl (hands.0, hands.1, refl)
handed L (Amid journal remains) r w h hands = inr (subst (L r.journal) (sym hands.1) (subst (λ j. L j (Some remains)) (sym hands.0) h), refl)

pub want_given : (P : Answer → Type 0) (L : Leaves) (found : Wanted) (r : CallResult) (w : Option (List ℕ)) → IsWanted L found → ReturnsBlock found r → DeliversResult P L r w w
want_given P L found r w h g = subst (λ x. DeliversBy x P L r w w) (sym g.status) (handed L found r w h g.returned)

-- whichever of the two was found
pub found_given : (P : Answer → Type 0) (L : Leaves) (found : Result Answer Wanted) (r : CallResult) (before after : Option (List ℕ)) → IfOk found P → IfErr found (IsWanted L) → IfOk found (λ a. IsAnswered a.status)
    → GivesFound found r before after → DeliversResult P L r before after
found_given P L (Ok a) r before after h w ok d = delivers P L a r before after h ok d
found_given P L (Err x) r before after h w ok d = subst (λ (v : Option (List ℕ)). DeliversResult P L r before v) (sym d.1) (want_given P L x r before w d.0)

pub found_no_read : (found : Result Answer Wanted) (r : CallResult) (before after : Option (List ℕ)) → IfOk found (λ a. IsAnswered a.status) → GivesFound found r before after → r.status ≡ ReadFault → ⊥
found_no_read (Ok a) r before after ok d e = never_read_fault a r before after ok d e
found_no_read (Err x) r before after ok d e = (let s = d.0.status in cc)

-- then the empty input serves as well as any
pub some_silent : (P : List ℕ → Answer → Type 0) (L : List ℕ → Leaves) (limit : ℕ) (r : CallResult) (w : Option (List ℕ)) (s : CommandStatus) → IsSilent s → ReturnsNothing s r
    → (input : List ℕ) × (length input ≤ limit + 1) × DeliversResult (P input) (L input) r w w
some_silent P L limit r w s ok h = ([], omega arith, nothing_given (P []) (L []) r w s ok h)
