-- What is known when one thing more has happened.
use Rattle.log_pieces.proofs.Common.{◌≡◌, ◌==◌, ℕ, Bool, true, false, List, [], ◌∷◌, ◌++◌, cond, not, refl, ap, sym, ◌∙◌, nat_eq, ◌||◌, ◌&&◌, list_any, contains, Act, GraphStrand, strand, Event, event, is_on, is_last, has_ended, spawns, bears, releases, is_born, is_released, Claims, ClaimsHold, is_pair, is_that}

pub or_false : (b : Bool) → b ≡ (b || false)
or_false true = refl
or_false false = refl

and_false : (a b : Bool) → b ≡ (b || (a && false))
and_false true b = or_false b
and_false false b = or_false b

and_true : (a b : Bool) → (b || a) ≡ (b || (a && true))
and_true true b = refl
and_true false b = refl

pub cond_or : (a b : Bool) → cond a true b ≡ (b || a)
cond_or true true = refl
cond_or true false = refl
cond_or false true = refl
cond_or false false = refl

pub or_assoc : (a b c : Bool) → (a || (b || c)) ≡ ((a || b) || c)
or_assoc true b c = refl
or_assoc false b c = refl

or_only : (b : Bool) → (b || false) ≡ b
or_only b = sym (or_false b)

any_more : {X : Type 0} (p : X → Bool) (xs : List X) (x : X) → list_any p (xs ++ x ∷ []) ≡ (list_any p xs || p x)
any_more p [] x = or_only (p x)
any_more p (y ∷ ys) x = ap (λ b. p y || b) (any_more p ys x) ∙ or_assoc (p y) (list_any p ys) (p x)

-- the sets of names as they are when an act more has happened
pub record Grows (old new : Claims) (u : GraphStrand) (act : Act) : Type 0 where
  pub ended : (t i : ℕ) → contains is_pair new.ended (t, i) ≡ (contains is_pair old.ended (t, i) || (is_that u t i && is_last act))
  pub spawned : (c : ℕ) → contains nat_eq new.spawned c ≡ (contains nat_eq old.spawned c || spawns c act)
  pub born : (b : ℕ) → contains nat_eq new.born b ≡ (contains nat_eq old.born b || bears b act)
  pub released : (b : ℕ) → contains nat_eq new.released b ≡ (contains nat_eq old.released b || releases b act)

pub known_after : (old new : Claims) (u : GraphStrand) (act : Act) → Grows old new u act → (events : List Event) → ClaimsHold old events → ClaimsHold new (events ++ event u act ∷ [])
known_after old new u act g events k = record {
  ended = λ t i. g.ended t i ∙ ap (λ b. b || (is_that u t i && is_last act)) (k.ended t i) ∙ sym (any_more (λ e. is_on (strand t i) e && is_last e.act) events (event u act));
  spawned = λ c. g.spawned c ∙ ap (λ b. b || spawns c act) (k.spawned c) ∙ sym (any_more (λ e. spawns c e.act) events (event u act));
  born = λ b. g.born b ∙ ap (λ x. x || bears b act) (k.born b) ∙ sym (any_more (λ e. bears b e.act) events (event u act));
  released = λ b. g.released b ∙ ap (λ x. x || releases b act) (k.released b) ∙ sym (any_more (λ e. releases b e.act) events (event u act));
}
