-- Noted sources are distinct.
use Rattle.std.proofs.Common.{eqb-true, eq-eqb}
use Rattle.remembered_set.proofs.Common.{◌≡◌, ℕ, Bool, true, false, cond, ◌||◌, List, [], ◌∷◌, ◌++◌, refl, sym, ap, ◌∙◌, eqb, ◌&&◌, and_parts, false≢true, or_parts, or-false, or_assoc, RefField, has_source, with_noted_source, same_source, StandOnce}

-- the test of sources decides equality
pub same_is : (a b : RefField) → same_source a b ≡ true → a ≡ b
same_is a b e =
    let both = (and_parts ((eqb a.object.chunk b.object.chunk) && (eqb a.object.offset b.object.offset)) (eqb a.field b.field) e).0 in
    let field : a.field ≡ b.field = eqb-true a.field b.field (and_parts ((eqb a.object.chunk b.object.chunk) && (eqb a.object.offset b.object.offset)) (eqb a.field b.field) e).1 in
    let chunk : a.object.chunk ≡ b.object.chunk = eqb-true a.object.chunk b.object.chunk (and_parts (eqb a.object.chunk b.object.chunk) (eqb a.object.offset b.object.offset) both).0 in
    let offset : a.object.offset ≡ b.object.offset = eqb-true a.object.offset b.object.offset (and_parts (eqb a.object.chunk b.object.chunk) (eqb a.object.offset b.object.offset) both).1 in
    let one : a ≡ record { object = record { chunk = b.object.chunk; offset = a.object.offset }; field = a.field } =
    ap (λ (n : ℕ). let s : RefField = record { object = record { chunk = n; offset = a.object.offset }; field = a.field } in s) chunk in
    let two : record { object = record { chunk = b.object.chunk; offset = a.object.offset }; field = a.field } ≡ record { object = b.object; field = a.field } =
    ap (λ (n : ℕ). let s : RefField = record { object = record { chunk = b.object.chunk; offset = n }; field = a.field } in s) offset in
    let three : record { object = b.object; field = a.field } ≡ b = ap (λ (n : ℕ). let s : RefField = record { object = b.object; field = n } in s) field in
    one ∙ (two ∙ three)

pub same_self : (a : RefField) → same_source a a ≡ true
same_self a = rw (eq-eqb a.object.chunk a.object.chunk refl, eq-eqb a.object.offset a.object.offset refl, eq-eqb a.field a.field refl) refl

has_more : (xs : List RefField) (s t : RefField) → has_source (xs ++ s ∷ []) t ≡ (has_source xs t || same_source t s)
has_more [] s t = or-false (same_source t s)
has_more (x ∷ xs) s t = ap (λ b. same_source t x || b) (has_more xs s t) ∙ sym (or_assoc (same_source t x) (has_source xs t) (same_source t s))

apart_by : (b : Bool) (x s : RefField) → same_source x s ≡ b → same_source s x ≡ false → b ≡ false
apart_by false x s e n = refl
apart_by true x s e n = absurd (false≢true (sym n ∙ (ap (λ (y : RefField). same_source s y) (same_is x s e) ∙ same_self s)))

once_more : (xs : List RefField) (s : RefField) → has_source xs s ≡ false → StandOnce xs → StandOnce (xs ++ s ∷ [])
once_more [] s e h = (refl, tt)
once_more (x ∷ xs) s e h =
    let apart : same_source x s ≡ false = apart_by (same_source x s) x s refl (or_parts (same_source s x) (has_source xs s) e).0 in (
      has_more xs s x ∙ (ap (λ b. b || same_source x s) h.0 ∙ apart),
      once_more xs s (or_parts (same_source s x) (has_source xs s) e).1 h.1,
    )

once_by : (b : Bool) (xs : List RefField) (s : RefField) → has_source xs s ≡ b → StandOnce xs → StandOnce (cond b xs (xs ++ s ∷ []))
once_by true xs s e h = h
once_by false xs s e h = once_more xs s e h

pub once_noted : (xs : List RefField) (s : RefField) → StandOnce xs → StandOnce (with_noted_source xs s)
once_noted xs s h = once_by (has_source xs s) xs s refl h
