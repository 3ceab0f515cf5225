-- A set after its heap starts or stops keeping references; two clauses of one result.
use Rattle.task_slots.proofs.Common.{◌≡◌, ℕ, ◌&&◌, ◌++◌, ◌∷◌, Bool, true, cond, List, [], Some, Result, Ok, Err, OnErr, OnOk, refl, ap, ap₂, sym, eq-eqb, ne_eqb, ◌∙◌, Addr, RefField, SetOf, with_noted_source, Content, content_of, with_kept, with_source, keeping}

pub both_ok : {A E : Type 0} (r : Result A E) (P Q : Type 0) → OnOk r P → OnOk r Q → OnOk r (P × Q)
both_ok (Ok x) P Q p q = (p, q)
both_ok (Err e) P Q p q = p

pub kept_content : (s s' : SetOf) (keeps : Bool) → s'.remembered ≡ s.remembered → s'.kept.items ≡ [] → s'.keeps ≡ keeps → content_of s' ≡ keeping keeps (content_of s)
kept_content s s' keeps r k b =
    ap (λ z. record (content_of s') { sources = z.sources }) r
    ∙ (ap (λ (xs : List Addr). let c : Content = record { sources = s.remembered.sources; kept = xs; keeps = s'.keeps } in c) k
    ∙ ap (λ (x : Bool). let c : Content = record { sources = s.remembered.sources; kept = []; keeps = x } in c) b)

pub keeps_same : {A E : Type 0} (r : Result A E) (s s' : SetOf) (xs : List RefField) → OnOk r (content_of s' ≡ record (content_of s) { sources = xs }) → OnErr r (content_of s' ≡ content_of s) → s'.keeps ≡ s.keeps
keeps_same (Ok x) s s' xs ok err = ap (λ (c : Content). c.keeps) ok
keeps_same (Err e) s s' xs ok err = ap (λ (c : Content). c.keeps) err

pub source_here : (t : ℕ) (s : RefField) (c : Content) → with_source (Some t) s t c ≡ record c { sources = with_noted_source c.sources s }
source_here t s c = ap (λ b. cond b (record c { sources = with_noted_source c.sources s }) c) (eq-eqb t t refl)

pub source_off : (t u : ℕ) (s : RefField) (c : Content) → (u ≡ t → ⊥) → with_source (Some t) s u c ≡ c
source_off t u s c ne = ap (λ b. cond b (record c { sources = with_noted_source c.sources s }) c) (ne_eqb t u (λ e. ne (sym e)))

pub kept_here : (t : ℕ) (a : Addr) (c : Content) → c.keeps ≡ true → with_kept (Some t) (Some a) t c ≡ record c { kept = c.kept ++ a ∷ [] }
kept_here t a c k = ap₂ (λ x y. cond (x && y) (record c { kept = c.kept ++ a ∷ [] }) c) (eq-eqb t t refl) k

pub kept_off : (t u : ℕ) (a : Addr) (c : Content) → (u ≡ t → ⊥) → with_kept (Some t) (Some a) u c ≡ c
kept_off t u a c ne = ap (λ b. cond (b && c.keeps) (record c { kept = c.kept ++ a ∷ [] }) c) (ne_eqb t u (λ e. ne (sym e)))
