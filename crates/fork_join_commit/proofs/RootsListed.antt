-- The roots of a heap can be listed: each remembered field holds one or none.
use Rattle.fork_join_commit.proofs.Common.{◌≡◌, ◌↔◌, ℕ, Option, Some, None, List, [], ◌∷◌, slice_get, inl, inr, refl, ap, sym, subst, ◌∙◌, cases_eq, same_Some, none_some, Ledger, Addr, Located, RefField, Rests, own, In, Memory, objects, sources, AreRoots, IsSource, MemoryStands, lies_in}

-- this remembered field holds the root
pub record RootBy (v : Memory) (l : Ledger) (t : ℕ) (s : RefField) (a : Addr) : Type 0 where
  pub task : ℕ
  pub object : Located
  pub rests : Rests l task
  pub there : In (objects v task) object
  pub at : object.at ≡ s.object
  pub holds : slice_get object.refs s.field ≡ Some (Some a)
  pub into : v.owner a.chunk ≡ Some t

abbrev pub OneRoot : Memory → Ledger → ℕ → RefField → Type 0
OneRoot v l t s = (o : Option Addr) × ((a : Addr) → (o ≡ Some a) ↔ RootBy v l t s a)

abbrev pub RootsOf : Memory → Ledger → ℕ → List RefField → Type 0
RootsOf v l t ss = (roots : List Addr) × ((a : Addr) → In roots a ↔ ((s : RefField) × In ss s × RootBy v l t s a))

module _ (v : Memory) (l : Ledger) (t : ℕ) (V : MemoryStands v l) where
  module _ (s : RefField) (K : IsSource v l t s) where
    abbrev u : ℕ
    u = own l K.name

    abbrev q : Located
    q = (K.place.here K.rests).0

    q_there : In (objects v u) q
    q_there = (K.place.here K.rests).1

    q_at : q.at ≡ s.object
    q_at = (K.place.here K.rests).2.at

    -- there is no other object at that address
    only : (a : Addr) (R : RootBy v l t s a) → R.object ≡ q
    only a R =
        let same : R.task ≡ u = same_Some R.task u (sym (lies_in v l V R.task R.object R.rests R.there) ∙ (ap (λ (b : Addr). v.owner b.chunk) R.at ∙ K.place.chunk)) in
        (V.belongings u K.rests).once R.object q (subst (λ z. In (objects v z) R.object) same R.there) q_there (R.at ∙ sym q_at)

    held : (a : Addr) → RootBy v l t s a → slice_get q.refs s.field ≡ Some (Some a)
    held a R = ap (λ (z : Located). slice_get z.refs s.field) (sym (only a R)) ∙ R.holds

    none : ((a : Addr) → RootBy v l t s a → ⊥) → OneRoot v l t s
    none never = (None, λ a. ((λ e. none_some e), (λ R. absurd (never a R))))

    by_owner : (a : Addr) → slice_get q.refs s.field ≡ Some (Some a) → (o : Option ℕ) → v.owner a.chunk ≡ o → OneRoot v l t s
    by_owner a e None f = none (λ b R. let same : a ≡ b = same_Some a b (same_Some (Some a) (Some b) (sym e ∙ held b R)) in none_some (sym f ∙ (ap (λ (z : Addr). v.owner z.chunk) same ∙ R.into)))
    by_owner a e (Some z) f = elim (cases_eq z t) [
      | inl y ↦ (
        Some a,
        λ b. (
          (λ g. let same : a ≡ b = same_Some a b g in record { task = u; object = q; rests = K.rests; there = q_there; at = q_at; holds = e ∙ ap (λ (z : Addr). Some (Some z)) same; into = ap (λ (z : Addr). v.owner z.chunk) (sym same) ∙ (f ∙ ap Some y) }),
          (λ R. same_Some (Some a) (Some b) (sym e ∙ held b R)),
        ),
      )
      | inr ne ↦ none (λ b R.
          let same : a ≡ b = same_Some a b (same_Some (Some a) (Some b) (sym e ∙ held b R)) in
          ne (same_Some z t (sym f ∙ (ap (λ (z : Addr). v.owner z.chunk) same ∙ R.into))))
    ]

    by_field : (f : Option (Option Addr)) → slice_get q.refs s.field ≡ f → OneRoot v l t s
    by_field None e = none (λ a R. none_some (sym e ∙ held a R))
    by_field (Some None) e = none (λ a R. none_some (same_Some None (Some a) (sym e ∙ held a R)))
    by_field (Some (Some a)) e = by_owner a e (v.owner a.chunk) refl

    pub one_root : OneRoot v l t s
    one_root = by_field (slice_get q.refs s.field) refl

  add : (s : RefField) (ss : List RefField) (o : Option Addr) → ((a : Addr) → (o ≡ Some a) ↔ RootBy v l t s a) → RootsOf v l t ss → RootsOf v l t (s ∷ ss)
  add s ss None one r = (
    r.0,
    λ a. (
      (λ i. let f = (r.1 a).0 i in (f.0, inr f.1, f.2)),
      (λ f. elim f.1 [
        | inl e ↦ none_some ((one a).1 (subst (λ (z : RefField). RootBy v l t z a) (sym e) f.2))
        | inr i ↦ (r.1 a).1 (f.0, i, f.2)
      ]),
    ),
  )
  add s ss (Some b) one r = (
    b ∷ r.0,
    λ a. (
      (λ i. elim i [
        | inl e ↦ (s, inl refl, (one a).0 (ap Some e))
        | inr j ↦ let f = (r.1 a).0 j in (f.0, inr f.1, f.2)
      ]),
      (λ f. elim f.1 [
        | inl e ↦ inl (same_Some b a ((one a).1 (subst (λ (z : RefField). RootBy v l t z a) (sym e) f.2)))
        | inr i ↦ inr ((r.1 a).1 (f.0, i, f.2))
      ]),
    ),
  )

  roots_of : (ss : List RefField) → ((s : RefField) → In ss s → IsSource v l t s) → RootsOf v l t ss
  roots_of [] each = ([], λ a. ((λ i. absurd i), (λ f. absurd f.1)))
  roots_of (s ∷ ss) each = let o = one_root s (each s (inl refl)) in add s ss o.0 o.1 (roots_of ss (λ z i. each z (inr i)))

  pub roots_are : (roots : List Addr) × AreRoots v l t roots
  roots_are =
      let r = roots_of (sources v t) (λ s i. V.sources t s i) in (
        r.0,
        λ a. (
          (λ i. let f = (r.1 a).0 i in let R : RootBy v l t f.0 a = f.2 in record { source = f.0; task = R.task; object = R.object; rests = R.rests; noted = f.1; there = R.there; at = R.at; holds = R.holds; into = R.into }),
          (λ R. (r.1 a).1 (R.source, R.noted, record { task = R.task; object = R.object; rests = R.rests; there = R.there; at = R.at; holds = R.holds; into = R.into })),
        ),
      )
