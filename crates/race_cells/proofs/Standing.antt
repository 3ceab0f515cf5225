-- Which entries of a stack stand for which accesses.
use Rattle.race_cells.proofs.Common.{◌≡◌, ℕ, ◌<◌, ◌≤◌, Bool, true, false, cond, List, [], ◌∷◌, ◌⊎◌, inl, inr, refl, sym, subst, ◌∙◌, arith, leb-true, In, CellEntry, StrandOrder, ExtendsPrecedence, MeetsAsInTree, is_low, last_to_leave, lowered, lowered_stack, settled, without_earlier}

-- the entries' strands don't rise from the top down, and none is past v
abbrev pub Falling : ℕ → List CellEntry → Type 0
Falling v [] = Unit {0}
Falling v (e ∷ es) = (e.strand ≤ v) × Falling e.strand es

pub falling_later : (v w : ℕ) (es : List CellEntry) → v ≤ w → Falling v es → Falling w es
falling_later v w [] le f = tt
falling_later v w (e ∷ es) le f = (let h : e.strand ≤ v = f.0 in omega arith, f.1)

pub falling_in : (v : ℕ) (es : List CellEntry) (e : CellEntry) → Falling v es → In es e → e.strand ≤ v
falling_in v [] e f i = absurd i
falling_in v (x ∷ xs) e f (inl is) = subst (λ (y : CellEntry). y.strand ≤ v) is f.0
falling_in v (x ∷ xs) e f (inr i) = let a : e.strand ≤ x.strand = falling_in x.strand xs e f.1 i in let b : x.strand ≤ v = f.0 in omega arith

module _ (o : StrandOrder) (order : ExtendsPrecedence o) (tree : MeetsAsInTree o) where
  -- from now on y stands for x: what y happens before x does too
  pub record StandsFor (now y x : ℕ) : Type 0 where
    pub on : (w : ℕ) → now ≤ w → w < o.strands → o.before y w ≡ true → o.before x w ≡ true

  pub stands_itself : (now x : ℕ) → StandsFor now x x
  stands_itself now x = record { on = λ w le lt h. h }

  pub stands_through : (now z y x : ℕ) → StandsFor now z y → StandsFor now y x → StandsFor now z x
  stands_through now z y x a b = record { on = λ w le lt h. b.on w le lt (a.on w le lt h) }

  pub stands_later : (now then' y x : ℕ) → now ≤ then' → StandsFor now y x → StandsFor then' y x
  stands_later now then' y x late a = record { on = λ w le lt h. a.on w (omega arith) lt h }

  pub stands_after : (now y x : ℕ) → o.before x y ≡ true → StandsFor now y x
  stands_after now y x h = record { on = λ w le lt g. order.through x y w lt h g }

  -- ---- without those at the top that happen before v

  earlier_step : (v : ℕ) (u e : CellEntry) (us : List CellEntry) (b : Bool) → o.before u.strand v ≡ b
      → (In us e → In (without_earlier o v us) e ⊎ (o.before e.strand v ≡ true))
      → In (u ∷ us) e → In (cond b (without_earlier o v us) (u ∷ us)) e ⊎ (o.before e.strand v ≡ true)
  earlier_step v u e us true is rest (inl same) = inr (subst (λ (x : CellEntry). o.before x.strand v ≡ true) same is)
  earlier_step v u e us true is rest (inr i) = rest i
  earlier_step v u e us false is rest i = inl i

  left_or_earlier : (v : ℕ) (us : List CellEntry) (e : CellEntry) → In us e → In (without_earlier o v us) e ⊎ (o.before e.strand v ≡ true)
  left_or_earlier v [] e i = absurd i
  left_or_earlier v (u ∷ us) e i = earlier_step v u e us (o.before u.strand v) refl (left_or_earlier v us e) i

  from_left_step : (v : ℕ) (u e : CellEntry) (us : List CellEntry) (b : Bool) → (In (without_earlier o v us) e → In us e)
      → In (cond b (without_earlier o v us) (u ∷ us)) e → In (u ∷ us) e
  from_left_step v u e us true rest i = inr (rest i)
  from_left_step v u e us false rest i = i

  from_left : (v : ℕ) (us : List CellEntry) (e : CellEntry) → In (without_earlier o v us) e → In us e
  from_left v [] e i = i
  from_left v (u ∷ us) e i = from_left_step v u e us (o.before u.strand v) (from_left v us e) i

  falling_left_step : (v now : ℕ) (u : CellEntry) (us : List CellEntry) (b : Bool) → (Falling u.strand us → Falling u.strand (without_earlier o v us))
      → Falling now (u ∷ us) → Falling now (cond b (without_earlier o v us) (u ∷ us))
  falling_left_step v now u us true rest f = falling_later u.strand now (without_earlier o v us) f.0 (rest f.1)
  falling_left_step v now u us false rest f = f

  pub falling_left : (v now : ℕ) (us : List CellEntry) → Falling now us → Falling now (without_earlier o v us)
  falling_left v now [] f = f
  falling_left v now (u ∷ us) f = falling_left_step v now u us (o.before u.strand v) (falling_left v u.strand us) f

  -- ---- of two that meet low one stands for both

  record StandsForBoth (v : ℕ) (below top stays : CellEntry) : Type 0 where
    for_below : StandsFor v stays.strand below.strand
    for_top : StandsFor v stays.strand top.strand
    one_of : (stays ≡ top) ⊎ (stays ≡ below)

  stays_step : (v : ℕ) (below top : CellEntry) (b : Bool) → o.leaves_first below.strand top.strand ≡ b → below.strand ≤ top.strand → top.strand ≤ v
      → o.meeting top.strand v ≤ o.meeting below.strand top.strand → StandsForBoth v below top (cond b top below)
  stays_step v below top true is rise late low = record {
    for_below = record { on = λ w le lt h. tree.first below.strand top.strand v w rise late le lt low is h };
    for_top = stands_itself v top.strand;
    one_of = inl refl;
  }
  stays_step v below top false is rise late low = record {
    for_below = stands_itself v below.strand;
    for_top = record { on = λ w le lt h. tree.second below.strand top.strand v w rise late le lt low is h };
    one_of = inr refl;
  }

  stays : (v : ℕ) (below top : CellEntry) → below.strand ≤ top.strand → top.strand ≤ v → is_low o v below top ≡ true
      → StandsForBoth v below top (last_to_leave o below top)
  stays v below top rise late low =
      stays_step v below top (o.leaves_first below.strand top.strand) refl rise late (leb-true (o.meeting top.strand v) (o.meeting below.strand top.strand) low)

  falls_again : (v : ℕ) (below top : CellEntry) (rest : List CellEntry) → Falling v (top ∷ (below ∷ rest)) → (stay : CellEntry) → (stay ≡ top) ⊎ (stay ≡ below) → Falling v (stay ∷ rest)
  falls_again v below top rest f stay (inl is) =
      let a : top.strand ≤ v = f.0 in
      let b : below.strand ≤ top.strand = f.1.0 in
      subst (λ (x : CellEntry). Falling v (x ∷ rest)) (sym is) (a, falling_later below.strand top.strand rest b f.1.1)
  falls_again v below top rest f stay (inr is) =
      let a : top.strand ≤ v = f.0 in
      let b : below.strand ≤ top.strand = f.1.0 in
      subst (λ (x : CellEntry). Falling v (x ∷ rest)) (sym is) (omega arith, f.1.1)

  -- what a lowered stack is: its entries stand for all that were there, are among these, and fall
  pub record IsLowered (v : ℕ) (old new : List CellEntry) : Type 0 where
    pub stands : (e : CellEntry) → In old e → (e' : CellEntry) × In new e' × StandsFor v e'.strand e.strand
    pub among : (e : CellEntry) → In new e → In old e
    pub falls : Falling v new

  same_lowered : (v : ℕ) (es : List CellEntry) → Falling v es → IsLowered v es es
  same_lowered v es f = record { stands = λ e i. (e, i, stands_itself v e.strand); among = λ e i. i; falls = f }

  lowered_in : (v : ℕ) (below top stay : CellEntry) (rest new : List CellEntry) → StandsForBoth v below top stay → IsLowered v (stay ∷ rest) new
      → (e : CellEntry) → In (top ∷ (below ∷ rest)) e → (e' : CellEntry) × In new e' × StandsFor v e'.strand e.strand
  lowered_in v below top stay rest new both low e (inl is) =
      let r = low.stands stay (inl refl) in
      (r.0, r.1, subst (λ (x : CellEntry). StandsFor v r.0.strand x.strand) is (stands_through v r.0.strand stay.strand top.strand r.2 both.for_top))
  lowered_in v below top stay rest new both low e (inr (inl is)) =
      let r = low.stands stay (inl refl) in
      (r.0, r.1, subst (λ (x : CellEntry). StandsFor v r.0.strand x.strand) is (stands_through v r.0.strand stay.strand below.strand r.2 both.for_below))
  lowered_in v below top stay rest new both low e (inr (inr i)) = low.stands e (inr i)

  lowered_among : (below top stay : CellEntry) (rest : List CellEntry) → (stay ≡ top) ⊎ (stay ≡ below) → (e : CellEntry) → In (stay ∷ rest) e → In (top ∷ (below ∷ rest)) e
  lowered_among below top stay rest one e (inl is) = elim one [ inl t ↦ inl (sym t ∙ is) | inr t ↦ inr (inl (sym t ∙ is)) ]
  lowered_among below top stay rest one e (inr i) = inr (inr i)

  lowered_step : (v : ℕ) (below top : CellEntry) (rest : List CellEntry) (b : Bool) → is_low o v below top ≡ b → Falling v (top ∷ (below ∷ rest))
      → ((stay : CellEntry) → Falling v (stay ∷ rest) → IsLowered v (stay ∷ rest) (lowered o v stay rest))
      → IsLowered v (top ∷ (below ∷ rest)) (cond b (lowered o v (last_to_leave o below top) rest) (top ∷ (below ∷ rest)))
  lowered_step v below top rest true low f more =
      let both = stays v below top f.1.0 f.0 low in
      let stay = last_to_leave o below top in
      let next = more stay (falls_again v below top rest f stay both.one_of) in
      record {
        stands = lowered_in v below top stay rest (lowered o v stay rest) both next;
        among = λ e i. lowered_among below top stay rest both.one_of e (next.among e i);
        falls = next.falls;
      }
  lowered_step v below top rest false low f more = same_lowered v (top ∷ (below ∷ rest)) f

  is_lowered_from : (v : ℕ) (rest : List CellEntry) (top : CellEntry) → Falling v (top ∷ rest) → IsLowered v (top ∷ rest) (lowered o v top rest)
  is_lowered_from v [] top f = same_lowered v (top ∷ []) f
  is_lowered_from v (below ∷ rest) top f = lowered_step v below top rest (is_low o v below top) refl f (is_lowered_from v rest)

  is_lowered : (v : ℕ) (stack : List CellEntry) → Falling v stack → IsLowered v stack (lowered_stack o v stack)
  is_lowered v [] f = same_lowered v [] f
  is_lowered v (top ∷ rest) f = is_lowered_from v rest top f

  -- ---- the stack after v

  pub settled_stands : (v : CellEntry) (stack : List CellEntry) → Falling v.strand stack → (e : CellEntry) → In stack e
      → (e' : CellEntry) × In (settled o v stack) e' × StandsFor v.strand e'.strand e.strand
  settled_stands v stack f e i =
      elim (left_or_earlier v.strand stack e i) [
        | inl left ↦
            let r = (is_lowered v.strand (without_earlier o v.strand stack) (falling_left v.strand v.strand stack f)).stands e left in
            (r.0, inr r.1, r.2)
        | inr early ↦ (v, inl refl, stands_after v.strand v.strand e.strand early)
      ]

  pub settled_among : (v : CellEntry) (stack : List CellEntry) → Falling v.strand stack → (e : CellEntry) → In (settled o v stack) e → (v ≡ e) ⊎ In stack e
  settled_among v stack f e (inl is) = inl is
  settled_among v stack f e (inr i) =
      inr (from_left v.strand stack e ((is_lowered v.strand (without_earlier o v.strand stack) (falling_left v.strand v.strand stack f)).among e i))

  pub settled_falls : (v : CellEntry) (stack : List CellEntry) → Falling v.strand stack → Falling v.strand (settled o v stack)
  settled_falls v stack f =
      (omega arith, (is_lowered v.strand (without_earlier o v.strand stack) (falling_left v.strand v.strand stack f)).falls)
