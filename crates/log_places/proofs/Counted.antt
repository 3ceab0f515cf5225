-- How many stretches marked regions have.
use Rattle.log_places.proofs.Common.{◌≡◌, ℕ, ◌+◌, ◌*◌, ◌/◌, ◌%◌, ◌<◌, ◌≤◌, Bool, true, false, cond, List, [], ◌∷◌, ◌++◌, map, length, inl, inr, refl, ap, sym, subst, ◌∙◌, arith, sum_by, list_any, cases_lt, false≢true, length-append, length-map, sum_by-cons, insert_key, In, in_append_left, in_append_right, in_append_cases, any_from_in, in_map, map_in, Stretch, PageKey, Region, Ascending, at, found, page_key, same_page, PlacesValue, stretch_count, IsAccessed, IsEdge, BeginsStretch, AreDifferent, HaveStretches, AreMarked}
use Rattle.log_places.proofs.Marking.{ascending_in}
use Rattle.log_places.proofs.Finding.{same_keys, same_itself}

-- LISTS WITHOUT REPEATS

pub different_append : {A : Type 0} (xs ys : List A) → AreDifferent xs → AreDifferent ys → ((x : A) → In xs x → In ys x → ⊥) → AreDifferent (xs ++ ys)
different_append [] ys d e apart = e
different_append (x ∷ xs) ys d e apart = (
  λ i. elim (in_append_cases xs ys x i) [
    | inl j ↦ d.0 j
    | inr j ↦ apart x (inl refl) j
  ],
  different_append xs ys d.1 e (λ y i j. apart y (inr i) j),
)

one_more_by : (xs : List PageKey) (k : PageKey) (b : Bool) → list_any (same_page k) xs ≡ b → AreDifferent xs → AreDifferent (cond b xs (xs ++ k ∷ []))
one_more_by xs k true e d = d
one_more_by xs k false e d =
    different_append xs (k ∷ []) d (λ i. i, tt)
    (λ x i j. elim j [
      | inl is ↦ false≢true (sym e ∙ any_from_in (same_page k) xs x i (subst (λ (q : PageKey). same_page k q ≡ true) is (same_itself k)))
      | inr none ↦ none
    ])

pub one_page_more : (xs ys : List PageKey) (k : PageKey) → ys ≡ insert_key same_page xs k → AreDifferent xs → AreDifferent ys
one_page_more xs ys k is d = subst (λ (l : List PageKey). AreDifferent l) (sym is) (one_more_by xs k (list_any (same_page k) xs) refl d)

-- WHERE STRETCHES BEGIN

abbrev begin_of : PageKey → Stretch → ℕ × ℕ
begin_of k s = (k.block, k.page * 4096 + s.start)

abbrev begins : List PageKey → List (List Stretch) → List (ℕ × ℕ)
begins [] ps = []
begins (k ∷ ks) [] = []
begins (k ∷ ks) (p ∷ ps) = map (begin_of k) p ++ begins ks ps

count_begins : (ks : List PageKey) (ps : List (List Stretch)) → length ks ≡ length ps → length (begins ks ps) ≡ sum_by length ps
count_begins [] [] e = refl
count_begins [] (p ∷ ps) e = absurd (omega arith)
count_begins (k ∷ ks) [] e = absurd (omega arith)
count_begins (k ∷ ks) (p ∷ ps) e =
    length-append (map (begin_of k) p) (begins ks ps)
    ∙ (ap (λ n. n + length (begins ks ps)) (length-map p (begin_of k)) ∙ (ap (λ n. length p + n) (count_begins ks ps (omega arith)) ∙ sym (sum_by-cons length p ps)))

-- which stretch begins there
pub record IsBegun (ks : List PageKey) (ps : List (List Stretch)) (b : ℕ × ℕ) : Type 0 where
  pub key : PageKey
  pub among : In ks key
  pub stretch : Stretch
  pub there : In (found ks ps key) stretch
  pub is : begin_of key stretch ≡ b

found_here : (k : PageKey) (ks : List PageKey) (p : List Stretch) (ps : List (List Stretch)) → found (k ∷ ks) (p ∷ ps) k ≡ p
found_here k ks p ps = ap (λ b. cond b p (found ks ps k)) (same_itself k)

found_later : (k q : PageKey) (ks : List PageKey) (p : List Stretch) (ps : List (List Stretch)) → (In ks k → ⊥) → In ks q → found (k ∷ ks) (p ∷ ps) q ≡ found ks ps q
found_later k q ks p ps never i = found_by (same_page q k) refl
  where
    found_by : (b : Bool) → same_page q k ≡ b → cond b p (found ks ps q) ≡ found ks ps q
    found_by true e = absurd (never (subst (λ (x : PageKey). In ks x) (same_keys q k e) i))
    found_by false e = refl

begun : (ks : List PageKey) (ps : List (List Stretch)) (b : ℕ × ℕ) → AreDifferent ks → In (begins ks ps) b → IsBegun ks ps b
begun [] ps b d i = absurd i
begun (k ∷ ks) [] b d i = absurd i
begun (k ∷ ks) (p ∷ ps) b d i =
    elim (in_append_cases (map (begin_of k) p) (begins ks ps) b i) [
      | inl j ↦
          let m = map_in (begin_of k) p b j in
          record { key = k; among = inl refl; stretch = m.0; there = subst (λ (ss : List Stretch). In ss m.0) (sym (found_here k ks p ps)) m.1; is = m.2 }
      | inr j ↦
          let m = begun ks ps b d.1 j in
          record {
            key = m.key;
            among = inr m.among;
            stretch = m.stretch;
            there = subst (λ (ss : List Stretch). In ss m.stretch) (sym (found_later k m.key ks p ps d.0 m.among)) m.there;
            is = m.is;
          }
    ]

in_begins_by : (x : PageKey) (xs : List PageKey) (p : List Stretch) (ps : List (List Stretch)) (k : PageKey) (s : Stretch) → (In (found xs ps k) s → In (begins xs ps) (begin_of k s))
    → (b : Bool) → same_page k x ≡ b → In (cond b p (found xs ps k)) s → In (map (begin_of x) p ++ begins xs ps) (begin_of k s)
in_begins_by x xs p ps k s more true e j =
    in_append_left (map (begin_of x) p) (begins xs ps) (begin_of k s)
    (subst (λ (q : PageKey). In (map (begin_of x) p) (begin_of q s)) (sym (same_keys k x e)) (in_map (begin_of x) p s j))
in_begins_by x xs p ps k s more false e j = in_append_right (map (begin_of x) p) (begins xs ps) (begin_of k s) (more j)

in_begins : (ks : List PageKey) (ps : List (List Stretch)) (k : PageKey) (s : Stretch) → In (found ks ps k) s → In (begins ks ps) (begin_of k s)
in_begins [] ps k s i = absurd i
in_begins (x ∷ xs) [] k s i = absurd i
in_begins (x ∷ xs) (p ∷ ps) k s i = in_begins_by x xs p ps k s (in_begins xs ps k s) (same_page k x) refl i

-- those of a page are different
different_page : (k : PageKey) (ss : List Stretch) (low : ℕ) → Ascending low ss → AreDifferent (map (begin_of k) ss)
different_page k [] low up = tt
different_page k (s ∷ ss) low up = (
  λ i.
      let m = map_in (begin_of k) ss (begin_of k s) i in
      let e : k.page * 4096 + m.0.start ≡ k.page * 4096 + s.start = ap (λ (b : ℕ × ℕ). b.1) m.2 in
      let from : s.end ≤ m.0.start = (ascending_in s.end ss m.0 up.2 m.1).0 in
      let lt : s.start < s.end = up.1 in
      omega arith,
  different_page k ss s.end up.2,
)

same_begin : (k q : PageKey) (s t : Stretch) → s.start < 4096 → t.start < 4096 → begin_of k s ≡ begin_of q t → k ≡ q
same_begin k q s t ls lt e =
    let b : k.block ≡ q.block = ap (λ (x : ℕ × ℕ). x.0) e in
    let n : k.page * 4096 + s.start ≡ q.page * 4096 + t.start = ap (λ (x : ℕ × ℕ). x.1) e in
    let p : k.page ≡ q.page = omega arith in
    ap (λ (x : ℕ). page_key x k.page) b ∙ ap (λ (x : ℕ). page_key q.block x) p

-- stretches are in order and within their pages
abbrev AreOnPages : List PageKey → List (List Stretch) → Type 0
AreOnPages ks ps = (k : PageKey) → Ascending 0 (found ks ps k) × ((s : Stretch) → In (found ks ps k) s → s.start < 4096)

later_pages : (k : PageKey) (ks : List PageKey) (p : List Stretch) (ps : List (List Stretch)) → (In ks k → ⊥) → ((q : PageKey) → In ks q → Ascending 0 (found (k ∷ ks) (p ∷ ps) q) × ((s : Stretch) → In (found (k ∷ ks) (p ∷ ps) q) s → s.start < 4096))
    → (q : PageKey) → In ks q → Ascending 0 (found ks ps q) × ((s : Stretch) → In (found ks ps q) s → s.start < 4096)
later_pages k ks p ps never on q i =
    subst (λ (ss : List Stretch). Ascending 0 ss × ((s : Stretch) → In ss s → s.start < 4096)) (found_later k q ks p ps never i) (on q i)

different_begins : (ks : List PageKey) (ps : List (List Stretch)) → AreDifferent ks
    → ((q : PageKey) → In ks q → Ascending 0 (found ks ps q) × ((s : Stretch) → In (found ks ps q) s → s.start < 4096)) → AreDifferent (begins ks ps)
different_begins [] ps d on = tt
different_begins (k ∷ ks) [] d on = tt
different_begins (k ∷ ks) (p ∷ ps) d on =
    let here = subst (λ (ss : List Stretch). Ascending 0 ss × ((s : Stretch) → In ss s → s.start < 4096)) (found_here k ks p ps) (on k (inl refl)) in
    let later = later_pages k ks p ps d.0 (λ q i. on q (inr i)) in
    different_append (map (begin_of k) p) (begins ks ps) (different_page k p 0 here.0) (different_begins ks ps d.1 later)
    (λ b i j.
    let m = map_in (begin_of k) p b i in
    let n = begun ks ps b d.1 j in
    d.0 (subst (λ (q : PageKey). In ks q) (sym (same_begin k n.key m.0 n.stretch (here.1 m.0 m.1) ((later n.key n.among).1 n.stretch n.there) (m.2 ∙ sym n.is))) n.among))

-- THE COUNT

module _ (rs : List Region) (v : PlacesValue) (are : AreMarked rs v) where
  begins_one : (block x : ℕ) → In (begins v.keys v.pages) (block, x) → BeginsStretch rs block x
  begins_one block x i =
      let m = begun v.keys v.pages (block, x) are.different i in
      let k = m.key in
      let s = m.stretch in
      let cut = are.page k in
      let lt : s.start < s.end = (ascending_in 0 (at v k) s cut.ordered m.there).1 in
      let le : s.end ≤ 4096 = cut.within s m.there in
      let b : k.block ≡ block = ap (λ (y : ℕ × ℕ). y.0) m.is in
      let n : k.page * 4096 + s.start ≡ x = ap (λ (y : ℕ × ℕ). y.1) m.is in
      record {
        accessed = subst (λ (y : ℕ). IsAccessed rs y x) b (subst (λ (y : ℕ). IsAccessed rs k.block y) n (cut.only s.start (omega arith) (s, m.there, (omega arith, lt))));
        border = elim (cut.start s m.there) [
          | inl z ↦ inl (omega (arith, z))
          | inr e ↦ inr (subst (λ (y : ℕ). IsEdge rs y x) b (subst (λ (y : ℕ). IsEdge rs k.block y) n e))
        ];
      }

  one_begins : (block x : ℕ) → BeginsStretch rs block x → In (begins v.keys v.pages) (block, x)
  one_begins block x begin =
      let k = page_key block (x / 4096) in
      let cut = are.page k in
      let n : k.page * 4096 + x % 4096 ≡ x = omega arith in
      let w = cut.all (x % 4096) (omega arith) (subst (λ (y : ℕ). IsAccessed rs block y) (sym n) begin.accessed) in
      let s = w.0 in
      let low : s.start ≤ x % 4096 = w.2.0 in
      let high : x % 4096 < s.end = w.2.1 in
      let at_start : s.start ≡ x % 4096 = elim begin.border [
        | inl z ↦ omega (arith, z)
        | inr e ↦ elim (cases_lt s.start (x % 4096)) [
          | inl l ↦ absurd (cut.uncut s (x % 4096) w.1 (subst (λ (y : ℕ). IsEdge rs block y) (sym n) e) l high)
          | inr g ↦ omega arith
        ]
      ] in
      subst (λ (y : ℕ). In (begins v.keys v.pages) (block, y)) (ap (λ (y : ℕ). x / 4096 * 4096 + y) at_start ∙ n) (in_begins v.keys v.pages k s w.1)

  pub stretches_are_counted : length v.keys ≡ length v.pages → HaveStretches rs (stretch_count v)
  stretches_are_counted size = record {
    starts = begins v.keys v.pages;
    different = different_begins v.keys v.pages are.different
        (λ q i. (
          (are.page q).ordered,
          λ s j.
              let lt : s.start < s.end = (ascending_in 0 (at v q) s (are.page q).ordered j).1 in
              let le : s.end ≤ 4096 = (are.page q).within s j in
              omega arith,
        ));
    are = λ block x. (begins_one block x, one_begins block x);
    number = count_begins v.keys v.pages size;
  }
