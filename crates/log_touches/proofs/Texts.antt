-- The acts of a text, line by line.
use Rattle.log_touches.proofs.Common.{◌≡◌, ◌+◌, ◌++◌, ◌∷◌, ◌∙◌, ◌==◌, ℕ, suc, List, [], All, length, refl, sym, ap, subst, Option, Some, None, Result, Ok, Err, inl, inr, append-nil, arith, IfOk, filter, option_map, option_to_list, flat_map-append, append_assoc, length-append, In, in_append_left, in_append_right, all_from, map_in, read_in, LogCause, Act, LogLine, IsAct, IsLine, line_of, lines_within, act_said, Region, Touch, plain_write, touch_of, touches_of_release, ActAccess, access_of, touch_by, touches_of_access, touches_of_act, touches_from, regions_of_act, regions_of_acts}
use Rattle.log_lines.specs.declared.line.Act.TheVariants as acts
use Rattle.log_lines.specs.declared.line.LogLine.TheVariants as lines

-- ACTS

said_by : (r : Result LogLine LogCause) (act : Act) → IfOk r IsLine → act ∷ [] ≡ act_said r → IsAct act
said_by (Ok (lines.Act a)) act h e = subst IsAct (let same : a ≡ act = (let z : ◌≡◌ {A = List Act} (act ∷ []) (a ∷ []) = e in cc) in same) h
said_by (Ok lines.Version) act h e = absurd (let z : ◌≡◌ {A = List Act} (act ∷ []) [] = e in cc)
said_by (Ok (lines.Strand t i)) act h e = absurd (let z : ◌≡◌ {A = List Act} (act ∷ []) [] = e in cc)
said_by (Ok (lines.Name site)) act h e = absurd (let z : ◌≡◌ {A = List Act} (act ∷ []) [] = e in cc)
said_by (Ok lines.Comment) act h e = absurd (let z : ◌≡◌ {A = List Act} (act ∷ []) [] = e in cc)
said_by (Ok lines.End) act h e = absurd (let z : ◌≡◌ {A = List Act} (act ∷ []) [] = e in cc)
said_by (Err cause) act h e = absurd (let z : ◌≡◌ {A = List Act} (act ∷ []) [] = e in cc)

-- an act that a line says is within the limits
pub said_within : (line : List ℕ) (act : Act) → act ∷ [] ≡ act_said (line_of line) → IsAct act
said_within line act e = said_by (line_of line) act (lines_within line) e

pub region_of_access : (o : Option ActAccess) (a : ActAccess) (act : Act) → o ≡ access_of act → o ≡ Some a → regions_of_act act ≡ a.region ∷ []
region_of_access o a act v is = ap (λ (p : Option ActAccess). option_to_list (option_map (λ (x : ActAccess). x.region) p)) (sym v ∙ is)

pub touch_of_access : (s n : ℕ) (o : Option ActAccess) (a : ActAccess) (act : Act) → o ≡ access_of act → o ≡ Some a → touches_of_access s n act ≡ touch_by s n a ∷ []
touch_of_access s n o a act v is = ap (λ (p : Option ActAccess). option_to_list (option_map (touch_by s n) p)) (sym v ∙ is)

pub one_act_regions : (act : Act) (said : List Act) → act ∷ [] ≡ said → regions_of_act act ≡ regions_of_acts said
one_act_regions act said e = sym (append-nil (regions_of_act act)) ∙ ap regions_of_acts e

-- what another act than a release touches
pub touches_without : (rs : List Region) (s n : ℕ) (act : Act) → ((b : ℕ) → act ≡ acts.Release b → ⊥) → touches_of_act rs s n act ≡ touches_of_access s n act
touches_without rs s n (acts.Access a) never = refl
touches_without rs s n (acts.Yield r) never = refl
touches_without rs s n (acts.Store r) never = refl
touches_without rs s n (acts.Birth block length) never = refl
touches_without rs s n (acts.Release block) never = absurd (never block refl)
touches_without rs s n (acts.Work units) never = refl
touches_without rs s n (acts.Spawn t) never = refl
touches_without rs s n (acts.Join t) never = refl
touches_without rs s n acts.Finish never = refl

-- all that an act touches is by its strand
one_strand : (s n : ℕ) (o : Option ActAccess) (t : Touch) → In (option_to_list (option_map (touch_by s n) o)) t → t.access.strand ≡ s
one_strand s n None t i = absurd i
one_strand s n (Some a) t (inl e) = ap (λ (u : Touch). u.access.strand) (sym e)
one_strand s n (Some a) t (inr none) = absurd none

released_by : (rs : List Region) (block s n : ℕ) (t : Touch) → In (touches_of_release rs block s n) t → t.access.strand ≡ s
released_by rs block s n t i =
    let m = map_in (touch_of (plain_write s n)) (filter (λ (r : Region). r.block == block) rs) t i in
    ap (λ (u : Touch). u.access.strand) (sym m.2)

pub act_strand : (rs : List Region) (s n : ℕ) (act : Act) (t : Touch) → In (touches_of_act rs s n act) t → t.access.strand ≡ s
act_strand rs s n (acts.Access a) t i = one_strand s n (access_of (acts.Access a)) t i
act_strand rs s n (acts.Yield r) t i = one_strand s n (access_of (acts.Yield r)) t i
act_strand rs s n (acts.Store r) t i = one_strand s n (access_of (acts.Store r)) t i
act_strand rs s n (acts.Birth block length) t i = absurd i
act_strand rs s n (acts.Release block) t i = released_by rs block s n t i
act_strand rs s n (acts.Work units) t i = absurd i
act_strand rs s n (acts.Spawn c) t i = absurd i
act_strand rs s n (acts.Join c) t i = absurd i
act_strand rs s n acts.Finish t i = absurd i

pub one_act_touches : (rs : List Region) (s n : ℕ) (act : Act) (said : List Act) → act ∷ [] ≡ said → touches_of_act rs s n act ≡ touches_from rs s n said
one_act_touches rs s n act said e = sym (append-nil (touches_of_act rs s n act)) ∙ ap (touches_from rs s n) e

pub touches_append : (rs : List Region) (s n : ℕ) (xs ys : List Act) → touches_from rs s n (xs ++ ys) ≡ touches_from rs s n xs ++ touches_from rs s (n + length xs) ys
touches_append rs s n [] ys = ap (λ m. touches_from rs s m ys) (let e : n ≡ n + 0 = omega arith in e)
touches_append rs s n (x ∷ xs) ys =
    ap (λ l. touches_of_act rs s n x ++ l)
    (touches_append rs s (n + 1) xs ys ∙ ap (λ m. touches_from rs s (n + 1) xs ++ touches_from rs s m ys) (let e : n + 1 + length xs ≡ n + suc (length xs) = omega arith in e))
    ∙ sym (append_assoc (touches_of_act rs s n x) (touches_from rs s (n + 1) xs) (touches_from rs s (n + suc (length xs)) ys))

pub regions_append : (xs ys : List Act) → regions_of_acts (xs ++ ys) ≡ regions_of_acts xs ++ regions_of_acts ys
regions_append xs ys = flat_map-append regions_of_act xs ys

-- LISTS

pub all_left : {A : Type 0} (P : A → Type 0) (xs ys : List A) → All P (xs ++ ys) → All P xs
all_left P xs ys h = all_from P xs (λ x i. read_in P (xs ++ ys) x (in_append_left xs ys x i) h)

pub all_right : {A : Type 0} (P : A → Type 0) (xs ys : List A) → All P (xs ++ ys) → All P ys
all_right P xs ys h = all_from P ys (λ x i. read_in P (xs ++ ys) x (in_append_right xs ys x i) h)

-- ONE PART MORE

pub count_next : (n m total : ℕ) (left said rest : List Act) → left ≡ said ++ rest → m ≡ n + length said → n + length left ≡ total → m + length rest ≡ total
count_next n m total left said rest e is all = let l = ap length e ∙ length-append said rest in omega (arith, l, is, all)

pub regions_next : (total rs : List Region) (left said rest : List Act) → left ≡ said ++ rest → rs ++ regions_of_acts left ≡ total → (rs ++ regions_of_acts said) ++ regions_of_acts rest ≡ total
regions_next total rs left said rest e all =
    append_assoc rs (regions_of_acts said) (regions_of_acts rest) ∙ (ap (λ l. rs ++ l) (sym (regions_append said rest) ∙ ap regions_of_acts (sym e)) ∙ all)

pub touches_next : (rs : List Region) (s n m : ℕ) (total ts : List Touch) (left said rest : List Act) → left ≡ said ++ rest → m ≡ n + length said → ts ++ touches_from rs s n left ≡ total
    → (ts ++ touches_from rs s n said) ++ touches_from rs s m rest ≡ total
touches_next rs s n m total ts left said rest e is all =
    ap (λ k. (ts ++ touches_from rs s n said) ++ touches_from rs s k rest) is
    ∙ (append_assoc ts (touches_from rs s n said) (touches_from rs s (n + length said) rest)
    ∙ (ap (λ l. ts ++ l) (sym (touches_append rs s n said rest) ∙ ap (touches_from rs s n) (sym e)) ∙ all))
