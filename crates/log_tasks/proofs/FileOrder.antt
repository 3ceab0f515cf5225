-- What the order of files is to a log's graph: nothing.
use Rattle.log_tasks.proofs.Common.{◌≡◌, ◌<◌, ◌≤◌, ◌==◌, ◌++◌, ◌∷◌, ◌∙◌, ◌⊎◌, inl, inr, ℕ, suc, Bool, true, false, List, [], length, refl, sym, ap, ap₂, subst, Option, Some, None, Result, Ok, Err, arith, append_assoc, append-nil, nat_cmp, Less, IsTrue, ◌||◌, ◌&&◌, slice_get, list_any, nat_tests, sorted_from_strictly_increasing, In, any_from_in, in_from_any, each_in, LogCause, Act, LogLine, line_of, GraphTurn, GraphStrand, tasks_in, strand, lines_in, Event, event, Spot, is_on, acts_on, spot_behind_act, spot_behind_said, spot_behind_all, file_begin, file_end, events_behind, events_of, first_end, end_of, tells, is_task, log_strand, turn_at, DoTheSame, FileOrderIsNothing, FilesMayChangePlaces}
use Rattle.std.specs.List.Sorted.{IsStrictlySortedBy}
use Rattle.log_lines.specs.declared.line.LogLine.TheVariants as lines
use Rattle.log_tasks.proofs.Acts.{acts_append}
use Rattle.log_tasks.proofs.Spawning.{in_events, same_number}

-- FILES ONE AFTER ANOTHER

-- a place in a file, when something happened before
shifted : List Event → Spot → Spot
shifted before spot = record { here = spot.here; closed = spot.closed; events = before ++ spot.events }

shift_act : (before : List Event) (spot : Spot) (here : Option GraphStrand) (act : Act) → spot_behind_act (shifted before spot) here act ≡ shifted before (spot_behind_act spot here act)
unfolding shifted
shift_act before spot None act = refl
shift_act before spot (Some u) act = rw (append_assoc before spot.events (event u act ∷ [])) refl

shift_said : (before : List Event) (spot : Spot) (said : Result LogLine LogCause) → spot_behind_said (shifted before spot) said ≡ shifted before (spot_behind_said spot said)
unfolding shifted
shift_said before spot (Err cause) = refl
shift_said before spot (Ok lines.Version) = refl
shift_said before spot (Ok (lines.Strand t i)) = refl
shift_said before spot (Ok (lines.Act act)) = shift_act before spot spot.here act
shift_said before spot (Ok (lines.Name site)) = refl
shift_said before spot (Ok lines.Comment) = refl
shift_said before spot (Ok lines.End) = refl

shift_all : (before : List Event) (spot : Spot) (ls : List (List ℕ)) → spot_behind_all (shifted before spot) ls ≡ shifted before (spot_behind_all spot ls)
shift_all before spot [] = refl
shift_all before spot (l ∷ ls) = ap (λ (s : Spot). spot_behind_all s ls) (shift_said before spot (line_of l)) ∙ shift_all before (spot_behind_said spot (line_of l)) ls

shift_begin : (before : List Event) → file_begin before ≡ shifted before (file_begin [])
unfolding shifted
shift_begin before = ap file_begin (sym (append-nil before))

shift_file : (before : List Event) (text : List ℕ) → (file_end before text).events ≡ before ++ (file_end [] text).events
unfolding shifted
shift_file before text = ap (λ (s : Spot). (spot_behind_all s (lines_in text)).events) (shift_begin before) ∙ ap (λ (s : Spot). s.events) (shift_all before (file_begin []) (lines_in text))

shift_files : (before : List Event) (texts : List (List ℕ)) → events_behind before texts ≡ before ++ events_of texts
shift_files before [] = sym (append-nil before)
shift_files before (text ∷ texts) =
    shift_files (file_end before text).events texts
    ∙ ap (λ (es : List Event). es ++ events_of texts) (shift_file before text)
    ∙ append_assoc before (file_end [] text).events (events_of texts)
    ∙ ap (λ (es : List Event). before ++ es) (sym (shift_files (file_end [] text).events texts))

behind_both : (before : List Event) (xs ys : List (List ℕ)) → events_behind before (xs ++ ys) ≡ events_behind (events_behind before xs) ys
behind_both before [] ys = refl
behind_both before (x ∷ xs) ys = behind_both (file_end before x).events xs ys

events_both : (xs ys : List (List ℕ)) → events_of (xs ++ ys) ≡ events_of xs ++ events_of ys
events_both xs ys = behind_both [] xs ys ∙ shift_files (events_of xs) ys

-- what a strand does in files, one after another
acts_both : (xs ys : List (List ℕ)) (u : GraphStrand) → acts_on (events_of (xs ++ ys)) u ≡ acts_on (events_of xs) u ++ acts_on (events_of ys) u
acts_both xs ys u = ap (λ (es : List Event). acts_on es u) (events_both xs ys) ∙ acts_append (events_of xs) (events_of ys) u

acts_three : (one other : List ℕ) (after : List (List ℕ)) (u : GraphStrand) → acts_on (events_of (one ∷ (other ∷ after))) u ≡ acts_on (events_of (one ∷ [])) u ++ (acts_on (events_of (other ∷ [])) u ++ acts_on (events_of after) u)
acts_three one other after u =
    acts_both (one ∷ []) (other ∷ after) u ∙ ap (λ (more : List Act). acts_on (events_of (one ∷ [])) u ++ more) (acts_both (other ∷ []) after u)

swap_empty : (xs ys zs : List Act) → (xs ≡ []) ⊎ (ys ≡ []) → xs ++ (ys ++ zs) ≡ ys ++ (xs ++ zs)
swap_empty xs ys zs (inl e) = rw e refl
swap_empty xs ys zs (inr e) = rw e refl

pub files_may_change_places : FilesMayChangePlaces
files_may_change_places before after one other apart u =
    acts_both before (one ∷ (other ∷ after)) u
    ∙ ap (λ (more : List Act). acts_on (events_of before) u ++ more)
    (acts_three one other after u
    ∙ swap_empty (acts_on (events_of (one ∷ [])) u) (acts_on (events_of (other ∷ [])) u) (acts_on (events_of after) u) (apart u)
    ∙ sym (acts_three other one after u))
    ∙ sym (acts_both before (other ∷ (one ∷ after)) u)

-- THE SAME TASKS

act_there : (events : List Event) (x : Event) → In events x → In (acts_on events x.strand) x.act
act_there [] x h = absurd h
act_there (e ∷ rest) x (inl same) = subst (λ (y : Event). In (acts_on (e ∷ rest) y.strand) y.act) same (rw (on_own e) (inl refl))
  where
    on_own : (y : Event) → is_on y.strand y ≡ true
    on_own y = both (y.strand.task == y.strand.task) (y.strand.index == y.strand.index) (same_number y.strand.task) (same_number y.strand.index)
      where
        both : (a b : Bool) → a ≡ true → b ≡ true → (a && b) ≡ true
        both true b p q = q
        both false b p q = p
act_there (e ∷ rest) x (inr later) = by_test (is_on x.strand e) refl (act_there rest x later)
  where
    by_test : (b : Bool) → is_on x.strand e ≡ b → In (acts_on rest x.strand) x.act → In (acts_on (e ∷ rest) x.strand) x.act
    by_test true t more = rw t (inr more)
    by_test false t more = rw t more

module _ (events others : List Event) (same : DoTheSame events others) where
  tells_too : (t : ℕ) → list_any (tells t) events ≡ true → list_any (tells t) others ≡ true
  tells_too t h =
      let r = in_from_any (tells t) events h in
      any_from_in (tells t) others r.0 (in_events others r.0.strand r.0.act (subst (λ (done : List Act). In done r.0.act) (same r.0.strand) (act_there events r.0 r.1))) r.2

both_ways : (a b : Bool) → (a ≡ true → b ≡ true) → (b ≡ true → a ≡ true) → a ≡ b
both_ways true b f g = sym (f refl)
both_ways false true f g = g refl
both_ways false false f g = refl

task_same : (events others : List Event) → DoTheSame events others → (t : ℕ) → is_task events t ≡ is_task others t
task_same events others same t = ap (λ (b : Bool). (t == 0) || b) (both_ways (list_any (tells t) events) (list_any (tells t) others) (tells_too events others same t) (tells_too others events (λ u. sym (same u)) t))

less_from : (x y : ℕ) → nat_cmp x y ≡ Less → x < y
less_from x y e = grind (arith, nat_tests, e)

-- ascending lists with the same members are the same
same_members : (xs ys : List ℕ) → IsStrictlySortedBy nat_cmp xs → IsStrictlySortedBy nat_cmp ys → ((t : ℕ) → In xs t → In ys t) → ((t : ℕ) → In ys t → In xs t) → xs ≡ ys
unfolding IsStrictlySortedBy
same_members [] [] sx sy f g = refl
same_members [] (y ∷ ys) sx sy f g = absurd (g y (inl refl))
same_members (x ∷ xs) [] sx sy f g = absurd (f x (inl refl))
same_members (x ∷ xs) (y ∷ ys) sx sy f g = ap₂ (λ (n : ℕ) (ns : List ℕ). n ∷ ns) first (same_members xs ys sx.1 sy.1 (λ t h. fewer t h (f t (inr h))) (λ t h. fewer' t h (g t (inr h))))
  where
    above : (t : ℕ) → In xs t → x < t
    above t h = less_from x t (each_in (λ z. nat_cmp x z ≡ Less) xs t sx.0 h)

    above' : (t : ℕ) → In ys t → y < t
    above' t h = less_from y t (each_in (λ z. nat_cmp y z ≡ Less) ys t sy.0 h)

    first_by : (y ≡ x) ⊎ In ys x → (x ≡ y) ⊎ In xs y → x ≡ y
    first_by (inl e) other = sym e
    first_by (inr h) (inl e) = e
    first_by (inr h) (inr k) = let a = above y k in let b = above' x h in absurd (omega (arith, a, b))

    first : x ≡ y
    first = first_by (f x (inl refl)) (g y (inl refl))

    fewer : (t : ℕ) → In xs t → (y ≡ t) ⊎ In ys t → In ys t
    fewer t h (inl e) = let a = above t h in let one = first in absurd (omega (arith, a, e, one))
    fewer t h (inr k) = k

    fewer' : (t : ℕ) → In ys t → (x ≡ t) ⊎ In xs t → In xs t
    fewer' t h (inl e) = let a = above' t h in let one = first in absurd (omega (arith, a, e, one))
    fewer' t h (inr k) = k

-- THE SAME ROWS

row_same : (F : ℕ → Option GraphTurn) (one other : List GraphTurn) → ((i : ℕ) → i ≤ length one → slice_get one i ≡ F i) → ((i : ℕ) → i ≤ length other → slice_get other i ≡ F i) → one ≡ other
row_same F [] [] p q = refl
row_same F [] (y ∷ ys) p q = absurd (let e : None ≡ Some y = p 0 (omega arith) ∙ sym (q 0 (omega arith)) in cc)
row_same F (x ∷ xs) [] p q = absurd (let e : None ≡ Some x = q 0 (omega arith) ∙ sym (p 0 (omega arith)) in cc)
row_same F (x ∷ xs) (y ∷ ys) p q =
    ap₂ (λ (t : GraphTurn) (ts : List GraphTurn). t ∷ ts) (let e : Some x ≡ Some y = p 0 (omega arith) ∙ sym (q 0 (omega arith)) in cc)
    (row_same (λ i. F (suc i)) xs ys (λ i le. p (suc i) (omega (arith, le))) (λ i le. q (suc i) (omega (arith, le))))

rows_same : (one other : List (List GraphTurn)) → length one ≡ length other → ((t : ℕ) → t < length one → tasks_in one t ≡ tasks_in other t) → one ≡ other
rows_same [] [] e f = refl
rows_same [] (y ∷ ys) e f = absurd (omega (arith, e))
rows_same (x ∷ xs) [] e f = absurd (omega (arith, e))
rows_same (x ∷ xs) (y ∷ ys) e f = ap₂ (λ (r : List GraphTurn) (rs : List (List GraphTurn)). r ∷ rs) (f 0 (omega arith)) (rows_same xs ys (omega (arith, e)) (λ t lt. f (suc t) (omega (arith, lt))))

pub file_order_is_nothing : FileOrderIsNothing
file_order_is_nothing events others numbers numbers' rows rows' same named are named' are' = (one, rest)
  where
    one : numbers ≡ numbers'
    one =
        same_members numbers numbers' (sorted_from_strictly_increasing numbers named.ascending) (sorted_from_strictly_increasing numbers' named'.ascending)
        (λ t h. (named'.are t).1 (subst IsTrue (task_same events others same t) ((named.are t).0 h)))
        (λ t h. (named.are t).1 (subst IsTrue (sym (task_same events others same t)) ((named'.are t).0 h)))

    row : (t : ℕ) → t < length rows → tasks_in rows t ≡ tasks_in rows' t
    row t lt =
        let count = are.count in
        let count' = are'.count in
        let few : length numbers ≡ length numbers' = ap length one in
        row_same (λ i. turn_at numbers (end_of events (log_strand numbers (strand t i)))) (tasks_in rows t) (tasks_in rows' t)
        (are.each t (omega (arith, lt, count)))
        (λ i le. are'.each t (omega (arith, lt, count, few)) i le
        ∙ ap (λ (ns : List ℕ). turn_at ns (end_of others (log_strand ns (strand t i)))) (sym one)
        ∙ ap (λ (done : List Act). turn_at numbers (first_end done)) (sym (same (log_strand numbers (strand t i)))))

    rest : rows ≡ rows'
    rest = rows_same rows rows' (let count = are.count in let count' = are'.count in let few : length numbers ≡ length numbers' = ap length one in omega (arith, count, count', few)) row
