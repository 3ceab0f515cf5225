-- What events tell of strands and tasks, one part after another.
use Rattle.log_tasks.proofs.Common.{◌≡◌, ◌==◌, ◌++◌, ◌∷◌, ◌∙◌, ℕ, Bool, true, false, List, [], map, refl, sym, ap, Option, Some, None, arith, ◌||◌, ◌&&◌, max, filter, if◌then◌else◌, list_any, map-append, filter-append, list_any-append, Act, GraphStrand, strand, Event, is_on, acts_on, spawns, is_that, on_strand, StrandEnd, end_by, first_end, end_of, tells, is_task, is_told, greater, index_of, index_if, top_of}
use Rattle.log_tasks.specs.Ends.{or_later}

-- ENDS

pub later_assoc : (a b c : Option StrandEnd) → or_later (or_later a b) c ≡ or_later a (or_later b c)
later_assoc None b c = refl
later_assoc (Some e) b c = refl

pub later_none : (a : Option StrandEnd) → or_later a None ≡ a
later_none None = refl
later_none (Some e) = refl

pub first_end_append : (xs ys : List Act) → first_end (xs ++ ys) ≡ or_later (first_end xs) (first_end ys)
first_end_append [] ys = refl
first_end_append (x ∷ xs) ys = ap (or_later (end_by x)) (first_end_append xs ys) ∙ sym (later_assoc (end_by x) (first_end xs) (first_end ys))

-- ACTS OF A STRAND

acts_if : Bool → List Act → List Act
acts_if true acts = acts
acts_if false acts = []

pub acts_append : (events others : List Event) (u : GraphStrand) → acts_on (events ++ others) u ≡ acts_on events u ++ acts_on others u
acts_append events others u =
    ap (map (λ (e : Event). e.act)) (filter-append (is_on u) events others)
    ∙ map-append (λ (e : Event). e.act) (filter (is_on u) events) (filter (is_on u) others)

pub acts_there : (u v : GraphStrand) (acts : List Act) → is_that u v.task v.index ≡ true → acts_on (on_strand u acts) v ≡ acts
acts_there u v [] e = refl
acts_there u v (a ∷ rest) e = rw e (ap (λ (bs : List Act). a ∷ bs) (acts_there u v rest e))

pub acts_elsewhere : (u v : GraphStrand) (acts : List Act) → is_that u v.task v.index ≡ false → acts_on (on_strand u acts) v ≡ []
acts_elsewhere u v [] e = refl
acts_elsewhere u v (a ∷ rest) e = rw e (acts_elsewhere u v rest e)

end_by_test : (events : List Event) (u : GraphStrand) (acts : List Act) (t i : ℕ) (b : Bool) → is_that u t i ≡ b
    → end_of (events ++ on_strand u acts) (strand t i) ≡ (if b then or_later (end_of events (strand t i)) (first_end acts) else end_of events (strand t i))
end_by_test events u acts t i true e =
    ap first_end (acts_append events (on_strand u acts) (strand t i) ∙ ap (λ (more : List Act). acts_on events (strand t i) ++ more) (acts_there u (strand t i) acts e))
    ∙ first_end_append (acts_on events (strand t i)) acts
end_by_test events u acts t i false e =
    ap first_end (acts_append events (on_strand u acts) (strand t i) ∙ ap (λ (more : List Act). acts_on events (strand t i) ++ more) (acts_elsewhere u (strand t i) acts e))
    ∙ first_end_append (acts_on events (strand t i)) []
    ∙ later_none (end_of events (strand t i))

-- how a strand ends when one has acted further
pub end_more : (events : List Event) (u : GraphStrand) (acts : List Act) (t i : ℕ)
    → end_of (events ++ on_strand u acts) (strand t i) ≡ (if is_that u t i then or_later (end_of events (strand t i)) (first_end acts) else end_of events (strand t i))
end_more events u acts t i = end_by_test events u acts t i (is_that u t i) refl

-- NUMBERS OF STRANDS

greater_assoc : (a b c : Option ℕ) → greater (greater a b) c ≡ greater a (greater b c)
greater_assoc None b c = refl
greater_assoc (Some i) None c = refl
greater_assoc (Some i) (Some j) None = refl
greater_assoc (Some i) (Some j) (Some k) = ap Some (let e : max (max i j) k ≡ max i (max j k) = omega arith in e)

greater_none : (a : Option ℕ) → greater a None ≡ a
greater_none None = refl
greater_none (Some i) = refl

greater_same : (a : Option ℕ) → greater a a ≡ a
greater_same None = refl
greater_same (Some i) = ap Some (let e : max i i ≡ i = omega arith in e)

pub top_append : (xs ys : List Event) (t : ℕ) → top_of (xs ++ ys) t ≡ greater (top_of xs t) (top_of ys t)
top_append [] ys t = refl
top_append (x ∷ xs) ys t = ap (greater (index_of x.strand t)) (top_append xs ys t) ∙ sym (greater_assoc (index_of x.strand t) (top_of xs t) (top_of ys t))

top_strand : (u : GraphStrand) (acts : List Act) (t : ℕ) → top_of (on_strand u acts) t ≡ index_if (is_told acts) u t
top_strand u [] t = refl
top_strand u (a ∷ []) t = greater_none (index_of u t)
top_strand u (a ∷ b ∷ rest) t = ap (greater (index_of u t)) (top_strand u (b ∷ rest) t) ∙ greater_same (index_of u t)

pub top_more : (events : List Event) (u : GraphStrand) (acts : List Act) (t : ℕ) → top_of (events ++ on_strand u acts) t ≡ greater (top_of events t) (index_if (is_told acts) u t)
top_more events u acts t = top_append events (on_strand u acts) t ∙ ap (greater (top_of events t)) (top_strand u acts t)

-- TASKS

pub or_assoc : (a b c : Bool) → (a || (b || c)) ≡ ((a || b) || c)
or_assoc true b c = refl
or_assoc false b c = refl

or_step : (b s rest : Bool) (told : Bool) → ((b || s) || ((told && b) || rest)) ≡ (b || (s || rest))
or_step true s rest told = refl
or_step false s rest true = sym (or_assoc false s rest)
or_step false s rest false = refl

tells_strand : (u : GraphStrand) (acts : List Act) (t : ℕ) → list_any (tells t) (on_strand u acts) ≡ ((is_told acts && (u.task == t)) || list_any (spawns t) acts)
tells_strand u [] t = refl
tells_strand u (a ∷ rest) t =
    ap (λ (b : Bool). ((u.task == t) || spawns t a) || b) (tells_strand u rest t)
    ∙ or_step (u.task == t) (spawns t a) (list_any (spawns t) rest) (is_told rest)

pub task_more : (events : List Event) (u : GraphStrand) (acts : List Act) (t : ℕ) → is_task (events ++ on_strand u acts) t ≡ ((is_task events t || (is_told acts && (u.task == t))) || list_any (spawns t) acts)
task_more events u acts t =
    ap (λ (b : Bool). (t == 0) || b) (list_any-append (tells t) events (on_strand u acts) ∙ ap (λ (b : Bool). list_any (tells t) events || b) (tells_strand u acts t))
    ∙ or_assoc (t == 0) (list_any (tells t) events) ((is_told acts && (u.task == t)) || list_any (spawns t) acts)
    ∙ or_assoc (is_task events t) (is_told acts && (u.task == t)) (list_any (spawns t) acts)
