-- What the lines above say, for the reader and here.
use Rattle.text_faults.proofs.Common.{◌≡◌, ◌+◌, ◌++◌, ◌||◌, ℕ, Bool, true, false, cond, List, [], ◌∷◌, length, refl, ap, sym, ◌∙◌, arith, true≢false, Option, Some, None, not, list_any, bytes_eq, bytes_eq-Decides, is_last, lines_of, Head, Blank, Begin, End, Label, Order, Unknown, Outline, Labels, NotedName, noted_name_of, is_noted, with_name, head_of_words, operands_of, only_name, head_of_line, operands_of_line, is_open_after, is_inside, noted_if, begun_name, looped_name, outline_line, outline_above, outline_onto, outline_of, no_names, no_labels, label_line, labels_after, labels_above, labels_onto, ends_body, begins, begun_above, orders, orders_above, spot_of, LinesAbove, PlacedWord, placed_words, head_of, behind_first, lone_name, walked_by, walked, walk_of}
use Rattle.text_faults.proofs.WordsOf.{texts, texts_of, texts_behind, head_is, lone_is_only}
use Rattle.text_faults.proofs.Senses.{Words}
use Rattle.text_faults.proofs.NamesAgree.{KnowsNames, KnowsLoop}
use Rattle.text_faults.proofs.LineCauses.{IsSpot}

-- ---- lists that have the same names

abbrev pub SameNames : List NotedName → List NotedName → Type 0
SameNames es fs = (name : List ℕ) → is_noted es name ≡ is_noted fs name

any_push : {X : Type 0} (p : X → Bool) (xs : List X) (x : X) → list_any p (xs ++ x ∷ []) ≡ (list_any p xs || (p x || false))
any_push p [] x = refl
any_push p (y ∷ ys) x = by_head (p y) (any_push p ys x)
  where
    by_head : (b : Bool) → list_any p (ys ++ x ∷ []) ≡ (list_any p ys || (p x || false)) → (b || list_any p (ys ++ x ∷ [])) ≡ ((b || list_any p ys) || (p x || false))
    by_head true e = refl
    by_head false e = e

noted_by : (es fs : List NotedName) (e f : NotedName) (b c : Bool) → e.name ≡ f.name → b ≡ c → SameNames es fs → SameNames (cond b es (es ++ e ∷ [])) (cond c fs (fs ++ f ∷ []))
noted_by es fs e f true true d h same = same
noted_by es fs e f true false d h same = absurd (true≢false h)
noted_by es fs e f false true d h same = absurd (true≢false (sym h))
noted_by es fs e f false false d h same = λ name.
    any_push (λ g. bytes_eq name g.name) es e
    ∙ ap (λ b. b || (bytes_eq name e.name || false)) (same name)
    ∙ ap (λ n. is_noted fs name || (bytes_eq name n || false)) d
    ∙ sym (any_push (λ g. bytes_eq name g.name) fs f)

noted_same : (es fs : List NotedName) (o : Option (List ℕ)) (m n : ℕ) → SameNames es fs → SameNames (noted_if es o m) (noted_if fs o n)
noted_same es fs None m n same = same
noted_same es fs (Some name) m n same = noted_by es fs (noted_name_of name m) (noted_name_of name n) (is_noted es name) (is_noted fs name) refl (same name) same

-- ---- lines by their heads

name_is : (l : List ℕ) → lone_name (behind_first (placed_words l)) ≡ only_name (operands_of_line l)
name_is l = lone_is_only (behind_first (placed_words l)) ∙ ap only_name (texts_behind (placed_words l) ∙ ap operands_of (texts_of l))

-- ---- one line more

-- the walk is where these lines are above and those are left
pub record IsAt (o : Outline) (w : LinesAbove) (above rest : List (List ℕ)) : Type 0 where
  pub inside : w.inside ≡ is_inside above
  pub begun : w.begun ≡ begun_above above
  pub orders : w.orders ≡ orders_above above
  pub outline : w.outline ≡ o
  pub named : w.named ≡ (outline_above above).functions
  pub labeled : SameNames w.labels.above (labels_above above).entries
  pub labels : is_inside above ≡ true → w.labels.all ≡ labels_onto (labels_above above) rest

module _ (w : LinesAbove) (n : ℕ) (ps : List PlacedWord) (ws : Words) (ls : List (List ℕ)) (same : lone_name ps ≡ only_name ws) where
  next_inside : (h : Head) → (walked_by w n h ps ls).inside ≡ is_open_after h w.inside
  next_inside Blank = refl
  next_inside Begin = refl
  next_inside End = refl
  next_inside Label = refl
  next_inside (Order v) = refl
  next_inside Unknown = refl

  next_begun : (h : Head) → (walked_by w n h ps ls).begun ≡ w.begun + begins h
  next_begun Blank = omega arith
  next_begun Begin = omega arith
  next_begun End = omega arith
  next_begun Label = omega arith
  next_begun (Order v) = omega arith
  next_begun Unknown = omega arith

  next_orders : (h : Head) → (walked_by w n h ps ls).orders ≡ w.orders + orders h
  next_orders Blank = omega arith
  next_orders Begin = omega arith
  next_orders End = omega arith
  next_orders Label = omega arith
  next_orders (Order v) = omega arith
  next_orders Unknown = omega arith

  next_outline : (h : Head) → (walked_by w n h ps ls).outline ≡ w.outline
  next_outline Blank = refl
  next_outline Begin = refl
  next_outline End = refl
  next_outline Label = refl
  next_outline (Order v) = refl
  next_outline Unknown = refl

  next_named : (h : Head) → (walked_by w n h ps ls).named ≡ noted_if w.named (begun_name h ws) n
  next_named Blank = refl
  next_named Begin = ap (λ o. noted_if w.named o n) same
  next_named End = refl
  next_named Label = refl
  next_named (Order v) = refl
  next_named Unknown = refl

  next_labeled : (h : Head) (s : Labels) → SameNames w.labels.above s.entries → SameNames (walked_by w n h ps ls).labels.above (labels_after h ws s).entries
  next_labeled Blank s e = e
  next_labeled Begin s e = λ name. refl
  next_labeled End s e = e
  next_labeled Label s e = λ name. ap (λ o. is_noted (noted_if w.labels.above o n) name) same ∙ noted_same w.labels.above s.entries (only_name ws) n s.next e name
  next_labeled (Order v) s e = e
  next_labeled Unknown s e = e

  next_labels : (h : Head) (s : Labels) (i : Bool) → is_open_after h i ≡ true → (i ≡ true → w.labels.all ≡ cond (ends_body h) s (labels_onto (label_line h ws s) ls)) → (walked_by w n h ps ls).labels.all ≡ labels_onto (labels_after h ws s) ls
  next_labels Begin s i e f = refl
  next_labels End s i e f = absurd (true≢false (sym e))
  next_labels Blank s i e f = f e
  next_labels Label s i e f = f e
  next_labels (Order v) s i e f = f e
  next_labels Unknown s i e f = f e

pub goes_on : (o : Outline) (w : LinesAbove) (above : List (List ℕ)) (l : List ℕ) (ls : List (List ℕ)) (n : ℕ) → n ≡ length above + 1 → IsAt o w above (l ∷ ls) → IsAt o (walked w n l ls) (l ∷ above) ls
goes_on o w above l ls n number at =
    let h = head_of_line l in
    let ps = behind_first (placed_words l) in
    let ws = operands_of_line l in
    let same : lone_name ps ≡ only_name ws = name_is l in
    let by : walked w n l ls ≡ walked_by w n (head_of_line l) (behind_first (placed_words l)) ls = ap (λ k. walked_by w n k (behind_first (placed_words l)) ls) (head_is l) in
    record {
      inside = ap (λ v. v.inside) by ∙ next_inside w n ps ws ls same (head_of_line l) ∙ ap (is_open_after (head_of_line l)) at.inside;
      begun = ap (λ v. v.begun) by ∙ next_begun w n ps ws ls same (head_of_line l) ∙ ap (λ k. k + begins (head_of_line l)) at.begun;
      orders = ap (λ v. v.orders) by ∙ next_orders w n ps ws ls same (head_of_line l) ∙ ap (λ k. k + orders (head_of_line l)) at.orders;
      outline = ap (λ v. v.outline) by ∙ next_outline w n ps ws ls same (head_of_line l) ∙ at.outline;
      named = ap (λ v. v.named) by ∙ next_named w n ps ws ls same (head_of_line l) ∙ ap (λ es. noted_if es (begun_name (head_of_line l) (operands_of_line l)) n) at.named ∙ ap (λ k. noted_if (outline_above above).functions (begun_name (head_of_line l) (operands_of_line l)) k) number;
      labeled = λ name. ap (λ v. is_noted v.labels.above name) by ∙ next_labeled w n ps ws ls same (head_of_line l) (labels_above above) at.labeled name;
      labels = λ e. ap (λ v. v.labels.all) by ∙ next_labels w n ps ws ls same (head_of_line l) (labels_above above) (is_inside above) e at.labels;
    }

pub at_first : (text : List ℕ) → IsAt (outline_of text) (walk_of (outline_of text)) [] (lines_of text)
at_first text = record {
  inside = refl;
  begun = refl;
  orders = refl;
  outline = refl;
  named = refl;
  labeled = λ name. refl;
  labels = λ e. absurd (true≢false (sym e));
}

pub spot_at : (o : Outline) (w : LinesAbove) (above : List (List ℕ)) (l : List ℕ) (ls : List (List ℕ)) → IsAt o w above (l ∷ ls) → IsSpot o (spot_of above l ls) w
spot_at o w above l ls at = record {
  inside = at.inside;
  begun = at.begun;
  orders = at.orders;
  names = record { all = ap (λ x. x.functions) at.outline; named = at.named; labeled = at.labeled; labels = λ e. ap (λ x. x.entries) (at.labels e) };
}

-- ---- what lines loop over is noted

abbrev pub AllKnown : Outline → List (List ℕ) → Type 0
AllKnown o [] = Unit {0}
AllKnown o (l ∷ ls) = KnowsLoop o (head_of_line l) (operands_of_line l) × AllKnown o ls

bytes_same : (name : List ℕ) → bytes_eq name name ≡ true
bytes_same name = (bytes_eq-Decides name name).1 refl

or_true : (b : Bool) → (b || true) ≡ true
or_true true = refl
or_true false = refl

now_noted : (es : List NotedName) (name : List ℕ) (n : ℕ) (b : Bool) → is_noted es name ≡ b → is_noted (cond b es (es ++ noted_name_of name n ∷ [])) name ≡ true
now_noted es name n true e = e
now_noted es name n false e =
    any_push (λ g. bytes_eq name g.name) es (noted_name_of name n)
    ∙ ap (λ b. is_noted es name || (b || false)) (bytes_same name)
    ∙ or_true (is_noted es name)

still : (es : List NotedName) (e : NotedName) (name : List ℕ) (b : Bool) → is_noted es name ≡ true → is_noted (cond b es (es ++ e ∷ [])) name ≡ true
still es e name true h = h
still es e name false h = any_push (λ g. bytes_eq name g.name) es e ∙ ap (λ b. b || (bytes_eq name e.name || false)) h

stays : (es : List NotedName) (o : Option (List ℕ)) (n : ℕ) (name : List ℕ) → is_noted es name ≡ true → is_noted (noted_if es o n) name ≡ true
stays es None n name h = h
stays es (Some other) n name h = still es (noted_name_of other n) name (is_noted es other) h

loops_stay : (ls : List (List ℕ)) (n : ℕ) (o : Outline) (name : List ℕ) → is_noted o.loops name ≡ true → is_noted (outline_onto n o ls).loops name ≡ true
loops_stay [] n o name h = h
loops_stay (l ∷ ls) n o name h = loops_stay ls (n + 1) (outline_line n o l) name (stays o.loops (looped_name (head_of_line l) (operands_of_line l)) n name h)

just_noted : (es : List NotedName) (r : Option (List ℕ)) (n : ℕ) (name : List ℕ) → r ≡ Some name → is_noted (noted_if es r n) name ≡ true
just_noted es r n name e = ap (λ x. is_noted (noted_if es x n) name) e ∙ now_noted es name n (is_noted es name) refl

all_known : (ls : List (List ℕ)) (n : ℕ) (o : Outline) → AllKnown (outline_onto n o ls) ls
all_known [] n o = tt
all_known (l ∷ ls) n o =
    (λ name e. loops_stay ls (n + 1) (outline_line n o l) name (just_noted o.loops (looped_name (head_of_line l) (operands_of_line l)) n name e), all_known ls (n + 1) (outline_line n o l))

pub text_known : (text : List ℕ) → AllKnown (outline_of text) (lines_of text)
text_known text = all_known (lines_of text) 1 no_names
