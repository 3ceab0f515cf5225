-- How the text of a graph is put together.
use Rattle.heap_graph.proofs.Common.{◌≡◌, ℕ, zero, suc, List, [], ◌∷◌, ◌++◌, refl, ap, sym, ◌∙◌, append_assoc, append-nil, ◌≢◌, codes, Some, None, flat_map, Statement, Attributes, Node, Edge, attribute, node_begin, edge_begin, statement_end, setting, cluster_begin, braces_end, dot, all_dot, ImageTasks, image_parent, path, path_above, boxed, point, titled_box, statements, opened}

-- BOXES

-- all boxes end alike
ends_alike : (ts : List ℕ) → flat_map (λ _. braces_end) ts ++ braces_end ≡ braces_end ++ flat_map (λ _. braces_end) ts
ends_alike [] = refl
ends_alike (t ∷ ts) = append_assoc braces_end (flat_map (λ _. braces_end) ts) braces_end ∙ ap (λ x. braces_end ++ x) (ends_alike ts)

boxed_text : (ts : List ℕ) (s : Statement) → dot (boxed ts s) ≡ flat_map opened ts ++ dot s ++ flat_map (λ _. braces_end) ts
boxed_text [] s = sym (append-nil (dot s))
boxed_text (t ∷ ts) s =
    ap (λ x. opened t ++ (x ++ []) ++ braces_end) (boxed_text ts s)
    ∙ inner (opened t) (flat_map opened ts) (dot s) (flat_map (λ _. braces_end) ts) braces_end
    ∙ ap (λ x. (opened t ++ flat_map opened ts) ++ dot s ++ x) (ends_alike ts)
  where
    inner : (a b c d e : List ℕ) → a ++ ((b ++ c ++ d) ++ []) ++ e ≡ (a ++ b) ++ c ++ (d ++ e)
    inner a b c d e = simp (append_assoc, append-nil)

-- boxes begin, a statement inside them, and they end
pub boxed_made : (ts : List ℕ) (s : Statement) (before a b c : List ℕ) → a ≡ before ++ flat_map opened ts → b ≡ a ++ dot s → c ≡ b ++ flat_map (λ _. braces_end) ts → c ≡ before ++ dot (boxed ts s)
boxed_made ts s before a b c e f g =
    g ∙ ap (λ x. x ++ flat_map (λ _. braces_end) ts) (f ∙ ap (λ x. x ++ dot s) e)
    ∙ four before (flat_map opened ts) (dot s) (flat_map (λ _. braces_end) ts)
    ∙ ap (λ x. before ++ x) (sym (boxed_text ts s))
  where
    four : (a b c d : List ℕ) → ((a ++ b) ++ c) ++ d ≡ a ++ (b ++ c ++ d)
    four a b c d = simp append_assoc

statements_text : (ss : List Statement) → all_dot (statements ss) ≡ flat_map dot ss
statements_text [] = refl
statements_text (s ∷ ss) = ap (λ x. dot s ++ x) (statements_text ss)

-- a box begins, its title, its point and its contents follow, and it ends
pub titled_made : (cluster name title : List ℕ) (ss : List Statement) (w before a b c d e : List ℕ) → w ≡ flat_map dot ss → a ≡ before ++ cluster_begin cluster → b ≡ a ++ setting (codes "label") title → c ≡ b ++ dot (point name) → d ≡ c ++ w → e ≡ d ++ braces_end
    → e ≡ before ++ dot (titled_box cluster name title ss)
titled_made cluster name title ss w before a b c d e ew ea eb ec ed ee =
    ee ∙ ap (λ x. x ++ braces_end) (ed ∙ ap (λ x. x ++ w) (ec ∙ ap (λ x. x ++ dot (point name)) (eb ∙ ap (λ x. x ++ setting (codes "label") title) ea)))
    ∙ six before (cluster_begin cluster) (setting (codes "label") title) (dot (point name)) w braces_end
    ∙ ap (λ x. before ++ ((cluster_begin cluster ++ (setting (codes "label") title ++ (dot (point name) ++ x))) ++ braces_end)) (ew ∙ sym (statements_text ss))
  where
    six : (a b c d e f : List ℕ) → ((((a ++ b) ++ c) ++ d) ++ e) ++ f ≡ a ++ ((b ++ (c ++ (d ++ e))) ++ f)
    six a b c d e f = simp append_assoc

-- the same box, by equal names
pub titled_along : (ss : List Statement) (c d n m t u before after : List ℕ) → c ≡ d → n ≡ m → t ≡ u → after ≡ before ++ dot (titled_box c n t ss) → after ≡ before ++ dot (titled_box d m u ss)
titled_along ss c d n m t u before after ec en et e =
    e ∙ ap (λ x. before ++ dot (titled_box x n t ss)) ec
    ∙ ap (λ x. before ++ dot (titled_box d x t ss)) en
    ∙ ap (λ x. before ++ dot (titled_box d m x ss)) et

-- the same, for tasks in slices of one vector
pub boxed_along : (ts : List ℕ) (s : Statement) (way xs ys before a b c : List ℕ) → way ≡ ts → xs ≡ way → ys ≡ way → a ≡ before ++ flat_map opened xs → b ≡ a ++ dot s → c ≡ b ++ flat_map (λ _. braces_end) ys
    → c ≡ before ++ dot (boxed ts s)
boxed_along ts s way xs ys before a b c ew ex ey ea eb ec =
    boxed_made ts s before a b c
    (ea ∙ ap (λ x. before ++ flat_map opened x) (ex ∙ ew))
    eb
    (ec ∙ ap (λ x. b ++ flat_map (λ _. braces_end) x) (ey ∙ ew))

-- a node with two attributes
pub node_made : (name : List ℕ) (x y : List ℕ × List ℕ) (before a b c d : List ℕ) → a ≡ before ++ node_begin name → b ≡ a ++ attribute x → c ≡ b ++ attribute y → d ≡ c ++ statement_end
    → d ≡ before ++ dot (Node name (x ∷ y ∷ []))
node_made name x y before a b c d e f g h =
    h ∙ ap (λ z. z ++ statement_end) (g ∙ ap (λ z. z ++ attribute y) (f ∙ ap (λ z. z ++ attribute x) e))
    ∙ five before (node_begin name) (attribute x) (attribute y) statement_end
  where
    five : (a b c d e : List ℕ) → (((a ++ b) ++ c) ++ d) ++ e ≡ a ++ (b ++ (c ++ (d ++ [])) ++ e)
    five a b c d e = simp (append_assoc, append-nil)

-- an edge with attributes
pub edge_made : (s p q : List ℕ) (attrs : Attributes) (before a b c : List ℕ) → a ≡ before ++ edge_begin s p q → b ≡ a ++ flat_map attribute attrs → c ≡ b ++ statement_end → c ≡ before ++ dot (Edge s p q attrs)
edge_made s p q attrs before a b c e f g =
    g ∙ ap (λ x. x ++ statement_end) (f ∙ ap (λ x. x ++ flat_map attribute attrs) e)
    ∙ four before (edge_begin s p q) (flat_map attribute attrs) statement_end
  where
    four : (a b c d : List ℕ) → ((a ++ b) ++ c) ++ d ≡ a ++ ((b ++ c) ++ d)
    four a b c d = simp append_assoc

-- PATHS

pub path_alone : (n : ℕ) (tasks : ImageTasks) (t : ℕ) → n ≢ 0 → image_parent tasks t ≡ None → path n tasks t ≡ t ∷ []
path_alone zero tasks t ne e = absurd (ne refl)
path_alone (suc n) tasks t ne e = ap (λ o. path_above (path n tasks) o ++ t ∷ []) e

pub path_below : (m n : ℕ) (tasks : ImageTasks) (t p : ℕ) (before now later : List ℕ) → suc m ≡ n → image_parent tasks t ≡ Some p → now ≡ before ++ path m tasks p → later ≡ now ++ t ∷ []
    → later ≡ before ++ path n tasks t
path_below m n tasks t p before now later q e f g =
    g ∙ ap (λ x. x ++ t ∷ []) f ∙ append_assoc before (path m tasks p) (t ∷ [])
    ∙ ap (λ o. before ++ (path_above (path m tasks) o ++ t ∷ [])) (sym e)
    ∙ ap (λ k. before ++ path k tasks t) q
