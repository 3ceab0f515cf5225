-- The texts of graphs balance.
use Rattle.std.proofs.Common.{◌≡◌, ℕ, List, [], ◌∷◌, ◌++◌, refl, append_assoc, subst}
use Rattle.std.specs.Prelude.{codes}
use Rattle.std.specs.List.{flat_map}
use Rattle.quoted_text.specs.Quoted.{quoted}
use Rattle.quoted_text.specs.Balanced.{IsBalanced}
use Rattle.quoted_text.proofs.Balanced as balanced
use Rattle.quoted_text.proofs.Balanced.{joined}
use Rattle.dot_text.specs.Dot.{Attributes, Statement, Statements, Setting, Node, Edge, Cluster, NoStatement, Statement_, attribute, edge_begin, statement_end, dot, all_dot}
use Rattle.dot_text.specs.Laws.{GraphsBalance}

word : (w : List ℕ) → IsBalanced (quoted w)
word w = balanced.quoted_balance w

pair_balances : (a b : List ℕ) (end : List ℕ) → IsBalanced end → IsBalanced (quoted a ++ 61 ∷ (quoted b ++ end))
pair_balances a b end h =
    joined (quoted a) (61 ∷ (quoted b ++ end)) (word a)
    (joined (61 ∷ []) (quoted b ++ end) (λ ws. refl) (joined (quoted b) end (word b) h))

each_balances : {X : Type 0} (f : X → List ℕ) → ((x : X) → IsBalanced (f x)) → (xs : List X) → IsBalanced (flat_map f xs)
each_balances f h [] = λ ws. refl
each_balances f h (x ∷ xs) = joined (f x) (flat_map f xs) (h x) (each_balances f h xs)

attributes_balance : (given : Attributes) → IsBalanced (flat_map attribute given)
attributes_balance given = each_balances attribute (λ a. pair_balances a.0 a.1 (32 ∷ []) (λ ws. refl)) given

-- a head, and what follows in brackets
bracketed : (head : List ℕ) (given : Attributes) → IsBalanced head → IsBalanced ((head ++ codes " [") ++ flat_map attribute given ++ codes "];\n")
bracketed head given h =
    subst IsBalanced (four head (flat_map attribute given))
    (joined head (32 ∷ (91 ∷ (flat_map attribute given ++ 93 ∷ []) ++ 59 ∷ 10 ∷ [])) h
    (joined (32 ∷ []) (91 ∷ (flat_map attribute given ++ 93 ∷ []) ++ 59 ∷ 10 ∷ []) (λ ws. refl)
    (joined (91 ∷ (flat_map attribute given ++ 93 ∷ [])) (59 ∷ 10 ∷ []) (balanced.joined_balance.brackets (flat_map attribute given) (attributes_balance given)) (λ ws. refl))))
  where
    four : (a b : List ℕ) → a ++ (32 ∷ (91 ∷ (b ++ 93 ∷ []) ++ 59 ∷ 10 ∷ [])) ≡ (a ++ codes " [") ++ b ++ codes "];\n"
    four a b = simp append_assoc

-- a head, and what follows in braces
braced : (head body : List ℕ) → IsBalanced head → IsBalanced body → IsBalanced ((head ++ codes " {\n") ++ body ++ codes "}\n")
braced head body h k =
    subst IsBalanced (four head body)
    (joined head (32 ∷ (123 ∷ ((10 ∷ body) ++ 125 ∷ []) ++ 10 ∷ [])) h
    (joined (32 ∷ []) (123 ∷ ((10 ∷ body) ++ 125 ∷ []) ++ 10 ∷ []) (λ ws. refl)
    (joined (123 ∷ ((10 ∷ body) ++ 125 ∷ [])) (10 ∷ []) (balanced.joined_balance.braces (10 ∷ body) (joined (10 ∷ []) body (λ ws. refl) k)) (λ ws. refl))))
  where
    four : (a b : List ℕ) → a ++ (32 ∷ (123 ∷ ((10 ∷ b) ++ 125 ∷ []) ++ 10 ∷ [])) ≡ (a ++ codes " {\n") ++ b ++ codes "}\n"
    four a b = simp append_assoc

abbrev edge_head : List ℕ → List ℕ → List ℕ → List ℕ
edge_head source port target = quoted source ++ 58 ∷ (quoted port ++ codes " -> " ++ quoted target)

edge_head_balances : (source port target : List ℕ) → IsBalanced (edge_head source port target)
edge_head_balances source port target =
    joined (quoted source) (58 ∷ (quoted port ++ codes " -> " ++ quoted target)) (word source)
    (joined (58 ∷ []) (quoted port ++ codes " -> " ++ quoted target) (λ ws. refl)
    (joined (quoted port ++ codes " -> ") (quoted target) (joined (quoted port) (codes " -> ") (word port) (λ ws. refl)) (word target)))

edge_begins : (source port target : List ℕ) → edge_head source port target ++ codes " [" ≡ edge_begin source port target
edge_begins source port target = simp append_assoc

mutual
  dot_balances : (s : Statement) → IsBalanced (dot s)
  dot_balances (Setting name value) = pair_balances name value (codes ";\n") (λ ws. refl)
  dot_balances (Node name given) = bracketed (quoted name) given (word name)
  dot_balances (Edge source port target given) =
      subst (λ x. IsBalanced (x ++ flat_map attribute given ++ statement_end)) (edge_begins source port target)
      (bracketed (edge_head source port target) given (edge_head_balances source port target))
  dot_balances (Cluster name ss) = braced (codes "subgraph " ++ quoted name) (all_dot ss) (joined (codes "subgraph ") (quoted name) (λ ws. refl) (word name)) (all_balance ss)

  all_balance : (ss : Statements) → IsBalanced (all_dot ss)
  all_balance NoStatement = λ ws. refl
  all_balance (Statement_ s ss) = joined (dot s) (all_dot ss) (dot_balances s) (all_balance ss)

pub graphs_balance : GraphsBalance
graphs_balance name ss =
    braced (codes "digraph " ++ quoted name) (flat_map dot ss) (joined (codes "digraph ") (quoted name) (λ ws. refl) (word name)) (each_balances dot dot_balances ss)
