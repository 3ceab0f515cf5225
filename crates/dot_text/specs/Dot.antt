-- Graphs, and their text in Graphviz's DOT language.
use Rattle.std.specs.Prelude.{ℕ, List, [], ◌∷◌, ◌++◌, codes}
use Rattle.std.specs.List.{flat_map}
use Rattle.quoted_text.specs.Quoted.{quoted}

-- names with values
abbrev pub Attributes : Type 0
Attributes = List (List ℕ × List ℕ)

-- a statement: an attribute of the enclosing graph or cluster; a node; an edge from a port of a node to a node; or a
-- cluster of statements
mutual
  pub data Statement : Type 0 where
    Setting : List ℕ → List ℕ → Statement
    Node : List ℕ → Attributes → Statement
    Edge : List ℕ → List ℕ → List ℕ → Attributes → Statement
    Cluster : List ℕ → Statements → Statement

  pub data Statements : Type 0 where
    NoStatement : Statements
    Statement_ : Statement → Statements → Statements

-- PIECES

abbrev pub attribute : List ℕ × List ℕ → List ℕ
attribute a = quoted a.0 ++ 61 ∷ (quoted a.1 ++ 32 ∷ [])

abbrev pub setting : List ℕ → List ℕ → List ℕ
setting name value = quoted name ++ 61 ∷ (quoted value ++ codes ";\n")

abbrev pub node_begin : List ℕ → List ℕ
node_begin name = quoted name ++ codes " ["

abbrev pub edge_begin : List ℕ → List ℕ → List ℕ → List ℕ
edge_begin source port target = quoted source ++ 58 ∷ (quoted port ++ codes " -> " ++ quoted target ++ codes " [")

abbrev pub statement_end : List ℕ
statement_end = codes "];\n"

abbrev pub graph_begin : List ℕ → List ℕ
graph_begin name = codes "digraph " ++ quoted name ++ codes " {\n"

abbrev pub cluster_begin : List ℕ → List ℕ
cluster_begin name = codes "subgraph " ++ quoted name ++ codes " {\n"

abbrev pub braces_end : List ℕ
braces_end = codes "}\n"

-- THE TEXT

abbrev mutual
  pub dot : Statement → List ℕ
  dot (Setting name value) = setting name value
  dot (Node name attributes) = node_begin name ++ flat_map attribute attributes ++ statement_end
  dot (Edge source port target attributes) = edge_begin source port target ++ flat_map attribute attributes ++ statement_end
  dot (Cluster name ss) = cluster_begin name ++ all_dot ss ++ braces_end

  pub all_dot : Statements → List ℕ
  all_dot NoStatement = []
  all_dot (Statement_ s ss) = dot s ++ all_dot ss

-- a cluster of one statement
abbrev pub alone : Statement → Statements
alone s = Statement_ s NoStatement

-- a graph of these statements
abbrev pub graph : List ℕ → List Statement → List ℕ
graph name ss = graph_begin name ++ flat_map dot ss ++ braces_end
