-- The fields of a record.
use Rattle.heap_graph.proofs.Common.{◌≡◌, ◌==◌, ℕ, false, List, ◌++◌, append_assoc, arith, codes, ◌≢◌, decimal, port_title}

pub nil_port : (k v : ℕ) → v ≡ 0 → codes "|<f" ++ (decimal k ++ codes "> nil") ≡ port_title k v
nil_port k v e = rw e (four (decimal k))
  where
    four : (d : List ℕ) → codes "|<f" ++ (d ++ codes "> nil") ≡ codes "|<f" ++ d ++ codes "> " ++ codes "nil"
    four d = simp append_assoc

pub reference_port : (k v : ℕ) → v ≢ 0 → codes "|<f" ++ (decimal k ++ (codes "> " ++ decimal v)) ≡ port_title k v
reference_port k v ne = let e : (v == 0) ≡ false = grind (arith, ne) in rw e (four (decimal k) (decimal v))
  where
    four : (d b : List ℕ) → codes "|<f" ++ (d ++ (codes "> " ++ b)) ≡ codes "|<f" ++ d ++ codes "> " ++ b
    four d b = simp append_assoc

pub task_titled : (n : ℕ) (x y z w : List ℕ) → x ≡ y → z ≡ w
    → codes "task " ++ (decimal n ++ (codes " " ++ (x ++ z))) ≡ codes "task " ++ decimal n ++ codes " " ++ y ++ w
task_titled n x y z w e f = rw (e, f) (four (decimal n) y w)
  where
    four : (n y w : List ℕ) → codes "task " ++ (n ++ (codes " " ++ (y ++ w))) ≡ codes "task " ++ n ++ codes " " ++ y ++ w
    four n y w = simp append_assoc

pub heap_titled : (n m : ℕ) (x y : List ℕ) → x ≡ y
    → codes "<f0> " ++ (x ++ (codes "|objects: " ++ (decimal n ++ (codes "|chunks: " ++ decimal m)))) ≡ codes "<f0> " ++ y ++ codes "|objects: " ++ decimal n ++ codes "|chunks: " ++ decimal m
heap_titled n m x y e = rw e (five (decimal n) y (decimal m))
  where
    five : (n y m : List ℕ) → codes "<f0> " ++ (y ++ (codes "|objects: " ++ (n ++ (codes "|chunks: " ++ m)))) ≡ codes "<f0> " ++ y ++ codes "|objects: " ++ n ++ codes "|chunks: " ++ m
    five n y m = simp append_assoc
