-- Changes by one task alone: if the machine is unchanged, and in sequence.
use Rattle.ledger_step_laws.proofs.Common.{is_some, ◌≡◌, ℕ, length, slice_get, ap, sym, ◌∙◌, MachineState, object_at, row_of, is_waiting, is_joined, is_on_path, owner_of, Ledger, heap_of, SameTree, StepsAlone}

machine_tree : (l l' : Ledger) → l'.machine ≡ l.machine → SameTree l l'
machine_tree l l' e = record {
  made = λ u. ap (λ (m : MachineState). is_some (slice_get m.tasks u)) e;
  owners = λ a. ap (λ (m : MachineState). owner_of m.tasks a) e;
  paths = λ a u. ap (λ (m : MachineState). is_on_path m.tasks a u) e;
  waits = λ u. ap (λ (m : MachineState). is_waiting (slice_get m.tasks u)) e;
  joins = λ u. ap (λ (m : MachineState). is_joined (slice_get m.tasks u)) e;
}

pub machine_alone : (l l' : Ledger) (t : ℕ) → l'.machine ≡ l.machine → ((u : ℕ) → (u ≡ t → ⊥) → heap_of l' u ≡ heap_of l u) → StepsAlone l l' t
machine_alone l l' t e heaps = record {
  tree = machine_tree l l' e;
  tasks = λ u ne. ap (λ (m : MachineState). slice_get m.tasks u) e;
  heaps = heaps;
  rows = λ u ne. ap (λ (m : MachineState). length (row_of (slice_get m.store u))) e;
  store = λ n ne. ap (λ (m : MachineState). object_at m.store n) e;
}

tree_along : (l k m : Ledger) → SameTree l k → SameTree k m → SameTree l m
tree_along l k m A B = record {
  made = λ u. B.made u ∙ A.made u;
  owners = λ a. B.owners a ∙ A.owners a;
  paths = λ a u. B.paths a u ∙ A.paths a u;
  waits = λ u. B.waits u ∙ A.waits u;
  joins = λ u. B.joins u ∙ A.joins u;
}

tree_back : (l k : Ledger) → SameTree l k → SameTree k l
tree_back l k A = record {
  made = λ u. sym (A.made u);
  owners = λ a. sym (A.owners a);
  paths = λ a u. sym (A.paths a u);
  waits = λ u. sym (A.waits u);
  joins = λ u. sym (A.joins u);
}

-- from k to k', each after the steps of another task
pub tree_beside : (l l' k k' : Ledger) → SameTree l l' → SameTree l k → SameTree l' k' → SameTree k k'
tree_beside l l' k k' B A A' = tree_along k l k' (tree_back l k A) (tree_along l l' k' B A')

pub alone_along : (t : ℕ) (l k m : Ledger) → StepsAlone l k t → StepsAlone k m t → StepsAlone l m t
alone_along t l k m A B = record {
  tree = tree_along l k m A.tree B.tree;
  tasks = λ u ne. B.tasks u ne ∙ A.tasks u ne;
  heaps = λ u ne. B.heaps u ne ∙ A.heaps u ne;
  rows = λ u ne. B.rows u ne ∙ A.rows u ne;
  store = λ n ne. B.store n (λ e. ne (sym (A.tree.owners n.task) ∙ e)) ∙ A.store n ne;
}

pub alone_back : (t : ℕ) (l k : Ledger) → StepsAlone l k t → StepsAlone k l t
alone_back t l k A = record {
  tree = tree_back l k A.tree;
  tasks = λ u ne. sym (A.tasks u ne);
  heaps = λ u ne. sym (A.heaps u ne);
  rows = λ u ne. sym (A.rows u ne);
  store = λ n ne. sym (A.store n (λ e. ne (A.tree.owners n.task ∙ e)));
}
