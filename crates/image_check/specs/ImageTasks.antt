-- Tasks, and the chunks that they own, in what was read.
use Rattle.std.specs.Prelude.{◌≡◌, ◌↔◌, ℕ, zero, suc, ◌==◌, ◌||◌, Bool, true, false, Option, Some, None, List, length, if◌then◌else◌}
use Rattle.image_check.specs.declared.line.ImageState.{ImageState}
use Rattle.image_check.specs.declared.line.ImageState.TheVariants.{Running}
use Rattle.image_check.specs.declared.line.ImageTask.{ImageTask}
use Rattle.image_check.specs.declared.line.ImageChunk.{ImageChunk}
use Rattle.image_check.specs.declared.tasks.Relation.{Relation}
use Rattle.image_check.specs.declared.tasks.Relation.TheVariants.{Own, Above, Below, Apart}
use Rattle.image_check.specs.ImageTable.{found, has}
use Rattle.image_check.specs.Place.{chunk_number}

abbrev pub ImageTasks : Type 0
ImageTasks = List (ℕ × ImageTask)

abbrev pub Chunks : Type 0
Chunks = List (ℕ × ImageChunk)

-- PATHS

abbrev pub parent_of_row : Option ImageTask → Option ℕ
parent_of_row None = None
parent_of_row (Some t) = t.parent

-- the parent of a task, if it has one
abbrev pub image_parent : ImageTasks → ℕ → Option ℕ
image_parent tasks t = parent_of_row (found tasks t)

abbrev pub there_or_on : ℕ → (ℕ → Bool) → Option ℕ → Bool
there_or_on a walk None = false
there_or_on a walk (Some p) = (p == a) || walk p

-- a walk of at most n links to parents meets a
abbrev pub meets : ℕ → ImageTasks → ℕ → ℕ → Bool
meets zero tasks a t = false
meets (suc n) tasks a t = there_or_on a (meets n tasks a) (image_parent tasks t)

-- a walk from t meets a; it has fewer links than there are tasks
abbrev pub is_ancestor_of : ImageTasks → ℕ → ℕ → Bool
is_ancestor_of tasks a t = meets (length tasks) tasks a t

-- how u is related to t
abbrev pub relation_of : ImageTasks → ℕ → ℕ → Relation
relation_of tasks t u =
    if u == t then Own
    else if is_ancestor_of tasks u t then Above
    else if is_ancestor_of tasks t u then Below
    else Apart

-- the parent, if there is one, is among the tasks
abbrev pub HasParent : ImageTasks → Option ℕ → Type 0
HasParent tasks None = Unit {0}
HasParent tasks (Some p) = has tasks p ≡ true

-- n + 1 links from a task lead to a
abbrev pub LinksLead : ℕ → ImageTasks → ℕ → ℕ → Type 0
LinksLead zero tasks t a = image_parent tasks t ≡ Some a
LinksLead (suc n) tasks t a = (p : ℕ) × (image_parent tasks t ≡ Some p) × LinksLead n tasks p a

-- a is a proper ancestor of t
abbrev pub IsProperAncestor : ImageTasks → ℕ → ℕ → Type 0
IsProperAncestor tasks a t = (n : ℕ) × LinksLead n tasks t a

-- the relation found between u and t is the true one
pub record IsRelated (tasks : ImageTasks) (t u : ℕ) : Type 0 where
  pub own : (relation_of tasks t u ≡ Own) ↔ (u ≡ t)
  pub above : (relation_of tasks t u ≡ Above) ↔ IsProperAncestor tasks u t
  pub below : (relation_of tasks t u ≡ Below) ↔ IsProperAncestor tasks t u

-- OWNERS

abbrev pub is_running_state : ImageState → Bool
is_running_state Running = true
is_running_state _ = false

abbrev pub runs : Option ImageTask → Bool
runs None = false
runs (Some t) = is_running_state t.state

abbrev pub is_running : ImageTasks → ℕ → Bool
is_running tasks t = runs (found tasks t)

-- the chunk of an address; 0 lies in none
abbrev pub chunk_at : Chunks → ℕ → Option ImageChunk
chunk_at chunks a = if a == 0 then None else found chunks (chunk_number a)

abbrev pub owner_in : Option ImageChunk → Option ℕ
owner_in None = None
owner_in (Some c) = Some c.owner

-- the owner of an address
abbrev pub owner_at : Chunks → ℕ → Option ℕ
owner_at chunks a = owner_in (chunk_at chunks a)
