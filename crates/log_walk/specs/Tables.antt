-- What is known of the strands of a run by their places in the serial order.
use Rattle.std.specs.Prelude.{◌≡◌, ◌<◌, ◌≤◌, ℕ, zero, suc, Option, Some, None, List, length, slice_get, get_or}
use Rattle.log_walk.specs.Common.{Link, up_from, depth_at, AreLinks, GraphTurn, GraphStrand, AreSmall, tasks_in, strand, IsAncestor, IsNested, SpawnsBelow, serial_order}
use Rattle.log_walk.specs.declared.places.Mark.TheVariants.{First, Last, Joined}
use Rattle.log_walk.specs.declared.tables.Tables.{Tables}
use Rattle.log_walk.specs.Places.{AreMarkPlaces}

-- the strand at a place of the order
abbrev pub strand_at : List GraphStrand → ℕ → GraphStrand
strand_at order i = get_or order i (strand 0 0)

-- its task
abbrev pub task_at : List GraphStrand → ℕ → ℕ
task_at order i = (strand_at order i).task

abbrev pub place_before : ℕ → Option ℕ
place_before zero = None
place_before (suc k) = Some k

-- each strand's task has its first place noted, which is no later
abbrev pub AreFirsts : List GraphStrand → List ℕ → Type 0
AreFirsts order firsts = (i : ℕ) (u : GraphStrand) → slice_get order i ≡ Some u → (first : ℕ) × (slice_get firsts u.task ≡ Some first) × (first ≤ i)

-- the first so many strands have links, each to the strand right before its task's first one
pub record AreSpawnLinks (order : List GraphStrand) (firsts : List ℕ) (count : ℕ) (links : List Link) : Type 0 where
  pub linked : AreLinks links
  pub size : length links ≡ count
  pub parent : (i first : ℕ) (u : GraphStrand) → i < count → slice_get order i ≡ Some u → slice_get firsts u.task ≡ Some first → up_from links i ≡ place_before first

-- the tables are those of a run of these tasks
pub record AreTables (rows : List (List GraphTurn)) (tables : Tables) : Type 0 where
  pub small : AreSmall rows
  pub nested : IsNested (tasks_in rows)
  pub below : SpawnsBelow (tasks_in rows) (length rows)
  pub some : 0 < length rows
  pub order : tables.order ≡ serial_order (tasks_in rows) (length rows)
  pub firsts : AreMarkPlaces (tasks_in rows) (length rows) tables.order First (length tables.order) tables.firsts
  pub lasts : AreMarkPlaces (tasks_in rows) (length rows) tables.order Last (length tables.order) tables.lasts
  pub afters : AreMarkPlaces (tasks_in rows) (length rows) tables.order Joined (length tables.order) tables.afters
  pub links : AreSpawnLinks tables.order tables.firsts (length tables.order) tables.links.items

-- a place higher up whose task isn't above the target's
pub record IsNextUp (rows : List (List GraphTurn)) (tables : Tables) (at target up : ℕ) : Type 0 where
  pub there : up < length tables.order
  pub higher : depth_at tables.links.items up < depth_at tables.links.items at
  pub above : IsAncestor (tasks_in rows) (task_at tables.order up) (task_at tables.order at)
  pub apart : IsAncestor (tasks_in rows) (task_at tables.order up) (task_at tables.order target) → ⊥

-- the place of a parent, whose task is above the target's
pub record IsTop (rows : List (List GraphTurn)) (tables : Tables) (at target : ℕ) : Type 0 where
  pub parent : ℕ
  pub linked : up_from tables.links.items at ≡ Some parent
  pub over : IsAncestor (tasks_in rows) (task_at tables.order parent) (task_at tables.order target)
