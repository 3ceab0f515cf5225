-- No line of a sound picture's text has a fault.
use Rattle.heap_image.proofs.Common.{◌≡◌, ◌<◌, ◌≤◌, ℕ, true, false, List, [], cond, length, map, refl, ap, sym, ◌∙◌, inl, inr, ◌⊎◌, arith, Option, Some, None, not, is_some, list_any, length-map, eq-eqb, lt-ltb, In, ImageTask, ImageChunk, ImageRemembered, OfTask, OfChunk, OfRemembered, OfEnd, ImagePosition, Whole, Twice, found, has, same_birth, position, rises, is_running, owner_at, chunk_at as chunk_around, cause_on, lacks_parent, is_astray, crosses, forgets, is_crowded, has_field, owner_is_above, object_cause, remembered_cause, object_cause_in, Picked, ImageData, TaskBefore, ChunkBefore, ObjectBefore, RememberedBefore, IsOwnedBy, IsDownField, IsSoundPicture, as_read, object_said}
use Rattle.heap_image.proofs.Splits.{IsCut, in_front, in_middle, one_of_three, before_it, behind_it, same_item}
use Rattle.heap_image.proofs.Tables.{found_in, entry_more, new_more, item_more}
use Rattle.heap_image.proofs.Passes.{IsStep, last_of, last_more, last_from, formed, lower}
use Rattle.heap_image.proofs.Family.{number_of, itself, task_table, earlier, task_is_in_table, resting, ancestor_met, has_ancestor}
use Rattle.heap_image.proofs.States.{chunk_number_of, chunk_itself, chunk_table, address_of, reference_count, object_table, birth_of, ends_at, task_at, chunk_at, object_at, field_at, title_at, behind_tasks, behind_chunks, behind_objects, behind_fields, tasks_low, chunks_low, objects_low, fields_low, tasks_read, chunks_read, objects_read, fields_read}
use Rattle.heap_image.proofs.Owners.{chunk_found, owner_found}
use Rattle.heap_image.proofs.Placed.{fresh_address, fresh_birth, uncrowded}
use Rattle.heap_image.proofs.Leads.{HasAll, none_astray, none_crosses, none_left_out}

-- ORDER

task_rises : (t u : ImageTask) → t.number < u.number → rises (task_at t) (task_at u) ≡ true
task_rises t u h = grind (arith, h)

chunk_rises : (c d : ImageChunk) → c.number < d.number → rises (chunk_at c) (chunk_at d) ≡ true
chunk_rises c d h = grind (arith, h)

object_rises : (o q : Picked) → o.address < q.address → rises (object_at o) (object_at q) ≡ true
object_rises o q h = grind (arith, h)

three_rise : (a b c d e f : ℕ) → ((a < d) ⊎ ((a ≡ d) × (b < e) ⊎ (a ≡ d) × (b ≡ e) × (c < f))) → rises (position 4 a b c) (position 4 d e f) ≡ true
three_rise a b c d e f (inl h) = grind (arith, h)
three_rise a b c d e f (inr (inl h)) = let x : a ≡ d = h.0 in let y : b < e = h.1 in grind (arith, x, y)
three_rise a b c d e f (inr (inr h)) = let x : a ≡ d = h.0 in let y : b ≡ e = h.1 in let z : c < f = h.2 in grind (arith, x, y, z)

field_rises : (f g : ImageRemembered) → RememberedBefore f g → rises (field_at f) (field_at g) ≡ true
field_rises f g h = three_rise f.task f.address f.place g.task g.address g.place h

module _ (p : ImageData) (s : IsSoundPicture p) (w : Whole) (all : HasAll p w) where
  -- TASKS

  module _ (a : List ImageTask) (t : ImageTask) (b : List ImageTask) (c : IsCut p.tasks a t b) where
    task_up : rises (behind_tasks a) (task_at t) ≡ true
    task_up = last_from task_at (λ (q : ImagePosition). rises q (task_at t) ≡ true) title_at a (lower title_at (task_at t) (omega arith)) (λ u i. task_rises u t (before_it p.tasks a t b c TaskBefore s.tasks_rise u i))

    new_task : (u : ImageTask) → In a u → u.number ≡ t.number → ⊥
    new_task u i e = let l : u.number < t.number = before_it p.tasks a t b c TaskBefore s.tasks_rise u i in omega (arith, l, e)

    parent_before : (q : ℕ) (k : ImageTask) → k.number ≡ q → q < t.number → In a k ⊎ ((t ≡ k) ⊎ In b k) → In a k
    parent_before q k e lt (inl i) = i
    parent_before q k e lt (inr (inl g)) = absurd (let f : t.number ≡ k.number = ap number_of g in omega (arith, e, lt, f))
    parent_before q k e lt (inr (inr i)) = absurd (let f : t.number < k.number = behind_it p.tasks a t b c TaskBefore s.tasks_rise k i in omega (arith, e, lt, f))

    found_before : (k : ImageTask) → In a k → found (task_table a) k.number ≡ Some k
    found_before k i = found_in number_of itself a k (λ u j e. same_item TaskBefore number_of earlier p.tasks s.tasks_rise u k (front u j) (front k i) e) i
      where
        front : (u : ImageTask) → In a u → In p.tasks u
        front u j = in_front p.tasks a t b c u j

    has_parent : (m : Option ℕ) → t.parent ≡ m → lacks_parent (tasks_read a) m ≡ false
    has_parent None e = refl
    has_parent (Some q) e =
        let up = s.parents t q (in_middle p.tasks a t b c) e in
        let k = up.0.0 in
        let i : In a k = parent_before q k up.0.2 up.1 (one_of_three p.tasks a t b c k up.0.1) in
        ap not (ap (has (task_table a)) (sym up.0.2) ∙ ap is_some (found_before k i))

    pub task_step : IsStep w OfTask tasks_read a t
    task_step = record {
      clear = formed w (tasks_read a) (OfTask t) (behind_tasks a) (task_at t) refl refl refl task_up (rw (has_parent t.parent refl) refl);
      reads = λ j. record {
        last = Some (last_more task_at title_at a t j);
        tasks = new_more number_of itself a t new_task j;
        chunks = [];
        objects = [];
        births = [];
        latest = None;
      };
    }

  -- CHUNKS

  module _ (a : List ImageChunk) (k : ImageChunk) (b : List ImageChunk) (c : IsCut p.chunks a k b) where
    chunk_up : rises (behind_chunks p a) (chunk_at k) ≡ true
    chunk_up =
        last_from chunk_at (λ (q : ImagePosition). rises q (chunk_at k) ≡ true) (behind_tasks p.tasks) a (lower (behind_tasks p.tasks) (chunk_at k) (tasks_low p.tasks))
        (λ d i. chunk_rises d k (before_it p.chunks a k b c ChunkBefore s.chunks_rise d i))

    new_chunk : (d : ImageChunk) → In a d → d.number ≡ k.number → ⊥
    new_chunk d i e = let l : d.number < k.number = before_it p.chunks a k b c ChunkBefore s.chunks_rise d i in omega (arith, l, e)

    pub chunk_step : IsStep w OfChunk (chunks_read p) a k
    chunk_step = record {
      clear = formed w (chunks_read p a) (OfChunk k) (behind_chunks p a) (chunk_at k) refl refl refl chunk_up (rw (task_is_in_table p s k.owner (s.owners k (in_middle p.chunks a k b c))) refl);
      reads = λ j. record {
        last = Some (last_more chunk_at (behind_tasks p.tasks) a k j);
        tasks = task_table p.tasks;
        chunks = entry_more chunk_number_of chunk_itself a k new_chunk j;
        objects = [];
        births = [];
        latest = None;
      };
    }

  -- OBJECTS

  module _ (a : List Picked) (o : Picked) (b : List Picked) (c : IsCut p.objects a o b) where
    object_up : rises (behind_objects p a) (object_at o) ≡ true
    object_up =
        last_from object_at (λ (q : ImagePosition). rises q (object_at o) ≡ true) (behind_chunks p p.chunks) a (lower (behind_chunks p p.chunks) (object_at o) (chunks_low p p.chunks))
        (λ q i. object_rises q o (before_it p.objects a o b c ObjectBefore s.objects_rise q i))

    object_is_in_image : In p.objects o
    object_is_in_image = in_middle p.objects a o b c

    in_its_chunk : (k : ImageChunk) → is_crowded (objects_read p a) k (as_read o) ≡ false → is_running (task_table p.tasks) k.owner ≡ false
        → list_any (is_astray w (objects_read p a)) o.references ≡ false → list_any (crosses (objects_read p a) k.owner) o.references ≡ false
        → forgets w (objects_read p a) k.owner o.address 0 o.references ≡ false → object_cause_in w (objects_read p a) (as_read o) (Some k) ≡ None
    in_its_chunk k e f g h i = rw (e, f, g, h, i) refl

    object_clear : object_cause w (objects_read p a) (as_read o) ≡ None
    object_clear =
        let k = s.places o object_is_in_image in
        let owned : IsOwnedBy p o.address k.chunk.owner = (k.chunk, k.lies, refl) in
        ap (λ x. cond x (Some Twice) (object_cause_in w (objects_read p a) (as_read o) (chunk_around (chunk_table p.chunks) o.address))) (fresh_birth p s a o b c)
        ∙ ap (object_cause_in w (objects_read p a) (as_read o)) (chunk_found p s o.address k.chunk k.lies)
        ∙ in_its_chunk k.chunk (uncrowded p s a o b c k.chunk k.inside) (resting p s k.chunk.owner k.rests)
        (none_astray p s w all a o object_is_in_image) (none_crosses p s w all a o object_is_in_image k.chunk.owner owned) (none_left_out p s w all a o object_is_in_image k.chunk.owner owned)

    pub object_step : IsStep w object_said (objects_read p) a o
    object_step = record {
      clear = formed w (objects_read p a) (object_said o) (behind_objects p a) (object_at o) refl refl refl object_up object_clear;
      reads = λ j. record {
        last = Some (last_more object_at (behind_chunks p p.chunks) a o j);
        tasks = task_table p.tasks;
        chunks = chunk_table p.chunks;
        objects = entry_more address_of reference_count a o (fresh_address p s a o b c) j;
        births = item_more birth_of same_birth a o (fresh_birth p s a o b c) j;
        latest = last_more ends_at None a o j;
      };
    }

  -- REMEMBERED FIELDS

  module _ (a : List ImageRemembered) (f : ImageRemembered) (b : List ImageRemembered) (c : IsCut p.fields a f b) where
    field_up : rises (behind_fields p a) (field_at f) ≡ true
    field_up =
        last_from field_at (λ (q : ImagePosition). rises q (field_at f) ≡ true) (behind_objects p p.objects) a (lower (behind_objects p p.objects) (field_at f) (objects_low p p.objects))
        (λ g i. field_rises g f (before_it p.fields a f b c RememberedBefore s.fields_rise g i))

    has_it : (fit : IsDownField p f) → has_field (found w.objects f.address) f.place ≡ true
    has_it fit =
        let h = all.objects fit.object fit.drawn in
        let least : length fit.object.references ≤ h.0 = h.2 in
        let lt : f.place < length fit.object.references = fit.place in
        ap (λ m. has_field m f.place) (ap (found w.objects) (sym fit.address) ∙ h.1) ∙ lt-ltb f.place h.0 (omega (arith, lt, least))

    above_it : (fit : IsDownField p f) → owner_is_above (fields_read p a) f.task (owner_at (chunk_table p.chunks) f.address) ≡ true
    above_it fit = ap (owner_is_above (fields_read p a) f.task) (owner_found p s f.address fit.owner fit.owned) ∙ ancestor_met p s fit.owner f.task fit.above

    field_clear : remembered_cause w (fields_read p a) f ≡ None
    field_clear =
        let fit = s.fields_fit f (in_middle p.fields a f b c) in
        rw (task_is_in_table p s f.task (has_ancestor p s fit.owner f.task fit.above), has_it fit, above_it fit) refl

    pub field_step : IsStep w OfRemembered (fields_read p) a f
    field_step = record {
      clear = formed w (fields_read p a) (OfRemembered f) (behind_fields p a) (field_at f) refl refl refl field_up field_clear;
      reads = λ j. record {
        last = Some (last_more field_at (behind_objects p p.objects) a f j);
        tasks = task_table p.tasks;
        chunks = chunk_table p.chunks;
        objects = object_table p.objects;
        births = map birth_of p.objects;
        latest = last_of ends_at None p.objects;
      };
    }

  -- THE END

  pub end_clear : cause_on w (fields_read p p.fields) false (OfEnd (length p.objects)) ≡ None
  end_clear =
      formed w (fields_read p p.fields) (OfEnd (length p.objects)) (behind_fields p p.fields) (position 5 0 0 0) refl refl refl
      (lower (behind_fields p p.fields) (position 5 0 0 0) (fields_low p p.fields))
      (rw (length-map {B = ℕ × ℕ} p.objects (λ (o : Picked). (o.address, length o.references)), eq-eqb (length p.objects) (length p.objects) refl) refl)
