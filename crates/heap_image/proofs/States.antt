-- What the verifier has read after each line of a picture's text.
use Rattle.heap_image.proofs.Common.{◌<◌, ℕ, List, [], length, map, arith, Option, Some, None, ImageTask, ImageChunk, ImageRemembered, ImagePosition, ImageExtent, Read, Chunks, position, extent_of, Picked, ImageData, as_read}
use Rattle.heap_image.proofs.Tables.{table}
use Rattle.heap_image.proofs.Family.{task_table}
use Rattle.heap_image.proofs.Passes.{last_of, last_from}

-- TABLES

abbrev pub chunk_number_of : ImageChunk → ℕ
chunk_number_of c = c.number

abbrev pub chunk_itself : ImageChunk → ImageChunk
chunk_itself c = c

abbrev pub chunk_table : List ImageChunk → Chunks
chunk_table cs = table chunk_number_of chunk_itself cs

abbrev pub address_of : Picked → ℕ
address_of o = o.address

abbrev pub reference_count : Picked → ℕ
reference_count o = length o.references

abbrev pub object_table : List Picked → List (ℕ × ℕ)
object_table os = table address_of reference_count os

abbrev pub birth_of : Picked → ℕ × ℕ
birth_of o = (o.birth.task, o.birth.count)

-- where an object ends
abbrev pub ends_at : Picked → Option ImageExtent
ends_at o = Some (extent_of (as_read o))

-- PLACES OF LINES

abbrev pub task_at : ImageTask → ImagePosition
task_at t = position 1 t.number 0 0

abbrev pub chunk_at : ImageChunk → ImagePosition
chunk_at c = position 2 c.number 0 0

abbrev pub object_at : Picked → ImagePosition
object_at o = position 3 o.address 0 0

abbrev pub field_at : ImageRemembered → ImagePosition
field_at f = position 4 f.task f.address f.place

abbrev pub title_at : ImagePosition
title_at = position 0 0 0 0

abbrev pub behind_tasks : List ImageTask → ImagePosition
behind_tasks ts = last_of task_at title_at ts

abbrev pub behind_chunks : ImageData → List ImageChunk → ImagePosition
behind_chunks p cs = last_of chunk_at (behind_tasks p.tasks) cs

abbrev pub behind_objects : ImageData → List Picked → ImagePosition
behind_objects p os = last_of object_at (behind_chunks p p.chunks) os

abbrev pub behind_fields : ImageData → List ImageRemembered → ImagePosition
behind_fields p fs = last_of field_at (behind_objects p p.objects) fs

pub tasks_low : (ts : List ImageTask) → (behind_tasks ts).kind < 2
tasks_low ts = last_from task_at (λ (q : ImagePosition). q.kind < 2) title_at ts (omega arith) (λ t i. omega arith)

pub chunks_low : (p : ImageData) (cs : List ImageChunk) → (behind_chunks p cs).kind < 3
chunks_low p cs = last_from chunk_at (λ (q : ImagePosition). q.kind < 3) (behind_tasks p.tasks) cs (let h = tasks_low p.tasks in omega (arith, h)) (λ t i. omega arith)

pub objects_low : (p : ImageData) (os : List Picked) → (behind_objects p os).kind < 4
objects_low p os = last_from object_at (λ (q : ImagePosition). q.kind < 4) (behind_chunks p p.chunks) os (let h = chunks_low p p.chunks in omega (arith, h)) (λ t i. omega arith)

pub fields_low : (p : ImageData) (fs : List ImageRemembered) → (behind_fields p fs).kind < 5
fields_low p fs = last_from field_at (λ (q : ImagePosition). q.kind < 5) (behind_objects p p.objects) fs (let h = objects_low p p.objects in omega (arith, h)) (λ t i. omega arith)

-- WHAT WAS READ

abbrev pub tasks_read : List ImageTask → Read
tasks_read ts = record { last = Some (behind_tasks ts); tasks = task_table ts; chunks = []; objects = []; births = []; latest = None }

abbrev pub chunks_read : ImageData → List ImageChunk → Read
chunks_read p cs = record { last = Some (behind_chunks p cs); tasks = task_table p.tasks; chunks = chunk_table cs; objects = []; births = []; latest = None }

abbrev pub objects_read : ImageData → List Picked → Read
objects_read p os = record {
  last = Some (behind_objects p os);
  tasks = task_table p.tasks;
  chunks = chunk_table p.chunks;
  objects = object_table os;
  births = map birth_of os;
  latest = last_of ends_at None os;
}

abbrev pub fields_read : ImageData → List ImageRemembered → Read
fields_read p fs = record {
  last = Some (behind_fields p fs);
  tasks = task_table p.tasks;
  chunks = chunk_table p.chunks;
  objects = object_table p.objects;
  births = map birth_of p.objects;
  latest = last_of ends_at None p.objects;
}
