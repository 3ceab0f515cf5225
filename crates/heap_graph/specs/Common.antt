-- The names of lower crates that these specifications use. Declares nothing.
pub use Rattle.dot_text.specs.Dot.{Statement, Statements, Setting, Node, Cluster, NoStatement, Statement_, alone, graph, Attributes, Edge, cluster_begin}
pub use Rattle.image_check.specs.ImageTable.{found, with_entry}
pub use Rattle.image_check.specs.Line.{line_meaning, state_word}
pub use Rattle.image_check.specs.Place.{chunk_number}
pub use Rattle.image_check.specs.Sets.{same_birth}
pub use Rattle.image_check.specs.Sound.{all_read, ReferenceIs}
pub use Rattle.image_check.specs.ImageTasks.{ImageTasks, image_parent, owner_at, relation_of, is_running}
pub use Rattle.image_check.specs.declared.line.ImageBirth.{ImageBirth}
pub use Rattle.image_check.specs.declared.line.ImageChunk.{ImageChunk}
pub use Rattle.image_check.specs.declared.line.ImageLine.{ImageLine}
pub use Rattle.image_check.specs.declared.line.ImageLine.TheVariants.{OfTask, OfChunk, OfObject}
pub use Rattle.image_check.specs.declared.line.ImageObject.{ImageObject}
pub use Rattle.image_check.specs.declared.line.ImageState.{ImageState}
pub use Rattle.image_check.specs.declared.line.ImageState.TheVariants.{Running}
pub use Rattle.image_check.specs.declared.line.ImageTask.{ImageTask}
pub use Rattle.image_check.specs.declared.read.Read.{Read}
pub use Rattle.image_check.specs.declared.tasks.Relation.{Relation}
pub use Rattle.image_check.specs.declared.tasks.Relation.TheVariants.{Own, Above, Below, Apart}
pub use Rattle.indexmap.specs.IndexMap.{insert_entry}
pub use Rattle.quoted_text.specs.Labels.{task_name}
pub use Rattle.saturating_counts.specs.Counts.{raised_by}
pub use Rattle.text_lines.specs.Lines.{words_of, lines_of}
