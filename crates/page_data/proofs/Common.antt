-- The names of lower crates and of the specifications that these proofs use. Declares nothing.
pub use Rattle.page_data.specs.Deltas.{child, task_now, change}
pub use Rattle.page_data.specs.Heaps.{names_list}
pub use Rattle.page_data.specs.Run.{word_with_number}
pub use Rattle.page_data.specs.Values.{more, number, reference, name}
pub use Rattle.run_trace.specs.Settings.{field_limit}
pub use Rattle.std.proofs.Common.{[], ◌∷◌, ◌≡◌, ◌++◌, take}
pub use Rattle.std.proofs.lemmas.Result.{on_ok_weaker}
pub use Rattle.std.specs.List.{flat_map}
pub use Rattle.std.specs.Prelude.{codes}
