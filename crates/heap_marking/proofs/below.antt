pub mod core_invariant
pub mod plain_vec
pub mod task_machine
