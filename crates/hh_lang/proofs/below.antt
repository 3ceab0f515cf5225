pub mod plain_vec
