-- What the contracts cite besides the reference: rows of names, what the answers on families mean, families by number.
pub mod Tables
pub mod Families
pub mod Volatile
