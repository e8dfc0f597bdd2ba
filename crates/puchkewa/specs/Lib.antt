-- What the structs of the C interface mean.
pub mod Exports
