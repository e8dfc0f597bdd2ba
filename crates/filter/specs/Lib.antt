-- What the filter writes, for every input.
pub mod Response
