-- What the settings of a call mean.
pub mod Rules
