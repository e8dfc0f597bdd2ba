-- Laws of the tables and the steps.
pub mod Lending
pub mod Moving
pub mod Putting
pub mod Cutting
pub mod Gathering
pub mod Told
pub mod Noted
pub mod Renewed
pub mod Before
pub mod Passing
