-- What the code's answers mean: definitions, the addressed names, a constant's reach, the look at a line, plans; and the same of the
-- structs that are lent.
pub mod Definitions
pub mod Slots
pub mod Reaches
pub mod Uses
pub mod Plans
pub mod Texts
