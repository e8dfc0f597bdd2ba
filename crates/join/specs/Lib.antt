-- What an attempt's contracts cite: the listing that it works on, the new listing of a plan, the marks handed on, what it finds and leaves
-- (of all that stands in the tables, as one value: Contents; of the tables of cautions: Cautions), and a listing changed in place; and the
-- same over the structs in which the slices are lent (Workspaces, Builders).
pub mod Current
pub mod Contents
pub mod Building
pub mod Carrying
pub mod Attempts
pub mod Cautions
pub mod Workspaces
pub mod Patching
pub mod Builders
