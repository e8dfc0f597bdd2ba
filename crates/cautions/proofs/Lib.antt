-- Opened computes the examples (Rows, Examples). Sets has the laws of union; Small: each set has the ten kinds alone; Handed: what a removed line hands
-- on; Carried: kept step by step the cautions are those of the definition; Lost: none is lost, and there is none where no step succeeds; Grouped and
-- Ordered: in the profile of straight pieces no kind of order or grouping is raised; Terms and Unwarned: without the profile too a straight piece returns
-- the same where no line has `other_text`; Stepping: what code that keeps them can cite; Reached: that the sweeps are enough; Bare: that they look at no
-- address.
pub mod Opened
pub mod Sets
pub mod Small
pub mod Handed
pub mod Carried
pub mod Stepping
pub mod Reached
pub mod Bare
pub mod Lost
pub mod Grouped
pub mod Ordered
pub mod Terms
pub mod Unwarned
pub mod Rows
pub mod Examples
