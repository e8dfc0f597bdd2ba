-- Laws of each file of the source: the cases in which its functions return, and the turns of their loops.
pub mod Defining
pub mod Noting
pub mod Addressing
pub mod Reaching
pub mod Looking
pub mod Passing
pub mod Fitting
pub mod Deciding
pub mod Changed
