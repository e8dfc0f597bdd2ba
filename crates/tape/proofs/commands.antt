-- Laws of what stands at an offset, which the questions, the loading and the programs cite.
pub mod Standing
