-- What stands on the page of a listing's bytes: escaped (Escaping), in cells (Cells); and the words of a cautioned line (Signs).
pub mod Escaping
pub mod Cells
pub mod Signs
