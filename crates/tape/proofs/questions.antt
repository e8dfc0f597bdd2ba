-- Laws of the questions: of one command (Asking), and of the whole tape, whose reading has come to a place (Reading).
pub mod Asking
pub mod Reading
