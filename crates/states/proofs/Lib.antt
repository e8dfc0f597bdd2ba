-- Laws of the first number that passes a test (Firsts), of bytes put into a part of a list (Puts), of one cell (Contents) and what the
-- functions that write one leave (Writing); what the definitions answer (Deciding) and what an answer tells (Passing). The theorems: each
-- call (States), which answer it gives (Answering), and sequences of calls (Histories).
pub mod Firsts
pub mod Puts
pub mod Contents
pub mod Writing
pub mod Deciding
pub mod Passing
pub mod States
pub mod Answering
pub mod Histories
