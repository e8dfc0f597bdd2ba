-- Laws of the memo: the key of a token, and what it tells (Keys); a table with a token more, and a token that is remembered (Remembering).
pub mod Keys
pub mod Remembering
