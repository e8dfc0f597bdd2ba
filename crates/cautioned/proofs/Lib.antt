-- Bytes: sets as bytes. Running: the sets that a run leaves. Answering: what each answer says of the call. Alike: it is refused as
-- the cleaning is.
pub mod Bytes
pub mod Running
pub mod Answering
pub mod Alike
