pub mod UndoRoom
pub mod ByteClaims
