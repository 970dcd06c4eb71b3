pub mod UndoRoomLemmas
pub mod ByteClaimsLemmas
