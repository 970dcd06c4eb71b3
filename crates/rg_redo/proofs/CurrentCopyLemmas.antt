pub mod Based
pub mod Sounding
pub mod Covering
pub mod Redoable
