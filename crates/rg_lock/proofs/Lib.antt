pub mod Exact
pub mod Ended
pub mod KeyLists
pub mod ScanHeld
