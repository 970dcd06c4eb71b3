pub mod Capacity
pub mod Flush
pub mod InMemory
pub mod Near
pub mod Opening
pub mod Records
pub mod Steady
pub mod Switching
