pub mod Asking
mod Noting
