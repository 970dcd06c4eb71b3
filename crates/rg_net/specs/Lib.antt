pub mod ByHome
