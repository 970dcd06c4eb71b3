pub mod FlushLaws
pub mod Laws
pub mod Newest
pub mod OpenLaws
pub mod Steady
pub mod Tidy
