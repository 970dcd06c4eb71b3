pub mod Admission
pub mod ClaimSlots
pub mod Grants
