pub mod OneToOne
pub mod Places
pub mod TargetWalk
