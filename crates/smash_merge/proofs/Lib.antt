pub mod JointWalk
pub mod Merging
