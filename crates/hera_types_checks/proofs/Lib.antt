pub mod Attributes
pub mod Joints
