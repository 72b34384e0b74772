-- What the code keeps of its own fields.
pub mod Fields
