-- Laws of images.
pub mod Recovering
pub mod ImageLaws
