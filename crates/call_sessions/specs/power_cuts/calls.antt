pub mod CallImages
