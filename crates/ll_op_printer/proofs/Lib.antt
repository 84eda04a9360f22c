pub mod Lists
pub mod TypeShapes
pub mod ValueShapes
