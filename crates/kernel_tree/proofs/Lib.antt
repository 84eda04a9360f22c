pub mod AlignedNames
