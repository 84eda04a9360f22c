-- Types of kernels: sizes, alignments, offsets
pub mod Pointers
pub mod Parts
pub mod Tables
pub mod Steps
pub mod Layouts
pub mod Kept
pub mod Laws
