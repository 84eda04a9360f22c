pub mod InstsPrinted
pub mod KernelsPrinted
pub mod NamesPrinted
pub mod ParamsPrinted
pub mod TextsBefore
