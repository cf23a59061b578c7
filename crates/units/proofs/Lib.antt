pub mod Below
pub mod Products
