pub mod Figures
pub mod Laws
