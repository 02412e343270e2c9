pub mod Echo
pub mod Text
pub mod Laws
