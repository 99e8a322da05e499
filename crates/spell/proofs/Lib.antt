pub mod Laws
pub mod Clock
