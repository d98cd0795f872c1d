pub mod InOrder
pub mod Orders
