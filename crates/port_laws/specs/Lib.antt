pub mod Laws
pub mod InOrder
pub mod EachPhy
pub mod Shelf
