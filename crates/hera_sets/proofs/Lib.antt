pub mod Order
pub mod Lists
pub mod Members
pub mod Next
pub mod Words
