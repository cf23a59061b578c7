pub mod Laws
mod Lists
