pub mod Codings
pub mod Counts
pub mod Listings
pub mod Listed
pub mod Numbers
