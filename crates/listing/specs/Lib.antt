pub mod Listing
pub mod BytesPut
