pub mod Hearing
pub mod Laws
pub mod Making
pub mod Office
pub mod Steps
