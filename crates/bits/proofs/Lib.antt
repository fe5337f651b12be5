pub mod BitLaws
pub mod PackLaws
pub mod BufferLaws
