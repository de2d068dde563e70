pub mod Operating
