pub mod LogRows
