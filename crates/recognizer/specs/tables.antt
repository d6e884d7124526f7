pub mod NamedTable
