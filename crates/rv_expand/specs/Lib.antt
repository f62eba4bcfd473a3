pub mod Toffoli
