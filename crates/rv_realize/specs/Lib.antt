pub mod Realized
