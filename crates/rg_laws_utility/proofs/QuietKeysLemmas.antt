pub mod Louder
