pub mod Edited
