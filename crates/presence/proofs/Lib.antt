pub mod Sentences
mod Examples
mod Bits
mod Loops
mod Zeros
mod Words
mod Calls
