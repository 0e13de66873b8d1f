mod Sentences
mod Examples
mod Halving
mod Calls
