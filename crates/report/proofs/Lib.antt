mod Sentences
mod Numerals
mod Lengths
mod Paging
mod Running
mod Examples
