mod Sentences
mod Examples
mod Days
mod Lists
mod Loops
mod Calls
