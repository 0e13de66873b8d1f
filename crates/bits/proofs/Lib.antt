pub mod Sentences
mod Examples
mod OverForm
mod Forms
