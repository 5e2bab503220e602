-- what a chain file is, as text, and how a text is read as one
pub mod Words
pub mod Text
pub mod Reading
pub mod Walks
pub mod Steps
pub mod Laws
