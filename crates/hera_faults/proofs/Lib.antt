mod First
mod Words
mod Pairs
mod Phrases
