pub mod Named
mod Prefixes
mod Meaning
mod Readied
mod Broken
mod Kept
mod Lexed
mod OneReading
mod OneAnswer
mod Lineless
