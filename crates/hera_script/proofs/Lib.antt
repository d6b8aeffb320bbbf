mod Refused
mod One
