mod Steps
mod Stuck
mod Named
