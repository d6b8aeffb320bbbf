mod Firsts
mod Fields
mod Added
mod Quiet
mod Walking
mod Known
mod Worked
