mod Each
mod Runs
