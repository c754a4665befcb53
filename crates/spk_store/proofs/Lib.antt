mod Rows
mod Runs
