mod Ties
mod Rows
