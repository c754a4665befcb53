mod Rows
mod Walks
