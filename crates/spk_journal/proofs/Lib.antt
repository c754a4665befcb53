mod Noting
mod Bytes
mod Torn
