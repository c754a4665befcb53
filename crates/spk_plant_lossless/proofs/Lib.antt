mod Whole
mod Subscribed
mod Connected
mod Due
mod Rows
