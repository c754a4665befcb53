mod Lawful
mod Within
mod Worked
