mod Bare
mod Ends
mod Follow
mod Late
mod Plans
mod Timed
mod Together
