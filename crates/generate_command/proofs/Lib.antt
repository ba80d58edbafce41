mod Nowhere
mod Plays
mod Steps
mod Seeing
mod Sessions
