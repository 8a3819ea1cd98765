mod WordsLeft
mod Unfailing
mod Decoded
