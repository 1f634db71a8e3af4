mod Bits
mod Runs
mod OneStep
mod Kept
mod Ends
