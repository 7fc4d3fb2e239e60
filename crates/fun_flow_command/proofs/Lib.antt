mod Outputs
mod Sound
