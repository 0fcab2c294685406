mod Completes
mod Damage
mod Drills
mod Ends
mod Files
mod Kept
mod Repairs
mod Words
