mod Loops
mod Order
mod Only
pub mod Added
mod Kicks
mod FaceScene
mod Turns
mod InOrder
mod OneLeaf
mod TwoBins
