pub mod Cut
pub mod FreeShape
pub mod TaskCut
pub mod Progress
pub mod Turns
