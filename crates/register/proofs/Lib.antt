pub mod Rising
pub mod AtKeys
pub mod Rooms
pub mod Seeking
