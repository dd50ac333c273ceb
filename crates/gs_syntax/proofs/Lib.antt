pub mod OneList
pub mod ChunksCover
