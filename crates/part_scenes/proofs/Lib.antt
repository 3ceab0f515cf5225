mod ChunkAdded
mod RootPart
mod Common
