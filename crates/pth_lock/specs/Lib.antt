pub mod Objects
pub mod Sets
pub mod Mutexes
pub mod RwLocks
pub mod Holds
