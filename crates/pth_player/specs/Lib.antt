pub mod Objects
pub mod Streams
pub mod Transcript
pub mod Output
pub mod Drive
pub mod Play
pub mod FaultsOfErrors
