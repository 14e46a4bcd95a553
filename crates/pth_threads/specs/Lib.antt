pub mod Threads
pub mod Attributes
pub use Rattle.pth_base.specs.Table
pub use Rattle.pth_base.specs.Naming
