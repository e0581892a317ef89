-- What each source and sink promises: Causes, Stores, Writes, Gathers, Pieces. What those in memory and of the host promise beside it:
-- BytesState, SteadyState, PaperState, HostState. What the code keeps for itself: Entries.
pub mod Causes
pub mod Stores
pub mod Writes
pub mod Gathers
pub mod Pieces
pub mod BytesState
pub mod Entries
pub mod SteadyState
pub mod PaperState
pub mod HostState
