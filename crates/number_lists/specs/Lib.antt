-- What the contracts mean: Words, Members, Cofaces, Reach, and Numbers, inserted and inserted_all of Found.
-- What the code keeps for itself: Cuts, Rooms, and IsMarked of Found.
pub mod Words
pub mod Members
pub mod Cofaces
pub mod Reach
pub mod Found
pub mod Cuts
pub mod Rooms
