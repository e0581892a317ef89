-- What contracts mean stands in order_complex; Numbers and Ranks are what the code keeps for itself.
pub mod Numbers
pub mod Ranks
